-- What is left to prove of `read_links`.
use mathlib.Core.Path.{refl}
use native.Mathlib.Omega.{arith}
use borrow.Author.Rules.{rules}
use Rattle.cuts.specs.Sums.{table}
use Rattle.std.proofs.lemmas.Result.{err_from_is_err_and}
use Rattle.sheet.specs.Sheet.{current}
use Rattle.arrays.specs.Links.{links_of}
use Rattle.sheet.proofs.ReadingLaws.{run-start}
use Rattle.sheet.proofs.Acceptance.{GoodLink}
use Rattle.read_links.specs.LinksRead.{link_of}
use Rattle.read_links.proofs.LinksLaws.{links-stop, links-more, links_done, next-good, arrays-of}
use Rattle.read_links.proofs.read_links.Goals as goal
use Rattle.read_links.proofs.read_links.Goals.{In_ok-link}

-- a link that was read has its ends at nodes
good : (c : In_ok-link) → GoodLink current c.args.nodes (link_of c.in_ok-link.field-0-0)
good c = next-good c.loop-k.invariant c.loop-k-test.true _ _ c.in_ok-link.ensures.says

pub loop-k-init : goal.loop-k-init
unfolding links_of table
loop-k-init c = record {
  run = run-start _ _ _;
  last = refl;
  inside = omega arith;
  few = omega arith;
  firsts_room = search rules;
  seconds_room = search rules;
  weights_room = search rules;
  room = omega arith;
}

pub overflow_cast-links : goal.overflow_cast-links
overflow_cast-links c = let g = good (goal.at.overflow_cast-links c).In_ok-link in omega (arith, g.first_in)

pub overflow_cast-links-in-loop-k : goal.overflow_cast-links-in-loop-k
overflow_cast-links-in-loop-k c = let g = good (goal.at.overflow_cast-links-in-loop-k c).In_ok-link in omega (arith, g.second_in)

pub returns-in_err-link : goal.returns-in_err-link
returns-in_err-link c =
    let l = c.loop-k.invariant in
    let p = err_from_is_err_and c.from_residual.result c.from_residual.ensures.1 in
    rw (p.1, p.2) (record { says = links-stop l c.loop-k-test.true _ c.in_err-link.ensures.says; inside = tt; arrays = arrays-of l })

pub loop-k-preserved : goal.loop-k-preserved
loop-k-preserved c =
    let read = c.in_ok-link.ensures in
    links-more c.loop-k.invariant c.loop-k-test.true _ _ read.says read.inside

pub returns : goal.returns
returns c = let l = c.loop-k.invariant in record { says = links_done l (omega arith); inside = l.inside; arrays = arrays-of l }
