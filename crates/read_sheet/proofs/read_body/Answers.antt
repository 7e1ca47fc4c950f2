-- `read_body` meets its contract. What the links' reading, the trees' reading and the end make of the sheet is what the definition makes of
-- them, since the arrays hold the network of the links that were read. Assumes nothing.
use mathlib.Core.Path.{◌≡◌, sym, ◌∙◌}
use mathlib.Core.List.{List, []}
use Prim.Native.Nat.{ℕ}
use native.Mathlib.Omega.{arith}
use lib.ListN.{length, drop}
use Rattle.std.proofs.Common.{Result}
use Rattle.std.proofs.lemmas.Result.{err_from_is_err_and}
use Rattle.cuts.specs.Network.{Link, Network}
use Rattle.arrays.specs.Links.{ends_of, first_ends, second_ends, EndsKnown, Held, links_of}
use Rattle.arrays.specs.Records.{trees_from}
use Rattle.arrays.proofs.LinkLaws.{links_of-length}
use Rattle.by_node.proofs.RunLaws.{held-ending}
use Rattle.sheet.specs.Reading.{records}
use Rattle.sheet.specs.Sheet.{current, header_length, tree_record, network}
use Rattle.format.specs.Steps.{step_says}
use Rattle.format.specs.declared.refusals.Refusal.{Refusal}
use Rattle.read_header.specs.HeaderRead.{counts_of}
use Rattle.read_sheet.specs.TreesRead.{TreesRead}
use Rattle.read_sheet.proofs.SheetLaws.{held-links, refused-by_links, refused-by_trees, bytes_left, sheet-read}
use Rattle.read_sheet.proofs.read_body.Goals as goal
use Rattle.read_sheet.proofs.read_body.Goals.{In_ok-at}

-- the links that the arrays hold, and their network
links-here : (links : ℕ) (ends : List (List ℕ)) (weights : List ℕ) → List Link
links-here links ends weights = links_of links (first_ends ends) (second_ends ends) weights

net-here : (nodes links : ℕ) (ends : List (List ℕ)) (weights : List ℕ) → Network
net-here nodes links ends weights = network nodes (links-here links ends weights) []

-- the arrays hold it
module _ (c : In_ok-at) where
  abbrev links-read : List Link
  links-read = links-here c.args.c.links (ends_of c.read_links.new.links) c.read_links.new.links.weights

  abbrev read : Network
  read = net-here c.args.c.nodes c.args.c.links (ends_of c.read_links.new.links) c.read_links.new.links.weights

  held-here : Held read (first_ends (ends_of c.read_links.new.links)) (second_ends (ends_of c.read_links.new.links)) c.args.c.nodes
  unfolding links-here net-here
  held-here =
      let a = c.args in
      let ends = (ends_of c.read_links.new.links) in
      held-links current a.c.nodes a.c.links (first_ends ends) (second_ends ends) c.read_links.new.links.weights (drop header_length a.s.now)
      (drop c.in_ok-at.at a.s.now) c.requires.some c.in_ok-at.ensures.says

  ending_here : EndsKnown (ends_of c.read_links.new.links) c.args.c.nodes c.args.c.links
  unfolding links-here net-here
  ending_here k b =
      let a = c.args in
      let ends = (ends_of c.read_links.new.links) in
      let n = links_of-length a.c.links (first_ends ends) (second_ends ends) c.read_links.new.links.weights in
      let e = c.in_ok-at.ensures.arrays.ends_room in
      let m = c.requires.few_links in
      held-ending held-here (omega (arith, n, e.firsts)) (omega (arith, n, e.seconds)) k (omega (arith, n))

-- and what the trees' reading says of it, given what it says of each network that the arrays hold
trees_say : (c : In_ok-at) (r : Result ℕ Refusal) → TreesRead c.args.s.now c.in_ok-at.at c.args.c.nodes c.args.c.links c.args.c.trees (ends_of c.read_links.new.links) r
    → let a = c.args in let at = c.in_ok-at.at in
    step_says (trees_from (read c) a.c.trees (drop at a.s.now)) a.s.now r ≡ records (λ _. tree_record (read c)) a.c.trees [] (drop at a.s.now)
unfolding links-here net-here
trees_say c r e =
    let a = c.args in
    let ends = (ends_of c.read_links.new.links) in
    e.says (read c) (held-here c) (links_of-length a.c.links (first_ends ends) (second_ends ends) c.read_links.new.links.weights)

pub returns-in_err-at : goal.returns-in_err-at
returns-in_err-at c =
    let p = err_from_is_err_and c.from_residual.result c.from_residual.ensures.1 in
    let links = c.in_err-at.ensures in
    rw (p.1, p.2) (record {
      says = refused-by_links current c.args.s.now (counts_of c.args.c) _ links.says;
      trees_last = tt;
      arrays = tt;
    })

pub read_trees-requires : goal.read_trees-requires
read_trees-requires c =
    let p = c.requires in
    record {
      inside = c.in_ok-at.ensures.inside;
      links_known = record { some = p.some; few_nodes = p.few_nodes; few_links = p.few_links; known = ending_here (goal.at.read_trees-requires c).In_ok-at };
    }

pub returns-in_err-end : goal.returns-in_err-end
unfolding links-here net-here
returns-in_err-end c =
    let a = c.args in
    let r = c.from_residual-in_err-end in
    let p = err_from_is_err_and r.result r.ensures.1 in
    let l = (goal.at.returns-in_err-end c).In_ok-at in
    let links = c.in_ok-at.ensures in
    rw (p.1, p.2) (record {
      says = refused-by_trees current a.s.now (counts_of a.c) (links-read l) c.in_ok-at.at links.says _ (trees_say l _ c.in_err-end.ensures);
      trees_last = tt;
      arrays = tt;
    })

pub returns-then-end-s : goal.returns-then-end-s
unfolding links-here net-here
returns-then-end-s c =
    let a = c.args in
    let at = c.in_ok-at.at in
    let l = (goal.at.returns-then-end-s c).In_ok-at in
    let links = c.in_ok-at.ensures in
    record {
      says = bytes_left current a.s.now (counts_of a.c) (links-read l) at links.says
          (trees_from (read l) a.c.trees (drop at a.s.now)) c.in_ok-end.end (trees_say l _ c.in_ok-end.ensures) c.if-end-s.true;
      trees_last = tt;
      arrays = tt;
    }

pub returns : goal.returns
unfolding links-here net-here
returns c =
    let a = c.args in
    let at = c.in_ok-at.at in
    let l = (goal.at.returns c).In_ok-at in
    let links = c.in_ok-at.ensures in
    let e = c.in_ok-end.ensures.ends_at in
    let last : c.in_ok-end.end ≡ length a.s.now = omega (arith, e.inside, c.if-end-s.false) in
    record {
      says = sheet-read current a.s.now (counts_of a.c) (links-read l) at links.says
          (trees_from (read l) a.c.trees (drop at a.s.now)) c.in_ok-end.end (trees_say l _ c.in_ok-end.ensures) last;
      trees_last = sym e.here ∙ last;
      arrays = links.arrays;
    }
