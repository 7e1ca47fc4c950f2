-- What is left to prove of `link_lines`.
use native.Mathlib.Omega.{arith}
use Rattle.print_trunks.specs.Output.{lines_from}
use Rattle.print_text.proofs.LineLaws.{put-nothing, put_both}
use Rattle.print_trunks.proofs.LineLaws.{lines_more}
use Rattle.print_trunks.proofs.link_lines.Goals as goal

pub loop-link-init : goal.loop-link-init
unfolding lines_from
loop-link-init c = record { put = put-nothing _; few = omega arith }

pub loop-link-preserved : goal.loop-link-preserved
loop-link-preserved c =
    let l = c.loop-link in
    rw (lines_more c.args.numbers.now l.link c.loop-link-test.true) (put_both l.invariant c.link_line.ensures (omega arith))
