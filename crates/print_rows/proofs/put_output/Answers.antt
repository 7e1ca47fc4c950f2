-- What is left to prove of `put_output`.
use native.Mathlib.Omega.{arith}
use Rattle.print_rows.specs.Output.{row_lines}
use Rattle.print_text.proofs.LineLaws.{put-nothing, put_both, put_in}
use Rattle.print_rows.proofs.LineLaws.{lines_more, all_lines}
use Rattle.print_rows.proofs.put_output.Goals as goal

pub loop-rank-init : goal.loop-rank-init
unfolding row_lines
loop-rank-init c = record { put = put-nothing _; few = omega arith }

pub loop-rank-preserved : goal.loop-rank-preserved
loop-rank-preserved c =
    let l = c.loop-rank in
    rw (lines_more l.rank c.loop-rank-test.true) (put_both l.invariant c.row_line.ensures (omega arith))

pub returns : goal.returns
returns c =
    let l = c.loop-rank in
    put_in l.invariant (all_lines l.rank c.loop-rank-test.false) (omega arith)
