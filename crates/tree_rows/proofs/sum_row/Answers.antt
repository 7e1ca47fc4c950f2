-- What is left to prove of `sum_row`.
use Rattle.std.proofs.Common.{arith}
use Rattle.tree_rows.proofs.SumLaws.{summing_start, summing_more, step_in, step_out}
use Rattle.tree_rows.proofs.sum_row.Goals as goal

pub loop-y-init : goal.loop-y-init
loop-y-init c = summing_start c.args.sums.now (omega arith)

pub loop-y-preserved : goal.loop-y-preserved
loop-y-preserved c =
    let y = c.loop-y.y in
    summing_more _ c.loop-y.invariant (omega arith) (λ net place g. step_in y (omega arith) (omega arith) g)

pub loop-y-2-preserved : goal.loop-y-2-preserved
loop-y-2-preserved c =
    let y = c.loop-y-2.y in
    summing_more _ c.loop-y-2.invariant (omega arith) (λ net place g. step_out y (omega arith) (omega arith) g)
