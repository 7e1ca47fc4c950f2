-- `tree_rows::Figures::pair_weight` meets its contract: nothing wraps, so that the numbers are those of the row's law.
-- Assumes nothing.
use Rattle.std.proofs.Common.{arith}
use Rattle.tree_rows.proofs.RowLaws.{row-pair}
use Rattle.tree_rows.proofs.Figures.pair_weight.Goals as goal

pub returns : goal.returns
returns c net t place node links h b =
    let a = c.args in
    row-pair h.kept a.u h.some h.light h.row a.v (omega arith) b
