-- `tree_rows::sum_row` meets its contract. Both loops' invariant: the sums up to y are there. In the first loop, y is one of the places that
-- are crossed, in the second it is behind them.
-- Assumes nothing.
use Rattle.tree_rows.proofs.SumLaws.{Summing}
use Rattle.tree_rows.proofs.sum_row.Given as goal

abbrev pub invariant-loop-y : goal.invariant-loop-y
invariant-loop-y l = Summing l.degrees l.tallies l.stop l.nodes l.u l.sums l.sum l.y

abbrev pub invariant-loop-y-2 : goal.invariant-loop-y-2
invariant-loop-y-2 l = Summing l.degrees l.tallies l.stop l.nodes l.u l.sums l.sum l.y
