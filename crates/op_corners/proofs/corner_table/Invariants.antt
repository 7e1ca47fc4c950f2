-- `corner_table` meets its contract. The loop's invariant: the table is that of the first k links. Assumes nothing.
use Prim.Native.Nat.{◌≤◌}
use mathlib.Core.Path.{◌≡◌}
use Rattle.op_corners.proofs.FillLaws.{filled_to}
use Rattle.op_corners.proofs.corner_table.Given as goal

abbrev pub invariant-loop-k : goal.invariant-loop-k
invariant-loop-k l = record {
  few : l.k-end ≤ 2048;
  filled : l.table ≡ filled_to l.maps.first.now l.maps.second.now l.fn.layout l.links l.k;
}
