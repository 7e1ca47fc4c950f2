-- `pair_rows::write_row` meets its contract. The loop's invariant: the pairs up to column v are written.
-- Assumes nothing.
use Prim.Native.Nat.{ℕ, ◌+◌}
use mathlib.Core.Path.{◌≡◌}
use mathlib.Core.List.{List}
use Rattle.cuts.specs.Network.{Network, Tree}
use Rattle.tree_rows.specs.Reading.{RowHeld}
use Rattle.pair_rows.specs.Writing.{PairsTo, BehindPairs}
use Rattle.pair_rows.proofs.write_row.Given as goal

abbrev pub invariant-loop-v : goal.invariant-loop-v
invariant-loop-v l =
    BehindPairs l.nodes l.initial.area l.area
    × ((net : Network) (t : Tree) (place node links : List ℕ) → RowHeld net t place node l.stops links l.u l.figures → net.nodes ≡ l.nodes
    → PairsTo net t links l.rank l.nodes (l.u + 1) l.nodes l.initial.area → PairsTo net t links l.rank l.nodes l.u l.v l.area)
