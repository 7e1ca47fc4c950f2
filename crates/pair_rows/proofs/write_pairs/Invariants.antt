-- `pair_rows::write_pairs` meets its contract. The loop's invariant: the row of u stands in the figures, and the pairs of the rows from u on are
-- written.
-- Assumes nothing.
use Rattle.std.proofs.Common.{ℕ, List}
use Rattle.cuts.specs.Network.{Network, Tree}
use Rattle.arrays.specs.ByNode.{Degrees}
use Rattle.tree_rows.specs.Making.{TreeHeld, RowsHeld}
use Rattle.pair_rows.specs.Writing.{PairsTo, BehindPairs}
use Rattle.pair_rows.proofs.write_pairs.Given as goal

abbrev pub invariant-loop-u : goal.invariant-loop-u
invariant-loop-u l =
    BehindPairs l.nodes l.initial.area l.area
    × ((net : Network) (t : Tree) (by_place : List ℕ) → TreeHeld net t l.links l.index l.r.places by_place l.nodes → Degrees net l.index.degrees
    → RowsHeld net t l.links l.index l.r.places by_place l.nodes l.u l.figures
    × PairsTo net t by_place l.r.rank l.nodes l.u l.nodes l.area)
