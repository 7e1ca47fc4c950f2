-- `search_ties::mark_ties` meets its contract. The loop's invariant: the row of u stands in the figures, and the light ones of the rows from
-- u on are marked.
-- Assumes nothing.
use Rattle.std.proofs.Common.{ℕ, List}
use Rattle.cuts.specs.Network.{Network, Tree}
use Rattle.arrays.specs.ByNode.{Degrees}
use Rattle.tree_rows.specs.Making.{TreeHeld, RowsHeld}
use Rattle.search_ties.specs.Ties.{InRows, LightMarked}
use Rattle.search_ties.proofs.mark_ties.Given as goal

abbrev pub invariant-loop-u : goal.invariant-loop-u
invariant-loop-u l =
    (net : Network) (t : Tree) (by_place : List ℕ) → TreeHeld net t l.links l.index l.r.places by_place l.nodes → Degrees net l.index.degrees
    → RowsHeld net t l.links l.index l.r.places by_place l.nodes l.u l.figures
    × LightMarked net t by_place l.r.rank (InRows l.nodes l.u l.nodes) l.limit l.table
