-- `search_tree::search_tree` meets its contract. The loop's invariant: the row of u stands in the figures, and what is found is the first of
-- what was reached in the rows from u on.
-- Assumes nothing.
use Rattle.cuts.specs.Network.{Network, Tree}
use Rattle.cuts.specs.Candidate.{Candidate, fewer_nodes, ahead}
use Rattle.arrays.specs.ByNode.{Degrees}
use Rattle.tree_rows.specs.Making.{TreeHeld, RowsHeld}
use Rattle.search_order.specs.Choice.{Says}
use Rattle.search_order.specs.Visits.{Reached}
use Rattle.search_tree.proofs.search_tree.Given as goal

abbrev pub invariant-loop-u : goal.invariant-loop-u
invariant-loop-u l =
    (net : Network) (t : Tree) (c : Candidate) → TreeHeld net t l.links l.index l.p l.p.links l.nodes → Degrees net l.index.degrees
    → Says l.initial.best c
    → RowsHeld net t l.links l.index l.p l.p.links l.nodes l.u l.figures
    × Reached (ahead fewer_nodes) c net l.tree t l.p.links l.u l.nodes l.best
