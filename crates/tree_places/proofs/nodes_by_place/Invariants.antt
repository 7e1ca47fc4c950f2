-- `tree_places::nodes_by_place` meets its contract. The loop's invariant: every number is a node, and of every preorder the nodes below x stand
-- at their places. A turn puts one node more at its place, which is no other's.
-- Assumes nothing.
use Prim.Native.Nat.{ℕ, ◌<◌}
use mathlib.Core.Path.{◌≡◌}
use mathlib.Core.List.{List}
use lib.ListN.{length}
use Rattle.cuts.specs.Network.{Network, Tree}
use Rattle.cuts.specs.Limits.{most_nodes}
use Rattle.arrays.specs.Lists.{entry, Within}
use Rattle.tree_places.specs.Places.{Preorder}
use Rattle.tree_places.proofs.nodes_by_place.Given as goal

abbrev pub invariant-loop-x : goal.invariant-loop-x
invariant-loop-x l =
    (length l.node ≡ most_nodes) × Within l.node most_nodes l.nodes
    × ((net : Network) (t : Tree) (uplinks stop : List ℕ) → Preorder net t uplinks l.place stop → net.nodes ≡ l.nodes
    → (y : ℕ) → y < l.x → entry l.node (entry l.place y) ≡ y)
