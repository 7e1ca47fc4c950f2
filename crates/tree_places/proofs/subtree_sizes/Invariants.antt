-- `tree_places::subtree_sizes` meets its contract. The loop's invariant: of every tree that the order fits, each node has one for itself and
-- the sizes of its children's subtrees from position i on. A turn adds the node before to its parent.
-- Assumes nothing.
use Prim.Native.Nat.{ℕ, ◌<◌}
use mathlib.Core.Path.{◌≡◌}
use mathlib.Core.List.{List}
use lib.ListN.{length}
use Rattle.cuts.specs.Network.{Network, Tree}
use Rattle.cuts.specs.Limits.{most_nodes}
use Rattle.tree_places.specs.Places.{Rooted}
use Rattle.tree_places.specs.Passes.{SizedFrom}
use Rattle.tree_places.proofs.subtree_sizes.Given as goal

abbrev pub invariant-loop-i : goal.invariant-loop-i
invariant-loop-i l =
    (length l.sizes ≡ most_nodes) × (0 < l.i)
    × ((net : Network) (t : Tree) (uplinks : List ℕ) → Rooted net t l.g.order l.g.parents uplinks l.nodes
    → SizedFrom net t l.g.order l.g.parents uplinks l.i l.sizes)
