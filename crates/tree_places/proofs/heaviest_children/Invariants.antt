-- `tree_places::heaviest_children` meets its contract. The loop's invariant: of every tree that the order fits, each node has the heaviest of
-- its children before x. A turn holds one node more against the heaviest of its parent's.
-- Assumes nothing.
use Prim.Native.Nat.{ℕ, ◌+◌}
use mathlib.Core.Path.{◌≡◌}
use mathlib.Core.List.{List}
use lib.ListN.{length}
use Rattle.cuts.specs.Network.{Network, Tree}
use Rattle.cuts.specs.Limits.{most_nodes}
use Rattle.tree_places.specs.Places.{Rooted}
use Rattle.tree_places.specs.Passes.{Heavy}
use Rattle.tree_places.proofs.heaviest_children.Given as goal

abbrev pub invariant-loop-x : goal.invariant-loop-x
invariant-loop-x l =
    (length l.heavy ≡ most_nodes)
    × ((net : Network) (t : Tree) (uplinks : List ℕ) → Rooted net t l.g.order l.g.parents uplinks l.nodes
    → Heavy l.g.order l.g.parents l.sizes l.heavy (l.x-index + 1))
