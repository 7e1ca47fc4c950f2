-- `tree_places::place_nodes` meets its contract. The loop's invariant: every place is a byte and every stop known, and of every tree that
-- the order, the sizes and the heaviest children fit, the nodes before x have their places. A turn gives one node more its place,
-- from its parent's.
-- Assumes nothing.
use Prim.Native.Nat.{ℕ, ◌+◌}
use mathlib.Core.Path.{◌≡◌}
use mathlib.Core.List.{List}
use lib.ListN.{length}
use Rattle.cuts.specs.Network.{Network, Tree}
use Rattle.cuts.specs.Limits.{most_nodes}
use Rattle.arrays.specs.Lists.{Within}
use Rattle.tree_places.specs.Places.{StopsKnown, Rooted, Sized, Heaviest}
use Rattle.tree_places.specs.Passes.{Placing}
use Rattle.tree_places.proofs.place_nodes.Given as goal

abbrev pub invariant-loop-x : goal.invariant-loop-x
invariant-loop-x l =
    (length l.place ≡ most_nodes) × (length l.stop ≡ most_nodes) × (length l.free ≡ most_nodes)
    × Within l.place most_nodes most_nodes × StopsKnown l.stop
    × ((net : Network) (t : Tree) (uplinks : List ℕ) → Rooted net t l.g.order l.g.parents uplinks l.nodes → Sized net t uplinks l.sizes
    → Heaviest net l.g.parents l.sizes l.heavy → Placing net l.g.order l.g.parents l.sizes l.heavy (l.x-index + 1) l.place l.stop l.free)
