-- `tree_sides::node_layers` meets its contract. The loop's invariant: the bits of the nodes before x are set behind their places, and no other
-- is.
-- Assumes nothing.
use Rattle.std.proofs.Common.{◌≡◌, length}
use Rattle.place_layers.specs.Layers.{layers_length}
use Rattle.tree_sides.proofs.NodeLaws.{NodesFlipped}
use Rattle.tree_sides.proofs.node_layers.Given as goal

abbrev pub invariant-loop-x : goal.invariant-loop-x
invariant-loop-x l = (length l.layers ≡ layers_length) × NodesFlipped l.x l.place l.layers
