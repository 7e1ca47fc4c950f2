-- `tree_crossings::flip_ends` meets its contract. The loop's invariant: the bits of the members before r are set behind their ends, and no
-- other is.
-- Assumes nothing.
use mathlib.Core.Path.{◌≡◌}
use lib.ListN.{length}
use Rattle.place_layers.specs.Layers.{layers_length}
use Rattle.tree_crossings.specs.Layers.{EndsFlipped}
use Rattle.tree_crossings.proofs.flip_ends.Given as goal

abbrev pub invariant-loop-r : goal.invariant-loop-r
invariant-loop-r l = record {
  all : length l.layers ≡ layers_length;
  flipped : EndsFlipped l.links.firsts l.links.seconds l.members l.r l.place l.layers;
}
