-- `tree_places::gather` meets its contract. The loop's invariant: the places below p have what belongs to their nodes, and the stops
-- are known where those to be gathered are. A turn gathers one more.
-- Assumes nothing.
use mathlib.Core.Path.{◌≡◌}
use lib.ListN.{length}
use Rattle.cuts.specs.Limits.{most_nodes}
use Rattle.tree_places.specs.Places.{StopsKnown, Gathered}
use Rattle.tree_places.proofs.gather.Given as goal

abbrev pub invariant-loop-p : goal.invariant-loop-p
invariant-loop-p l = (length l.out ≡ most_nodes) × Gathered l.out l.node l.from l.p × (StopsKnown l.from → StopsKnown l.out)
