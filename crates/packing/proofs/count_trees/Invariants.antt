-- `packing::count_trees` meets its contract. The loop's invariant: the loads and the sum are those of the first i trees, for every network
-- with as many links, and no load is past its link's weight. A turn tests the next record, whose map is a slice of the sheet; at the first tree
-- that would load a link past its weight the run ends. No sum grows past 32 shares, each below 2^32. Assumes nothing.
use Rattle.packing.proofs.ShareLaws.{Loaded}
use Rattle.packing.proofs.count_trees.Given as goal

abbrev pub invariant-loop-i : goal.invariant-loop-i
invariant-loop-i l = Loaded l.bytes l.weights l.layout.records l.layout.links l.loads l.sum l.i
