-- `packing::add_share` meets its contract. The loop's invariant: the loads below k have the share added where the link's bit is set, and
-- those from k on are as they were, so that each is added to once. Assumes nothing.
use Rattle.packing.specs.Loads.{ShareAdded}
use Rattle.packing.proofs.add_share.Given as goal

abbrev pub invariant-loop-k : goal.invariant-loop-k
invariant-loop-k l = ShareAdded l.map l.share l.initial.loads l.loads l.k
