-- `packing::floor_of` meets its contract: the sum is that of the trees that count, and the test of `floor_from` is the definition's.
-- Assumes nothing.
use Rattle.cuts.specs.Bound.{floor}
use Rattle.packing.proofs.floor_of.Goals as goal

pub returns : goal.returns
unfolding floor
returns c net w = rw (c.floor_from.ensures, (c.count_trees-shares.ensures.totals net w).sums)
