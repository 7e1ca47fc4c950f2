-- `tree_sides::counts::single_count` meets its contract: a stop is behind its place, so that the difference does not wrap.
-- Assumes nothing.
use Rattle.std.proofs.Common.{arith}
use Rattle.tree_sides.proofs.CountLaws.{single-count}
use Rattle.tree_sides.proofs.counts.single_count.Goals as goal

pub returns : goal.returns
returns c net t place node links k z b =
    let u = c.args.u in
    let small = c.requires.stops_known u c.requires.place in
    let count = single-count k u z b in
    omega arith
