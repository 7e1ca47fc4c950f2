-- `tree_rows::start_row` meets its contract. Where u + 1 is below u, its run lies in u's; else there is nothing behind u below it, and the
-- zeros are the tallies of no places.
-- Assumes nothing.
use Rattle.std.proofs.Common.{◌≡◌, ◌<◌, length, take, replicate, add-one, arith, length-take-le}
use Rattle.tree_rows.proofs.RowLaws.{start-child, start_leaf, cleared}
use Rattle.tree_rows.proofs.start_row.Goals as goal

pub returns-then-u-stops : goal.returns-then-u-stops
returns-then-u-stops c net t place node links k n z d h =
    let u = c.args.u in
    let b : u < net.nodes = omega arith in
    rw (add-one u) (start-child k u z b (omega arith) (λ e. h (omega arith)))

pub returns-else-u-stops : goal.returns-else-u-stops
returns-else-u-stops c net t place node links k n z d h =
    let a = c.args in
    let zeros : c.fill.new.self ≡ replicate (length (take a.nodes a.tallies.now)) 0 = c.fill.ensures.after (λ y e. e) in
    rw (add-one a.u) (start_leaf k a.u (omega arith) (λ y b. cleared _ zeros (length-take-le a.nodes a.tallies.now (omega arith)) y (omega arith)))
