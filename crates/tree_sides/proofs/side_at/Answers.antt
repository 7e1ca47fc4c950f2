-- `tree_sides::side_at` meets its contract: the nodes below a link are those between the layers of its place and of its stop, and for one
-- link the first layer stands for both layers of a second. Assumes nothing.
use Rattle.arrays.specs.Lists.{entry}
use Rattle.tree_sides.proofs.NodeLaws.{odd-side, one_in_layers, two_in_layers}
use Rattle.tree_sides.proofs.side_at.Goals as goal

pub returns-then-u-v : goal.returns-then-u-v
returns-then-u-v c net t place node links k i j m =
    let a = c.args in
    odd-side a.layers.now (entry a.stops.now a.u) a.u 0 0 c.odd_words.ensures
    (one_in_layers a.layers.now k m i j c.if-u-v.true)

pub returns : goal.returns
returns c net t place node links k i j m =
    let a = c.args in
    odd-side a.layers.now (entry a.stops.now a.u) a.u (entry a.stops.now a.v) a.v c.odd_words-2.ensures
    (two_in_layers a.layers.now k m i j c.if-u-v.false)
