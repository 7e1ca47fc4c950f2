-- `op_pairs::pair_network` meets its contract: the tree's number decides first, then the area's room. Assumes nothing.
use native.Mathlib.Omega.{arith}
use Rattle.op_pairs.proofs.StepLaws.{outside, short, enough}
use Rattle.op_pairs.proofs.pair_network.Goals as goal

pub returns-then-tree-n : goal.returns-then-tree-n
returns-then-tree-n c = outside c.args.n.now c.args.tree c.args.area.now c.if-tree-n.true

pub returns-then-area-pair_count : goal.returns-then-area-pair_count
returns-then-area-pair_count c =
    short c.args.n.now c.args.tree c.args.area.now c.if-tree-n.false (omega (arith, c.pair_count.ensures, c.if-area-pair_count.true))

pub returns : goal.returns
returns c =
    enough c.args.n.now c.args.tree c.args.area.now c.if-tree-n.false (omega (arith, c.pair_count.ensures, c.if-area-pair_count.false)) c.write_tree.ensures
