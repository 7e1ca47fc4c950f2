-- `tree_growth::grow_queue` meets its contract. The outer loop's invariant: of every network and tree that the arrays hold, the first `found`
-- positions of `order` are an order in the making, and at the first i of them no member leads to a node that is not reached. The inner
-- loop's: besides, the members of node x, at position i, do not up to k.
-- Assumes nothing.
use Prim.Native.Nat.{◌-◌}
use Rattle.tree_growth.proofs.QueueLaws.{Run, Row, marks}
use Rattle.tree_growth.proofs.grow_queue.Given as goal

abbrev pub invariant-loop-k : goal.invariant-loop-k
invariant-loop-k l =
    Row l.firsts l.seconds l.starts l.runs l.nodes (marks l.reached) l.tree.order l.tree.parents l.tree.uplinks l.i l.found l.x l.k-index

abbrev pub invariant-loop-found : goal.invariant-loop-found
invariant-loop-found l =
    Run l.firsts l.seconds l.starts l.runs l.nodes (marks l.reached) l.tree.order l.tree.parents l.tree.uplinks l.i l.found

abbrev pub decreases-loop-found : goal.decreases-loop-found
decreases-loop-found l = 256 - l.i
