-- What is left to prove of `search_tree`.
use Rattle.std.proofs.Common.{arith}
use Rattle.cuts.specs.Candidate.{fewer_nodes, ahead}
use Rattle.tree_rows.proofs.LoopLaws.{rows_start, rows-turn}
use Rattle.search_order.specs.Visits.{Reached}
use Rattle.cuts.proofs.Demands.{ahead-weighing}
use Rattle.search_order.proofs.ReachedLaws.{reached-start, reached_end}
use Rattle.search_tree.proofs.search_tree.Goals as goal

pub loop-u-init : goal.loop-u-init
loop-u-init c net t x h d says =
    let n = h.indexed.laid.held.sized in
    (rows_start _ h d c.weigh_places.ensures.by_index, reached-start (ahead-weighing fewer_nodes).order _ _ (omega arith) says)

pub loop-u-preserved : goal.loop-u-preserved
loop-u-preserved c net t x h d says =
    let l = c.loop-u in
    let a = c.args in
    let p = a.p.now in
    rows-turn (λ u. Reached (ahead fewer_nodes) x net a.tree t p.links u a.nodes l.best) (omega arith) (omega arith)
    (c.make_row.ensures net t p.links) (c.search_row-best.ensures net t x p.place p.node) (l.invariant net t x h d says)

pub returns : goal.returns
returns c net t x h d p says =
    let l = c.loop-u in
    let n = h.indexed.laid.held.sized in
    reached_end (ahead-weighing fewer_nodes).order h.kept.links-at l.u _ (omega arith) (omega arith) p (l.invariant net t x h d says).1
