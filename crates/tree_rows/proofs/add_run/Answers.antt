-- What is left to prove of `add_run`.
use Rattle.std.proofs.Common.{◌≡◌, add-one, arith}
use Rattle.tree_rows.proofs.RowLaws.{tallied_behind}
use Rattle.tree_rows.proofs.add_run.Goals as goal

pub loop-at-preserved : goal.loop-at-preserved
loop-at-preserved c net t by_place nodes first s x b e h =
    let p = c.loop-at.at in
    let k = s.kept in
    let n = s.indexed.laid.held.sized in
    let y = k.taken p (omega arith) in
    rw (add-one p)
    (tallied_behind k s.indexed.light p (omega arith) (c.add_links.ensures net t by_place nodes s (omega arith)) first (omega arith)
    (c.loop-at.invariant net t by_place nodes first s x b e h))

pub returns : goal.returns
returns c net t by_place nodes first s a b e h =
    let l = c.loop-at in
    let q : l.at ≡ c.args.to = omega (arith, l.auto.at-end b) in
    rw q at (l.invariant net t by_place nodes first s a b e h)
