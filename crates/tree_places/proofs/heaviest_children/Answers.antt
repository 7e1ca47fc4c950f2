-- What is left to prove of `heaviest_children`.
use Prim.Native.Nat.{ℕ, ◌+◌}
use mathlib.Core.Path.{refl}
use native.Mathlib.Numerals.{add-one}
use native.Mathlib.Omega.{arith}
use lib.ListN.{length-set, get_or-replicate}
use Rattle.cuts.specs.Limits.{most_nodes}
use Rattle.tree_places.proofs.SmallLaws.{after_root, after_root-length}
use Rattle.tree_places.proofs.HeavyLaws.{heavy-start, heavy-turn, heavy-last}
use Rattle.tree_places.proofs.heaviest_children.Goals as goal

pub loop-x-init : goal.loop-x-init
loop-x-init c = (refl, λ net t uplinks w. heavy-start _ _ _ _ 1 (omega arith) (λ x b. get_or-replicate {A = ℕ} most_nodes x 0 0 b))

pub loop-x-preserved : goal.loop-x-preserved
loop-x-preserved c =
    let l = c.loop-x in
    let a = c.args in
    let i = l.x-index + 1 in
    let n = after_root-length a.g.now.order a.nodes (omega arith) in (
      simp length-set l.invariant.0,
      λ net t uplinks w.
          rw (add-one i, c.heavier_one.ensures, after_root a.g.now.order a.nodes l.x-index (omega arith))
          (heavy-turn w _ l.heavy i (omega arith) (omega arith) (omega arith) l.invariant.0 (l.invariant.1 net t uplinks w)),
    )

pub returns : goal.returns
returns c = λ net t uplinks w.
    let l = c.loop-x in
    let n = after_root-length c.args.g.now.order c.args.nodes (omega arith) in
    heavy-last w _ l.heavy (l.x-index + 1) (omega arith) (omega arith) (l.invariant.1 net t uplinks w)
