-- What is left to prove of `subtree_sizes`.
use Prim.Native.Nat.{ℕ}
use mathlib.Core.Path.{refl}
use native.Mathlib.Omega.{arith}
use lib.ListN.{length-set, get_or-replicate}
use Rattle.cuts.specs.Limits.{most_nodes}
use Rattle.tree_places.proofs.SizeLaws.{sized-first, sized-turn, sized-last}
use Rattle.tree_places.proofs.subtree_sizes.Goals as goal

pub loop-i-init : goal.loop-i-init
loop-i-init c =
    (refl, omega arith, λ net t uplinks w. sized-first w _ (λ x b. get_or-replicate {A = ℕ} most_nodes x 1 0 (omega arith)))

pub loop-i-preserved : goal.loop-i-preserved
loop-i-preserved c =
    let l = c.loop-i in (
      simp length-set l.invariant.0,
      omega arith,
      λ net t uplinks w. rw c.sum.ensures (sized-turn w l.i l.sizes (omega arith) (omega arith) (omega arith) l.invariant.0 (l.invariant.2 net t uplinks w)),
    )

pub returns : goal.returns
returns c = λ net t uplinks w. let l = c.loop-i in sized-last w l.i l.sizes (omega arith) l.invariant.1 (l.invariant.2 net t uplinks w)
