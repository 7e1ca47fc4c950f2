-- What is left to prove of `nodes_by_place`.
use mathlib.Core.Path.{refl}
use native.Mathlib.Numerals.{add-one}
use native.Mathlib.Omega.{arith}
use lib.ListN.{length-set}
use Rattle.tree_places.proofs.SmallLaws.{zeros_within, set-within}
use Rattle.tree_places.proofs.KeptLaws.{node-more}
use Rattle.tree_places.proofs.nodes_by_place.Goals as goal

pub loop-x-init : goal.loop-x-init
loop-x-init c = (refl, zeros_within c.args.nodes c.requires.some, λ net t uplinks stop k q y b. absurd (omega arith))

pub loop-x-preserved : goal.loop-x-preserved
loop-x-preserved c =
    let l = c.loop-x in (
      simp length-set l.invariant.0,
      set-within l.node _ l.x _ l.invariant.0 c.loop-x-test.true l.invariant.1,
      λ net t uplinks stop k q. rw add-one (node-more k l.node l.x (omega arith) (omega arith) (l.invariant.2 net t uplinks stop k q)),
    )

pub returns : goal.returns
returns c =
    let l = c.loop-x in
    record { nodes_known = l.invariant.1; by_place = λ net t uplinks stop k q y b. l.invariant.2 net t uplinks stop k q y (omega arith) }
