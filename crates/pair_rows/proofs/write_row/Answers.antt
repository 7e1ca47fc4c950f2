-- What is left to prove of `write_row`.
use Prim.Native.Nat.{ℕ, ◌+◌, ◌-◌, ◌≤◌, ◌<◌}
use mathlib.Core.Path.{◌≡◌, subst, sym}
use native.Mathlib.Omega.{arith}
use lib.ListN.{length, set}
use Rattle.pairs.specs.Slots.{row_start}
use Rattle.pair_rows.specs.Writing.{PairsTo}
use Rattle.pair_rows.proofs.WritingLaws.{behind-start, behind-set, pairs_next, slot-room, pairs-more}
use Rattle.pair_rows.proofs.write_row.Goals as goal
use Rattle.pair_rows.proofs.write_row.Goals.{After-pair_slot, At-loop-v}

-- the place lies before the end of the pairs
inside : (c : After-pair_slot) → c.pair_slot.result < row_start (c.args.nodes - 1)
inside c =
    let p = c.requires in
    let a = c.args in
    subst (λ (k : ℕ). k < row_start (a.nodes - 1)) (sym c.pair_slot.ensures)
    (slot-room p.apart a.u c.loop-v.v p.row_at.some (omega arith) (omega arith))

-- and the area reaches as far
room : (c : At-loop-v) → row_start (c.args.nodes - 1) ≤ length c.loop-v.area
room c = omega (arith, c.loop-v.invariant.0.same_length, c.requires.room)

pub loop-v-init : goal.loop-v-init
loop-v-init c =
    let a = c.args in
    (behind-start a.nodes a.area.now, λ net t place node links h n p. pairs_next net t links a.rank.now a.nodes a.area.now a.u p)

pub bounds-area-pair_slot : goal.bounds-area-pair_slot
bounds-area-pair_slot c = omega (arith, inside c, room (goal.at.bounds-area-pair_slot c).At-loop-v)

pub loop-v-preserved : goal.loop-v-preserved
loop-v-preserved c =
    let l = c.loop-v in
    let a = c.args in (
      behind-set l.invariant.0 c.pair_slot.result c.pair_weight.result (inside c),
      λ net x place node links h n p.
          let q : l.v < net.nodes = omega arith in
          let weight = c.pair_weight.ensures net x place node links h q in
          subst (λ (k : ℕ). PairsTo net x links a.rank.now a.nodes a.u (l.v + 1) (set l.area k c.pair_weight.result))
          (sym c.pair_slot.ensures)
          (pairs-more c.requires.apart a.u l.v c.requires.row_at.some (omega arith) (omega arith) net x links l.area _ (room (goal.at.loop-v-preserved c).At-loop-v) weight
          (l.invariant.1 net x place node links h n p)),
    )

pub returns : goal.returns
returns c =
    let l = c.loop-v in
    let a = c.args in
    let all : l.v ≡ a.nodes = omega (arith, l.auto.v-end (omega arith)) in
    record {
      behind = l.invariant.0;
      more = λ net t place node links h n p.
          subst (λ (v : ℕ). PairsTo net t links a.rank.now a.nodes a.u v l.area) all (l.invariant.1 net t place node links h n p);
    }
