-- What is left to prove of `trunks::trunk_numbers`.
use Prim.Native.Nat.{ℕ, ◌+◌, ◌*◌, ◌/◌, ◌%◌, ◌≤◌}
use mathlib.Core.Path.{◌≡◌, ap, ◌∙◌}
use native.Mathlib.Omega.{arith}
use lib.ListN.{length, drop}
use Rattle.sheet.specs.Sheet.{current, record_length, field}
use Rattle.read_links.proofs.RecordLaws.{current-fields, field_start_trunk, field_start_end, record_length-at, trunk_at}
use Rattle.read_links.proofs.TrunkLaws.{trunks-start, next-there, next_small, trunks-more, trunks-done}
use Rattle.read_links.proofs.trunks.trunk_numbers.Goals as goal
use Rattle.read_links.proofs.trunks.trunk_numbers.Goals.{After-trunk_start, After-two_or-trunk, In-loop-k}

-- the next record lies in the sheet
there : (c : In-loop-k) → let a = c.args in let l = c.loop-k in l.at + record_length current (drop l.at a.s.now) ≤ length a.s.now
there c = next-there c.loop-k.invariant c.loop-k-test.true

-- where it ends
module _ (c : After-trunk_start) where
  ends : let l = c.loop-k in let s = c.args.s.now in
      l.at + 1 + c.trunk_start.result + 2 * (c.from-m.result / 8 % 2) ≡ l.at + record_length current (drop l.at s)
  ends =
      let l = c.loop-k in
      let s = c.args.s.now in
      let m = c.from-m.result in
      let size = rw (← c.from-m.ensures) at (record_length-at current l.at s) in
      omega (arith, size, field_start_end current-fields m, field_start_trunk current-fields m, c.trunk_start.ensures)

-- what is read is the record's trunk number
read : (c : After-two_or-trunk) → let l = c.loop-k in
    c.two_or-trunk.result ≡ field current 3 l.trunk (drop l.at c.args.s.now)
read c =
    let l = c.loop-k in
    let s = c.args.s.now in
    let place = ap (λ (i : ℕ). l.at + 1 + i) c.trunk_start.ensures in
    rw place at c.two_or-trunk.ensures ∙ trunk_at l.at c.from-m.result s c.from-m.ensures current-fields l.trunk

pub loop-k-init : goal.loop-k-init
loop-k-init c = trunks-start current c.args.s.now c.args.from c.args.count c.args.numbers.now c.requires.there c.requires.room

pub bounds-s-at : goal.bounds-s-at
bounds-s-at c = omega (arith, there (goal.at.bounds-s-at c).In-loop-k)

pub overflow_add-trunk_at : goal.overflow_add-trunk_at
overflow_add-trunk_at c = omega (arith, there (goal.at.overflow_add-trunk_at c).In-loop-k)

pub overflow_add-trunk_at-in-loop-k : goal.overflow_add-trunk_at-in-loop-k
overflow_add-trunk_at-in-loop-k c = omega (arith, there (goal.at.overflow_add-trunk_at-in-loop-k c).In-loop-k, ends c)

pub two_or-trunk-requires : goal.two_or-trunk-requires
two_or-trunk-requires c = omega (arith, there (goal.at.two_or-trunk-requires c).In-loop-k, ends c)

pub overflow_cast-numbers : goal.overflow_cast-numbers
overflow_cast-numbers c =
    let small = next_small c.loop-k.invariant c.loop-k-test.true current-fields (λ i _. omega (arith, c.type_inv.s i)) in
    omega (arith, small, read c)

pub overflow_add-at : goal.overflow_add-at
overflow_add-at c = omega (arith, there (goal.at.overflow_add-at c).In-loop-k, ends (goal.at.overflow_add-at c).After-trunk_start)

pub loop-k-preserved : goal.loop-k-preserved
loop-k-preserved c =
    let end = ends (goal.at.loop-k-preserved c).After-trunk_start in
    trunks-more c.loop-k.invariant c.loop-k-test.true current-fields (λ i _. omega (arith, c.type_inv.s i)) _ _ (read c) end

pub returns : goal.returns
returns c = trunks-done c.loop-k.invariant c.loop-k-test.false
