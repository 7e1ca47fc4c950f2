-- `read_links::record_end` meets its contract: behind the tests the map byte is allowed, and the fields take the bytes that it says; so each
-- answer is the first check that fails, or the record ends in the sheet. Assumes nothing.
use Prim.Native.Nat.{◌%◌, ◌<◌}
use mathlib.Core.Path.{◌≡◌, sym}
use mathlib.Core.Bool.{true}
use native.Mathlib.Omega.{arith}
use lib.ListN.{get_or}
use Rattle.cuts.proofs.FlagLaws.{clash}
use Rattle.sheet.specs.Sheet.{current, field_start}
use Rattle.read_links.proofs.RecordLaws.{fields_of-allowed, fields_of-refused, record_length-at, no-map_byte, map-byte_above, map-byte_of_start, field_cut_off, record_whole}
use Rattle.read_links.proofs.record_end.Goals as goal
use Rattle.read_links.proofs.record_end.Goals.{In-Some, Joined-else-m-ne-ENDS_AND_WEIGHT, else-m-ne-ENDS_AND_WEIGHT-via-else-m-ne-ENDS_AND_WEIGHT, else-m-ne-ENDS_AND_WEIGHT-via-then-m-ne-ENDS_AND_WEIGHT+else-start}

-- the map byte of link 0 has its three lowest bits
start_seven : (c : Joined-else-m-ne-ENDS_AND_WEIGHT) → let a = c.args in a.start ≡ true → get_or a.s.now a.at 0 % 8 ≡ 7
start_seven c = elim c.else-m-ne-ENDS_AND_WEIGHT.branch [
  | else-m-ne-ENDS_AND_WEIGHT-via-then-m-ne-ENDS_AND_WEIGHT+else-start w ↦ λ e. clash e w.if-start.false
  | else-m-ne-ENDS_AND_WEIGHT-via-else-m-ne-ENDS_AND_WEIGHT w ↦ λ e. omega arith
]

-- the map byte is allowed, and n is the length of its fields
allowed : (c : In-Some) → let a = c.args in
    (get_or a.s.now a.at 0 < 16) × (c.in-Some.n ≡ field_start current (get_or a.s.now a.at 0) 4)
allowed c = fields_of-allowed current _ _ c.in-Some.ensures

pub returns-then-at-s : goal.returns-then-at-s
returns-then-at-s c = let a = c.args in record { number = sym (no-map_byte current a.start a.at a.s.now (omega arith)); ends_at = omega arith }

pub returns-then-start : goal.returns-then-start
returns-then-start c =
    let a = c.args in
    record { number = sym (map-byte_of_start current a.start a.at a.s.now (omega arith) c.if-start.true (λ l e. omega arith)); ends_at = omega arith }

pub returns-then-s-at : goal.returns-then-s-at
returns-then-s-at c =
    let a = c.args in
    let m = allowed (goal.at.returns-then-s-at c).In-Some in
    let e = start_seven (goal.at.returns-then-s-at c).Joined-else-m-ne-ENDS_AND_WEIGHT in
    record { number = sym (field_cut_off current a.start a.at a.s.now (omega arith) m.0 e (omega arith)); ends_at = omega arith }

pub returns : goal.returns
returns c =
    let a = c.args in
    let m = allowed (goal.at.returns c).In-Some in
    let e = start_seven (goal.at.returns c).Joined-else-m-ne-ENDS_AND_WEIGHT in
    record {
      number = sym (record_whole current a.start a.at a.s.now (omega arith) m.0 e (omega arith));
      ends_at = record { here = omega (arith, record_length-at current a.at a.s.now); inside = omega arith };
    }

pub returns-in_default : goal.returns-in_default
returns-in_default c =
    let a = c.args in
    let above = fields_of-refused current _ c.in_default.ensures in
    record { number = sym (map-byte_above current a.start a.at a.s.now (omega arith) above); ends_at = omega arith }
