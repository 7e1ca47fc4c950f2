-- Bit 3 of a link record's map (request F-9). A record without it reads the same with and without trunk numbers, and one with it is
-- refused by 8 in a format of three fields. Assumes nothing.
use Prim.Native.Nat.{ℕ, suc, ◌+◌, ◌-◌, ◌/◌, ◌%◌, ◌^◌, ◌≤◌, ◌<◌}
use mathlib.Core.Path.{◌≡◌, refl, sym, ap₂, ◌∙◌}
use mathlib.Core.Logic.{◌⊎◌, inl, inr}
use mathlib.Core.Bool.{Bool, true, false, ◌&&◌, ◌||◌, not}
use mathlib.Core.List.{List, [], ◌∷◌, ◌++◌}
use native.Mathlib.Nat.{add-zero}
use native.Mathlib.Omega.{arith}
use native.Mathlib.Decide.{dec_le, dec_lt}
use lib.ListN.{length, get_or, drop}
use lib.Dec.{eqb, leb, ltb}
use borrow.Author.Tests.{eqb-true, eqb-false, eq-eqb, ne_eqb, le-leb, lt-leb}
use Rattle.cuts.specs.Sums.{sum_to, only}
use Rattle.cuts.specs.Network.{Link, no_link}
use Rattle.cuts.proofs.FlagLaws.{clash, truth}
use Rattle.sheet.specs.Bytes.{Bytes, bit}
use Rattle.sheet.specs.Reading.{Check, check, first_failing, accepted, refused, unless}
use Rattle.sheet.specs.Sheet.{Format, tolerant, trunked, map_byte, field_start, record_length, field, link_in, wrong_map, shape_checks, value_checks, link_record, next_link, decode}
use Rattle.sheet.proofs.Plain.{trunk_marked, marked}
use Rattle.sheet.proofs.ComesTo.{decode_stopped, link_comes_to-same, decode-same}

-- ---- map bytes

pub bit-set : (m : ℕ) → bit m 3 ≡ true → m / 8 % 2 ≡ 1
bit-set m e = eqb-true (m / 8 % 2) 1 e

pub bit-clear : (m : ℕ) → bit m 3 ≡ false → m / 8 % 2 ≡ 0
bit-clear m e = let d = eqb-false (m / 8 % 2) 1 e in omega arith

-- "For the new readers number 8 begins at 16, and link 0's map must be 7 or 15"
pub map-allowed : (start : Bool) (m : ℕ) → wrong_map trunked start m ≡ (leb 16 m || (start && not (eqb m 7 || eqb m 15)))
map-allowed start m = step (dec_lt m 16)
  where
    low : m < 16 → eqb (m % 8) 7 ≡ (eqb m 7 || eqb m 15)
    low l = go (truth (eqb (m % 8) 7)) (truth (eqb m 7))
      where
        go : (eqb (m % 8) 7 ≡ true) ⊎ (eqb (m % 8) 7 ≡ false) → (eqb m 7 ≡ true) ⊎ (eqb m 7 ≡ false) → eqb (m % 8) 7 ≡ (eqb m 7 || eqb m 15)
        go (inl a) (inl b) = rw (a, b)
        go (inl a) (inr b) = rw (a, b) (sym (eq-eqb m 15 (let c = eqb-true (m % 8) 7 a in let d = eqb-false m 7 b in omega arith)))
        go (inr a) (inl b) = absurd (let c = eqb-false (m % 8) 7 a in let d = eqb-true m 7 b in omega arith)
        go (inr a) (inr b) = rw (a, b) (sym (ne_eqb m 15 (λ e. let c = eqb-false (m % 8) 7 a in omega arith)))

    step : Dec (m < 16) → (leb 16 m || (start && not (eqb (m % 8) 7))) ≡ (leb 16 m || (start && not (eqb m 7 || eqb m 15)))
    step (yes l) = rw (low l)
    step (no l) = rw (le-leb 16 m (omega arith))

-- ---- a link record with four fields and with three

-- the two lengths differ by the trunk number's
pub record_length_trunk : (bs : Bytes) → record_length trunked bs ≡ record_length tolerant bs + only (trunk_marked bs) 2
unfolding field_start sum_to
record_length_trunk bs = omega arith

-- the trunk number stands behind the other fields
pub link_in_trunk : (before : Link) (bs : Bytes) → link_in trunked before bs ≡ link_in tolerant before bs
unfolding link_in field field_start sum_to
link_in_trunk before bs = refl

module _ (bs : Bytes) (clear : trunk_marked bs ≡ false) where
  record_length-clear : record_length trunked bs ≡ record_length tolerant bs
  record_length-clear = record_length_trunk bs ∙ rw clear (add-zero (record_length tolerant bs))

  map-clear : leb 16 (map_byte bs) ≡ leb 8 (map_byte bs)
  map-clear = step (dec_le 16 (map_byte bs))
    where
      step : Dec (16 ≤ map_byte bs) → leb 16 (map_byte bs) ≡ leb 8 (map_byte bs)
      step (yes l) = le-leb 16 (map_byte bs) l ∙ sym (le-leb 8 (map_byte bs) (omega arith))
      step (no l) = lt-leb 16 (map_byte bs) (omega arith) ∙ sym (lt-leb 8 (map_byte bs) (let c = bit-clear (map_byte bs) clear in omega arith))

  shape_checks-clear : (start : Bool) → shape_checks trunked start bs ≡ shape_checks tolerant start bs
  unfolding shape_checks
  shape_checks-clear start =
      ap₂ (λ (b : Bool) (n : ℕ). check 7 (eqb (length bs) 0) ∷ check 8 (b || (start && not (eqb (map_byte bs % 8) 7))) ∷ check 9 (ltb (length bs) n) ∷ [])
      map-clear record_length-clear

  link_record-clear : (nodes : ℕ) (start : Bool) (before : Link) → link_record trunked nodes start before bs ≡ link_record tolerant nodes start before bs
  unfolding link_record value_checks
  link_record-clear nodes start before =
      ap₂ (λ (cs : List Check) (n : ℕ). unless (first_failing (cs ++ value_checks tolerant nodes (link_in tolerant before bs))) (accepted (link_in tolerant before bs) (drop n bs)))
      (shape_checks-clear start) record_length-clear

next_link-clear : (nodes : ℕ) (got : List Link) (bs : Bytes) → trunk_marked bs ≡ false → next_link trunked nodes got bs ≡ next_link tolerant nodes got bs
next_link-clear nodes got bs e = link_record-clear bs e nodes (eqb (length got) 0) (get_or got (length got - 1) no_link)

-- ---- sheets without bit 3, and with it

abbrev test_mark : ℕ → List Link → Bytes → Bool
test_mark nodes got bs = trunk_marked bs

-- both readers come to the same first such record, if to any
pub marked-same : (sheet : Bytes) → marked trunked sheet ≡ marked tolerant sheet
marked-same = link_comes_to-same tolerant trunked test_mark next_link-clear

-- "A sheet without the bit gets the panel reader's old answer"
pub decode-unmarked : (sheet : Bytes) → marked tolerant sheet ≡ false → decode trunked sheet ≡ decode tolerant sheet
decode-unmarked = decode-same tolerant trunked test_mark next_link-clear

module _ (f : Format) (three : 2 ^ length f.widths ≤ 8) where
  link-marked : (nodes : ℕ) (got : List Link) (bs : Bytes) → trunk_marked bs ≡ true → next_link f nodes got bs ≡ refused 8
  unfolding link_record shape_checks first_failing
  link-marked nodes got [] e = clash e refl
  link-marked nodes got (m ∷ bs) e =
      rw (ne_eqb (suc (length bs)) 0 (λ q. omega arith), le-leb (2 ^ length f.widths) m (let c = bit-set m e in omega arith))

  -- "Units already sold turn such a sheet down, with 8 unless an earlier check refuses first": a record that they come to has passed each
  pub decode-marked : (sheet : Bytes) → marked f sheet ≡ true → decode f sheet ≡ refused 8
  decode-marked = decode_stopped f test_mark 8 link-marked
