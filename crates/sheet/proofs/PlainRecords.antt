-- A link record without bit 3 and trunk number (request F-9): map byte, other fields and what stands behind it stay, so that it is read as
-- the record was. Only where the trunk number is cut off by the sheet's end, which is 9, the record without it may be whole.
-- Assumes nothing.
use Prim.Native.Nat.{ℕ, zero, suc, ◌+◌, ◌-◌, ◌/◌, ◌%◌, ◌^◌, ◌≤◌, ◌<◌}
use mathlib.Core.Path.{◌≡◌, refl, sym, ap, ap₂, ◌∙◌}
use mathlib.Core.Logic.{◌⊎◌, inl, inr}
use mathlib.Core.Bool.{Bool, true, false, ◌&&◌, ◌||◌, not, cond}
use mathlib.Core.List.{[], ◌∷◌, ◌++◌}
use native.Mathlib.Numerals.{one-add}
use native.Mathlib.Omega.{arith}
use native.Mathlib.Decide.{dec_le}
use lib.ListN.{length, get_or, take, drop, length-append, take-append-drop}
use lib.Seq.{length-take-le, take_all, drop_at}
use lib.Dec.{eqb, leb}
use borrow.Author.Tests.{ne_eqb, le-leb, lt-leb, leb-false, le-ltb, lt-ltb}
use Rattle.cuts.specs.Sums.{sum_to, only}
use Rattle.cuts.specs.Network.{Link}
use Rattle.cuts.proofs.FlagLaws.{truth}
use Rattle.cuts.proofs.SumLaws.{sum_congr, sum_less}
use Rattle.sheet.specs.Bytes.{Bytes, number, bit}
use Rattle.sheet.specs.Reading.{first_failing, Reading, accepted, refused, number_of, unless}
use Rattle.sheet.specs.Sheet.{Format, tolerant, trunked, field_start, record_length, field, link_in, wrong_map, shape_checks, value_checks, link_record}
use Rattle.sheet.proofs.Plain.{unmarked}
use Rattle.sheet.proofs.Longest.{number-front, drop-front}
use Rattle.sheet.proofs.MarkLaws.{bit-set, bit-clear, record_length_trunk, link_in_trunk}

-- ---- the map byte without bit 3

-- what holds of the map byte in both cases
module _ (P : ℕ → Type 0) (m : ℕ) where
  pub unmarked-cases : (m / 8 % 2 ≡ 1 → P (m - 8)) → (m / 8 % 2 ≡ 0 → P m) → P (unmarked m)
  unmarked-cases p q = step (bit m 3) refl
    where
      step : (b : Bool) → bit m 3 ≡ b → P (cond b (m - 8) m)
      step true e = p (bit-set m e)
      step false e = q (bit-clear m e)

bit-unmarked : (m j : ℕ) → j < 3 → bit (unmarked m) j ≡ bit m j
bit-unmarked m zero l = ap (λ (d : ℕ). eqb d 1) (unmarked-cases (λ n. n / 2 ^ 0 % 2 ≡ m / 2 ^ 0 % 2) m (λ e. omega arith) (λ e. refl))
bit-unmarked m (suc zero) l = ap (λ (d : ℕ). eqb d 1) (unmarked-cases (λ n. n / 2 ^ 1 % 2 ≡ m / 2 ^ 1 % 2) m (λ e. omega arith) (λ e. refl))
bit-unmarked m (suc (suc zero)) l = ap (λ (d : ℕ). eqb d 1) (unmarked-cases (λ n. n / 2 ^ 2 % 2 ≡ m / 2 ^ 2 % 2) m (λ e. omega arith) (λ e. refl))
bit-unmarked m (suc (suc (suc j))) l = absurd (omega arith)

start-unmarked : (m i : ℕ) → i ≤ 3 → field_start tolerant (unmarked m) i ≡ field_start tolerant m i
unfolding field_start
start-unmarked m i l = sum_congr i _ _ (λ j b. ap (λ (c : Bool). only c (get_or tolerant.widths j 0)) (bit-unmarked m j (omega arith)))

wrong_map-unmarked : (start : Bool) (m : ℕ) → wrong_map tolerant start (unmarked m) ≡ wrong_map trunked start m
wrong_map-unmarked start m = ap₂ (λ (a : Bool) (d : ℕ). a || (start && not (eqb d 7))) (unmarked-cases (λ n. leb 8 n ≡ leb 16 m) m set clear) (unmarked-cases (λ n. n % 8 ≡ m % 8) m (λ e. omega arith) (λ e. refl))
  where
    both : (n : ℕ) → (16 ≤ m → 8 ≤ n) → (m < 16 → n < 8) → leb 8 n ≡ leb 16 m
    both n p q = step (dec_le 16 m)
      where
        step : Dec (16 ≤ m) → leb 8 n ≡ leb 16 m
        step (yes l) = le-leb 8 n (p l) ∙ sym (le-leb 16 m l)
        step (no l) = lt-leb 8 n (q (omega arith)) ∙ sym (lt-leb 16 m (omega arith))

    set : m / 8 % 2 ≡ 1 → leb 8 (m - 8) ≡ leb 16 m
    set e = both (m - 8) (λ l. omega arith) (λ l. omega arith)

    clear : m / 8 % 2 ≡ 0 → leb 8 m ≡ leb 16 m
    clear e = both m (λ l. omega arith) (λ l. omega arith)

-- ---- the outcome of a link record, by its first failing check

module _ (f : Format) (nodes : ℕ) (start : Bool) (before : Link) where
  pub link_record-empty : link_record f nodes start before [] ≡ refused 7
  unfolding link_record shape_checks first_failing
  link_record-empty = refl

  module _ (m : ℕ) (bs : Bytes) where
    pub link_record-map : wrong_map f start m ≡ true → link_record f nodes start before (m ∷ bs) ≡ refused 8
    unfolding link_record shape_checks first_failing
    link_record-map e = rw (ne_eqb (suc (length bs)) 0 (λ q. omega arith), e)

    link_record-short : wrong_map f start m ≡ false → length (m ∷ bs) < record_length f (m ∷ bs) → link_record f nodes start before (m ∷ bs) ≡ refused 9
    unfolding link_record shape_checks first_failing
    link_record-short e l = rw (ne_eqb (suc (length bs)) 0 (λ q. omega arith), e, lt-ltb (length (m ∷ bs)) (record_length f (m ∷ bs)) l)

    pub link_record-whole : wrong_map f start m ≡ false → record_length f (m ∷ bs) ≤ length (m ∷ bs) → link_record f nodes start before (m ∷ bs)
        ≡ unless (first_failing (value_checks f nodes (link_in f before (m ∷ bs)))) (accepted (link_in f before (m ∷ bs)) (drop (record_length f (m ∷ bs)) (m ∷ bs)))
    unfolding link_record shape_checks first_failing
    link_record-whole e l = rw (ne_eqb (suc (length bs)) 0 (λ q. omega arith), e, le-ltb (length (m ∷ bs)) (record_length f (m ∷ bs)) l)

-- ---- a record without its trunk number

-- a number that ends within the first s bytes
number-take : (s at w : ℕ) (bs later : Bytes) → at + w ≤ s → s ≤ length bs → number w (drop at (take s bs ++ later)) ≡ number w (drop at bs)
number-take s at w bs later h l =
    let front = drop-front at w (number w) (number-front w) (take s bs) in
    let b : at + w ≤ length (take s bs) = let e = length-take-le s bs l in omega arith in
    front later b ∙ sym (front (drop s bs) b) ∙ ap (λ (z : Bytes). number w (drop at z)) (take-append-drop s bs)

-- a field ends where the next one starts
inside : (m i : ℕ) → i < 3 → bit m i ≡ true → field_start tolerant m i + get_or tolerant.widths i 0 ≤ field_start tolerant m 3
unfolding field_start sum_to
inside m i l e = let r = sum_less (suc i) 3 (λ j. only (bit m j) (get_or tolerant.widths j 0)) l in rw e at r

module _ (m : ℕ) (bs later : Bytes) (whole : field_start tolerant m 3 ≤ length bs) where
  abbrev stripped : Bytes
  stripped = unmarked m ∷ take (field_start tolerant m 3) bs ++ later

  field_plain : (i v : ℕ) → i < 3 → field tolerant i v stripped ≡ field tolerant i v (m ∷ bs)
  unfolding field
  field_plain i v l = rw (bit-unmarked m i l, start-unmarked m i (omega arith), one-add (field_start tolerant m i)) (step (bit m i) refl)
    where
      w : ℕ
      w = get_or tolerant.widths i 0

      step : (b : Bool) → bit m i ≡ b → cond b (number w (drop (field_start tolerant m i) (take (field_start tolerant m 3) bs ++ later))) v ≡ cond b (number w (drop (field_start tolerant m i) bs)) v
      step true e = number-take (field_start tolerant m 3) (field_start tolerant m i) w bs later (inside m i l e) whole
      step false e = refl

  link_in-plain : (before : Link) → link_in tolerant before stripped ≡ link_in tolerant before (m ∷ bs)
  unfolding link_in
  link_in-plain before = rw (field_plain 0 before.first (omega arith), field_plain 1 before.second (omega arith), field_plain 2 before.weight (omega arith))

pub start_trunk : (m : ℕ) → field_start trunked m 3 ≡ field_start tolerant m 3
unfolding field_start sum_to
start_trunk m = refl

-- what was read, with other bytes behind it
abbrev pub instead : {A : Type 0} → Bytes → Reading A → Reading A
instead later (accepted x rest) = accepted x later
instead later (refused n) = refused n

unless-instead : {A : Type 0} (later : Bytes) (n : ℕ) (x : A) (rest : Bytes) → unless n (accepted x later) ≡ instead later (unless n (accepted x rest))
unless-instead {A} later n x rest = step (eqb n 0)
  where
    step : (b : Bool) → cond b (accepted x later) (refused n) ≡ instead later (cond b (accepted x rest) (refused n))
    step true = refl
    step false = refl

-- the length of the fields but the trunk number
abbrev pub fields_length : ℕ → ℕ
fields_length m = field_start tolerant m 3

pub record_length-plain : (m : ℕ) (ys : Bytes) → record_length tolerant (unmarked m ∷ ys) ≡ 1 + fields_length m
record_length-plain m ys = ap (λ (n : ℕ). 1 + n) (start-unmarked m 3 (omega arith))

pub rest_plain : (m : ℕ) (bs later : Bytes) → fields_length m ≤ length bs
    → drop (record_length tolerant (unmarked m ∷ take (fields_length m) bs ++ later)) (unmarked m ∷ take (fields_length m) bs ++ later) ≡ later
rest_plain m bs later fits =
    let x : Bytes = take (fields_length m) bs ++ later in
    ap (λ (n : ℕ). drop n (unmarked m ∷ x)) (record_length-plain m x ∙ one-add (fields_length m))
    ∙ drop_at (take (fields_length m) bs) later (fields_length m) (length-take-le (fields_length m) bs fits)

module _ (nodes : ℕ) (start : Bool) (before : Link) (m : ℕ) (bs later : Bytes) where
  abbrev taken : Reading Link
  taken = link_record trunked nodes start before (m ∷ bs)

  -- all fields but the trunk number are there
  pub whole_fields : wrong_map trunked start m ≡ false → fields_length m ≤ length bs → link_record tolerant nodes start before (unmarked m ∷ take (fields_length m) bs ++ later)
      ≡ unless (first_failing (value_checks tolerant nodes (link_in tolerant before (m ∷ bs)))) (accepted (link_in tolerant before (m ∷ bs)) later)
  whole_fields e fits =
      let x : Bytes = take (fields_length m) bs ++ later in
      let size : length (take (fields_length m) bs) ≡ fields_length m = length-take-le (fields_length m) bs fits in
      let short : record_length tolerant (unmarked m ∷ x) ≤ length (unmarked m ∷ x) = let r = record_length-plain m x in let a = length-append (take (fields_length m) bs) later in omega arith in
      link_record-whole tolerant nodes start before (unmarked m) x (wrong_map-unmarked start m ∙ e) short
      ∙ ap₂ (λ (l : Link) (rest : Bytes). unless (first_failing (value_checks tolerant nodes l)) (accepted l rest)) (link_in-plain m bs later fits before) (rest_plain m bs later fits)

  whole_plain : wrong_map trunked start m ≡ false → record_length trunked (m ∷ bs) ≤ length (m ∷ bs) → link_record tolerant nodes start before (unmarked m ∷ take (fields_length m) bs ++ later) ≡ instead later taken
  unfolding value_checks
  whole_plain e l =
      whole_fields e (let r = record_length_trunk (m ∷ bs) in omega arith)
      ∙ ap (λ (l : Link). unless (first_failing (value_checks tolerant nodes l)) (accepted l later)) (sym (link_in_trunk before (m ∷ bs)))
      ∙ unless-instead later (first_failing (value_checks trunked nodes (link_in trunked before (m ∷ bs)))) (link_in trunked before (m ∷ bs)) (drop (record_length trunked (m ∷ bs)) (m ∷ bs))
      ∙ ap (instead later) (sym (link_record-whole trunked nodes start before m bs e l))

  short-plain : wrong_map trunked start m ≡ false → length bs < fields_length m → later ≡ [] → link_record tolerant nodes start before (unmarked m ∷ take (fields_length m) bs ++ later) ≡ refused 9
  short-plain e l none =
      let x : Bytes = take (fields_length m) bs ++ later in
      let a = length-append (take (fields_length m) bs) later in
      let t : length (take (fields_length m) bs) ≡ length bs = ap length (take_all (fields_length m) bs (omega arith)) in
      let n : length later ≡ 0 = ap length none in
      let r = record_length-plain m x in
      link_record-short tolerant nodes start before (unmarked m) x (wrong_map-unmarked start m ∙ e) (omega arith)

  pub link_record-plain : (eqb (number_of taken) 9 && leb (1 + field_start trunked m 3) (length (m ∷ bs))) ≡ false → (length bs < fields_length m → later ≡ [])
      → link_record tolerant nodes start before (unmarked m ∷ take (fields_length m) bs ++ later) ≡ instead later taken
  link_record-plain cut none = step (truth (wrong_map trunked start m)) (dec_le (record_length trunked (m ∷ bs)) (length (m ∷ bs)))
    where
      less : wrong_map trunked start m ≡ false → length (m ∷ bs) < record_length trunked (m ∷ bs) → length bs < fields_length m
      less e l =
          let c : leb (1 + field_start trunked m 3) (length (m ∷ bs)) ≡ false = rw (link_record-short trunked nodes start before m bs e l) at cut in
          let d = leb-false (1 + field_start trunked m 3) (length (m ∷ bs)) c in
          let s : field_start trunked m 3 ≡ fields_length m = start_trunk m in
          omega arith

      step : (wrong_map trunked start m ≡ true) ⊎ (wrong_map trunked start m ≡ false) → Dec (record_length trunked (m ∷ bs) ≤ length (m ∷ bs))
          → link_record tolerant nodes start before (unmarked m ∷ take (fields_length m) bs ++ later) ≡ instead later taken
      step (inl e) d =
          link_record-map tolerant nodes start before (unmarked m) (take (fields_length m) bs ++ later) (wrong_map-unmarked start m ∙ e)
          ∙ ap (instead later) (sym (link_record-map trunked nodes start before m bs e))
      step (inr e) (yes l) = whole_plain e l
      step (inr e) (no l) =
          let q : length (m ∷ bs) < record_length trunked (m ∷ bs) = omega arith in
          short-plain e (less e q) (none (less e q)) ∙ ap (instead later) (sym (link_record-short trunked nodes start before m bs e q))
