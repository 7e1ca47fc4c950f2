-- The link record at a position of the sheet, outcome by outcome: which check is the first to fail, how long the fields are and where
-- each starts. Assumes nothing.
use Prim.Native.Nat.{ℕ, suc, ◌+◌, ◌-◌, ◌*◌, ◌/◌, ◌%◌, ◌^◌, ◌≤◌, ◌<◌}
use mathlib.Core.Path.{◌≡◌, refl, ap, ◌∙◌}
use mathlib.Core.Logic.{◌⊎◌, inl, inr, ⊎_elim}
use mathlib.Core.Bool.{Bool, true, false, ◌||◌, cond}
use native.Mathlib.Nat.{eq-or-lt_of_le}
use native.Mathlib.Omega.{arith}
use lib.ListN.{length, get_or, drop, length-drop}
use lib.Seq.{drop-drop}
use lib.Dec.{eqb, leb, ltb}
use borrow.Author.Tests.{lt-ltb, le-ltb, le-leb, lt-leb, leb-true, leb-false, eq-eqb, ne_eqb}
use Rattle.cuts.specs.Network.{Link}
use Rattle.cuts.proofs.FlagLaws.{truth, or_left, or_right}
use Rattle.sheet.specs.Bytes.{Bytes, number}
use Rattle.sheet.specs.Reading.{first_failing, accepted, refused, unless}
use Rattle.sheet.specs.Sheet.{Format, current, field_start, record_length, field, link_in, wrong_map, shape_checks, value_checks, link_record}
use Rattle.read_links.specs.LinksRead.{fields_of}
use Rattle.sheet.proofs.ReadingLaws.{unless-append, unless-refused}
use Rattle.sheet.proofs.Acceptance.{GoodLink}
use Rattle.sheet.proofs.ByteLaws.{only-digit, front-drop}

-- ---- the fields of a link record

field_start-zero : (f : Format) (m : ℕ) → field_start f m 0 ≡ 0
unfolding field_start
field_start-zero f m = refl

field_start-suc : (f : Format) (m i : ℕ) → field_start f m (suc i) ≡ field_start f m i + get_or f.widths i 0 * (m / 2 ^ i % 2)
unfolding field_start
field_start-suc f m i = ap (λ (x : ℕ). field_start f m i + x) (only-digit (get_or f.widths i 0) (m / 2 ^ i))

-- the first four fields are both ends, of two bytes each, the weight, of four, and the trunk number, of two
pub record FourFields (f : Format) : Type 0 where
  pub first_two : get_or f.widths 0 0 ≡ 2
  pub second_two : get_or f.widths 1 0 ≡ 2
  pub weight_four : get_or f.widths 2 0 ≡ 4
  pub trunk_two : get_or f.widths 3 0 ≡ 2

pub current-fields : FourFields current
current-fields = record { first_two = refl; second_two = refl; weight_four = refl; trunk_two = refl }

module _ {f : Format} (w : FourFields f) (m : ℕ) where
  field_start-second : field_start f m 1 ≡ 2 * (m % 2)
  field_start-second = let a = rw w.first_two at (field_start-suc f m 0) in omega (arith, field_start-zero f m)

  field_start-weight : field_start f m 2 ≡ 2 * (m % 2) + 2 * (m / 2 % 2)
  field_start-weight = let a = field_start-second in let b = rw w.second_two at (field_start-suc f m 1) in omega arith

  pub field_start_trunk : field_start f m 3 ≡ 2 * (m % 2) + 2 * (m / 2 % 2) + 4 * (m / 4 % 2)
  field_start_trunk = let a = field_start-weight in let b = rw w.weight_four at (field_start-suc f m 2) in omega arith

  pub field_start_end : field_start f m 4 ≡ 2 * (m % 2) + 2 * (m / 2 % 2) + 4 * (m / 4 % 2) + 2 * (m / 8 % 2)
  field_start_end = let a = field_start_trunk in let b = rw w.trunk_two at (field_start-suc f m 3) in omega arith

module _ (f : Format) (m : ℕ) where
  pub fields_of-pair : (k n : ℕ) → k ≤ m → m ≤ suc k → (0, n) ≡ fields_of f k → (0, n) ≡ fields_of f (suc k) → (0, n) ≡ fields_of f m
  fields_of-pair k n a b p q = ⊎_elim (λ e. rw (← e) p) (λ l. let e : m ≡ suc k = omega arith in rw e q) (eq-or-lt_of_le a)

  pub fields_of-above : 2 ^ length f.widths ≤ m → (8, 0) ≡ fields_of f m
  fields_of-above h = rw (le-leb (2 ^ length f.widths) m h)

  pub fields_of-allowed : (n : ℕ) → (0, n) ≡ fields_of f m → (m < 2 ^ length f.widths) × (n ≡ field_start f m (length f.widths))
  fields_of-allowed n e = step (leb (2 ^ length f.widths) m) refl e
    where
      step : (b : Bool) → leb (2 ^ length f.widths) m ≡ b → ◌≡◌ {A = ℕ × ℕ} (0, n) (cond b (8, 0) (0, field_start f m (length f.widths)))
          → (m < 2 ^ length f.widths) × (n ≡ field_start f m (length f.widths))
      step true a e = let z : ◌≡◌ {A = ℕ} 0 8 = λ i. (e i).0 in absurd (omega arith)
      step false a e = (leb-false (2 ^ length f.widths) m a, λ i. (e i).1)

  pub fields_of-refused : (8, 0) ≡ fields_of f m → 2 ^ length f.widths ≤ m
  fields_of-refused e = step (leb (2 ^ length f.widths) m) refl e
    where
      step : (b : Bool) → leb (2 ^ length f.widths) m ≡ b → ◌≡◌ {A = ℕ × ℕ} (8, 0) (cond b (8, 0) (0, field_start f m (length f.widths))) → 2 ^ length f.widths ≤ m
      step true a e = leb-true (2 ^ length f.widths) m a
      step false a e = let z : ◌≡◌ {A = ℕ} 8 0 = λ i. (e i).0 in absurd (omega arith)

module _ (at m : ℕ) (s : Bytes) (e : m ≡ get_or s at 0) where
  -- the field of bit i and width w, where b is that bit and p the field's position
  field_at : (f : Format) (i w before b p : ℕ) → get_or f.widths i 0 ≡ w → b ≡ m / 2 ^ i % 2 → p ≡ at + 1 + field_start f m i
      → cond (eqb b 1) (number w (drop p s)) before ≡ field f i before (drop at s)
  unfolding field
  field_at f i w before b p v q r =
      let place : p ≡ at + (1 + field_start f m i) = omega arith in
      rw (front-drop at s, ← e, drop-drop, q, place, v)

  module _ {f : Format} (w : FourFields f) where
    first-at : (before : ℕ) → cond (eqb (m % 2) 1) (number 2 (drop (at + 1) s)) before ≡ field f 0 before (drop at s)
    unfolding field_start
    first-at before = field_at f 0 2 before (m % 2) (at + 1) w.first_two (omega arith) (omega arith)

    second_at : (before : ℕ) → cond (eqb (m / 2 % 2) 1) (number 2 (drop (at + 1 + 2 * (m % 2)) s)) before ≡ field f 1 before (drop at s)
    second_at before = field_at f 1 2 before (m / 2 % 2) (at + 1 + 2 * (m % 2)) w.second_two (omega arith) (omega (arith, field_start-second w m))

    weight-at : (before : ℕ) → cond (eqb (m / 4 % 2) 1) (number 4 (drop (at + 1 + 2 * (m % 2) + 2 * (m / 2 % 2)) s)) before ≡ field f 2 before (drop at s)
    weight-at before =
        field_at f 2 4 before (m / 4 % 2) (at + 1 + 2 * (m % 2) + 2 * (m / 2 % 2)) w.weight_four (omega arith) (omega (arith, field_start-weight w m))

    pub trunk_at : (before : ℕ) → cond (eqb (m / 8 % 2) 1) (number 2 (drop (at + 1 + field_start f m 3) s)) before ≡ field f 3 before (drop at s)
    trunk_at before = field_at f 3 2 before (m / 8 % 2) (at + 1 + field_start f m 3) w.trunk_two (omega arith) refl

    pub link_at : (before l : Link) → l.first ≡ cond (eqb (m % 2) 1) (number 2 (drop (at + 1) s)) before.first
        → l.second ≡ cond (eqb (m / 2 % 2) 1) (number 2 (drop (at + 1 + 2 * (m % 2)) s)) before.second
        → l.weight ≡ cond (eqb (m / 4 % 2) 1) (number 4 (drop (at + 1 + 2 * (m % 2) + 2 * (m / 2 % 2)) s)) before.weight → l ≡ link_in f before (drop at s)
    unfolding link_in
    link_at before l p q r =
        λ i. record { first = (p ∙ first-at before.first) i; second = (q ∙ second_at before.second) i; weight = (r ∙ weight-at before.weight) i }

-- ---- which check a link record fails

wrong_start : (f : Format) (m : ℕ) → (m < 2 ^ length f.widths → m % 8 ≡ 7 → ⊥) → wrong_map f true m ≡ true
wrong_start f m h = step (truth (leb (2 ^ length f.widths) m))
  where
    step : (leb (2 ^ length f.widths) m ≡ true) ⊎ (leb (2 ^ length f.widths) m ≡ false) → wrong_map f true m ≡ true
    step (inl a) = rw a
    step (inr a) = simp (a, ne_eqb (m % 8) 7 (h (leb-false (2 ^ length f.widths) m a)))

right-map : (f : Format) (start : Bool) (m : ℕ) → m < 2 ^ length f.widths → (start ≡ true → m % 8 ≡ 7) → wrong_map f start m ≡ false
right-map f true m h e = simp (lt-leb (2 ^ length f.widths) m h, eq-eqb (m % 8) 7 (e refl))
right-map f false m h e = simp (lt-leb (2 ^ length f.widths) m h)

module _ (f : Format) (start : Bool) (at : ℕ) (s : Bytes) where
  shape_at : first_failing (shape_checks f start (drop at s))
      ≡ cond (eqb (length s - at) 0) 7 (cond (wrong_map f start (get_or s at 0)) 8 (cond (ltb (length s - at) (1 + field_start f (get_or s at 0) (length f.widths))) 9 0))
  unfolding first_failing shape_checks
  shape_at = rw (length-drop, front-drop at s)

  pub no-map_byte : length s ≤ at → first_failing (shape_checks f start (drop at s)) ≡ 7
  no-map_byte h = rw (shape_at, eq-eqb (length s - at) 0 (omega arith))

  module _ (h : at < length s) where
    some : eqb (length s - at) 0 ≡ false
    some = ne_eqb (length s - at) 0 (λ e. omega arith)

    pub map-byte_above : 2 ^ length f.widths ≤ get_or s at 0 → first_failing (shape_checks f start (drop at s)) ≡ 8
    map-byte_above m = rw (shape_at, some, le-leb (2 ^ length f.widths) (get_or s at 0) m)

    pub map-byte_of_start : start ≡ true → (get_or s at 0 < 2 ^ length f.widths → get_or s at 0 % 8 ≡ 7 → ⊥) → first_failing (shape_checks f start (drop at s)) ≡ 8
    map-byte_of_start e m = rw (shape_at, some, e, wrong_start f (get_or s at 0) m)

    module _ (m : get_or s at 0 < 2 ^ length f.widths) (e : start ≡ true → get_or s at 0 % 8 ≡ 7) where
      pub field_cut_off : length s < at + 1 + field_start f (get_or s at 0) (length f.widths) → first_failing (shape_checks f start (drop at s)) ≡ 9
      field_cut_off l = rw (shape_at, some, right-map f start (get_or s at 0) m e, lt-ltb (length s - at) (1 + field_start f (get_or s at 0) (length f.widths)) (omega arith))

      pub record_whole : at + 1 + field_start f (get_or s at 0) (length f.widths) ≤ length s → first_failing (shape_checks f start (drop at s)) ≡ 0
      record_whole l = rw (shape_at, some, right-map f start (get_or s at 0) m e, le-ltb (length s - at) (1 + field_start f (get_or s at 0) (length f.widths)) (omega arith))

module _ (f : Format) (nodes : ℕ) (l : Link) where
  pub ends-refused : (nodes ≤ l.first) ⊎ ((nodes ≤ l.second) ⊎ (l.first ≡ l.second)) → first_failing (value_checks f nodes l) ≡ 10
  unfolding first_failing value_checks
  ends-refused (inl h) = rw (le-leb nodes l.first h)
  ends-refused (inr (inl h)) = rw (or_left _ (eqb l.first l.second) (or_right (leb nodes l.first) _ (le-leb nodes l.second h)))
  ends-refused (inr (inr h)) = rw (or_right (leb nodes l.first || leb nodes l.second) _ (eq-eqb l.first l.second h))

  pub link_pass : GoodLink f nodes l → first_failing (value_checks f nodes l) ≡ 0
  unfolding first_failing value_checks
  link_pass g =
      simp (lt-leb nodes l.first g.first_in, lt-leb nodes l.second g.second_in, ne_eqb l.first l.second g.differ, le-ltb f.weight_limit l.weight g.light)

-- ---- the link record at a position

pub record_length-at : (f : Format) (at : ℕ) (s : Bytes) → record_length f (drop at s) ≡ 1 + field_start f (get_or s at 0) (length f.widths)
record_length-at f at s = rw (front-drop at s)

module _ (f : Format) (nodes : ℕ) (start : Bool) (before : Link) where
  shape_then_values : (bs : Bytes) → link_record f nodes start before bs
      ≡ unless (first_failing (shape_checks f start bs)) (unless (first_failing (value_checks f nodes (link_in f before bs))) (accepted (link_in f before bs) (drop (record_length f bs) bs)))
  unfolding link_record shape_checks
  shape_then_values bs =
      unless-append (shape_checks f start bs) (value_checks f nodes (link_in f before bs)) (accepted (link_in f before bs) (drop (record_length f bs) bs)) refl

  pub record_misshapen : (n : ℕ) (bs : Bytes) → n ≡ first_failing (shape_checks f start bs) → 0 < n → link_record f nodes start before bs ≡ refused n
  record_misshapen n bs e h = rw (shape_then_values bs, ← e) (unless-refused n _ (λ z. omega arith))

  pub record_shaped : (l : Link) (n end at : ℕ) (s : Bytes) → 0 ≡ first_failing (shape_checks f start (drop at s)) → l ≡ link_in f before (drop at s)
      → n ≡ first_failing (value_checks f nodes l) → end ≡ at + record_length f (drop at s) → link_record f nodes start before (drop at s) ≡ unless n (accepted l (drop end s))
  record_shaped l n end at s e q v p = rw (shape_then_values (drop at s), ← e, ← q, ← v, drop-drop, ← p)
