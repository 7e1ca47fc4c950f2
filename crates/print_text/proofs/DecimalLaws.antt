-- The digits of a number are those in front of its last one and the last one, however many are allowed; so they give the number back, and
-- have no zero in front. Assumes nothing.
use Prim.Native.Nat.{ℕ, zero, suc, ◌+◌, ◌-◌, ◌*◌, ◌/◌, ◌%◌, ◌^◌, ◌≤◌, ◌<◌}
use native.Mathlib.Omega.{arith}
use native.Mathlib.Nat.{pow-suc}
use mathlib.Core.Path.{◌≡◌, refl, sym, ap, ◌∙◌}
use mathlib.Core.Bool.{Bool, true, false, cond}
use mathlib.Core.List.{[], ◌∷◌, ◌++◌}
use lib.ListN.{length, length-append, get_or, get_or-append}
use lib.Seq.{get_or-append_seam}
use lib.Dec.{ltb}
use borrow.Author.Tests.{ltb-true, ltb-false, lt-ltb, le-ltb}
use Rattle.print_text.specs.Decimal.{Text, digits, decimal, value_from, Decimal}

-- the last digit behind the digits `ds`, if there are more digits than one
abbrev with_last : ℕ → Text → Text
with_last n ds = cond (ltb n 10) [] ds ++ (48 + n % 10) ∷ []

with_last-same : (n : ℕ) (a b : Text) → (10 ≤ n → a ≡ b) → with_last n a ≡ with_last n b
with_last-same n a b same = step (ltb n 10) refl
  where
    step : (t : Bool) → ltb n 10 ≡ t → cond t [] a ++ (48 + n % 10) ∷ [] ≡ cond t [] b ++ (48 + n % 10) ∷ []
    step true e = refl
    step false e = ap (λ (l : Text). l ++ (48 + n % 10) ∷ []) (same (ltb-false n 10 e))

digits-enough : (j k n : ℕ) → n < j → n < k → digits j n ≡ digits k n
unfolding digits
digits-enough zero k n a b = absurd (omega arith)
digits-enough (suc j) zero n a b = absurd (omega arith)
digits-enough (suc j) (suc k) n a b = with_last-same n (digits j (n / 10)) (digits k (n / 10)) (λ h. digits-enough j k (n / 10) (omega arith) (omega arith))

decimal_step : (n : ℕ) → decimal n ≡ with_last n (decimal (n / 10))
unfolding decimal
decimal_step n = with_last-same n (digits n (n / 10)) (digits (suc (n / 10)) (n / 10)) (λ h. digits-enough n (suc (n / 10)) (n / 10) (omega arith) (omega arith))

-- a number of one digit, and one with digits in front of the last
pub decimal-one : (n : ℕ) → n < 10 → decimal n ≡ (48 + n % 10) ∷ []
decimal-one n h = decimal_step n ∙ ap (λ (t : Bool). cond t [] (decimal (n / 10)) ++ (48 + n % 10) ∷ []) (lt-ltb n 10 h)

pub decimal-more : (n : ℕ) → 10 ≤ n → decimal n ≡ decimal (n / 10) ++ (48 + n % 10) ∷ []
decimal-more n h = decimal_step n ∙ ap (λ (t : Bool). cond t [] (decimal (n / 10)) ++ (48 + n % 10) ∷ []) (le-ltb n 10 h)

pub one_digit : (n : ℕ) → n < 10 → length (decimal n) ≡ 1
one_digit n h = ap (λ (ds : Text). length ds) (decimal-one n h)

pub more_digits : (n : ℕ) → 10 ≤ n → length (decimal n) ≡ length (decimal (n / 10)) + 1
more_digits n h = ap (λ (ds : Text). length ds) (decimal-more n h) ∙ length-append (decimal (n / 10)) ((48 + n % 10) ∷ [])

-- how many digits there are in front of the last
pub ruleset digits_in_front = (one_digit, more_digits)

-- ---- what holds of a single digit, and of digits with one more behind them

module _ (P : ℕ → Text → Type 0) (single : (n : ℕ) → n < 10 → P n ((48 + n % 10) ∷ [])) (more : (n : ℕ) (ds : Text) → 10 ≤ n → P (n / 10) ds → P n (ds ++ (48 + n % 10) ∷ [])) where
  digits-all : (k n : ℕ) → n < k → P n (digits k n)
  unfolding digits
  digits-all zero n h = absurd (omega arith)
  digits-all (suc k) n h = step (ltb n 10) refl (λ l. digits-all k (n / 10) (omega arith))
    where
      step : (t : Bool) → ltb n 10 ≡ t → (10 ≤ n → P (n / 10) (digits k (n / 10))) → P n (cond t [] (digits k (n / 10)) ++ (48 + n % 10) ∷ [])
      step true e before = single n (ltb-true n 10 e)
      step false e before = more n (digits k (n / 10)) (ltb-false n 10 e) (before (ltb-false n 10 e))

  decimal-all : (n : ℕ) → P n (decimal n)
  unfolding decimal
  decimal-all n = digits-all (suc n) n (omega arith)

-- ---- how many there are

pub decimal-most : (k n : ℕ) → n < 10 ^ suc k → length (decimal n) ≤ suc k
decimal-most k n h = decimal-all Most (λ m l j b. omega arith) more n k h
  where
    Most : ℕ → Text → Type 0
    Most m ds = (j : ℕ) → m < 10 ^ suc j → length ds ≤ suc j

    more : (m : ℕ) (ds : Text) → 10 ≤ m → Most (m / 10) ds → Most m (ds ++ (48 + m % 10) ∷ [])
    more m ds l before zero b = absurd (omega arith)
    more m ds l before (suc j) b = let p = pow-suc 10 (suc j) in
        let c = before j (omega (arith, p)) in omega (arith, length-append ds ((48 + m % 10) ∷ []))

-- of a number of 8, 16, 32 or 64 bits
pub decimal_u8 : (n : ℕ) → n < 256 → length (decimal n) ≤ 3
decimal_u8 n h = decimal-most 2 n (omega arith)

pub decimal_u16 : (n : ℕ) → n < 65536 → length (decimal n) ≤ 5
decimal_u16 n h = decimal-most 4 n (omega arith)

pub decimal_u32 : (n : ℕ) → n < 4294967296 → length (decimal n) ≤ 10
decimal_u32 n h = decimal-most 9 n (omega arith)

pub decimal_u64 : (n : ℕ) → n < 18446744073709551616 → length (decimal n) ≤ 20
decimal_u64 n h = decimal-most 19 n (omega arith)

-- what the check needs to prove that numbers fit
pub ruleset few_digits = (decimal_u8, decimal_u16, decimal_u32, decimal_u64)

-- ---- what they mean

value_from-last : (v : ℕ) (ds : Text) (d : ℕ) → value_from v (ds ++ d ∷ []) ≡ 10 * value_from v ds + (d - 48)
unfolding value_from
value_from-last v [] d = refl
value_from-last v (e ∷ ds) d = value_from-last (10 * v + (e - 48)) ds d

decimal-single : (n : ℕ) → n < 10 → Decimal n ((48 + n % 10) ∷ [])
unfolding value_from
decimal-single n h = record {
  some = omega arith;
  are_digits = digit;
  value_is = omega arith;
  no_zero_in_front = λ l e. omega arith;
}
  where
    digit : (i : ℕ) → i < 1 → (48 ≤ get_or ((48 + n % 10) ∷ []) i 0) × (get_or ((48 + n % 10) ∷ []) i 0 < 58)
    digit zero b = (omega arith, omega arith)
    digit (suc i) b = absurd (omega arith)

-- digits of a number other than 0 do not start with a zero
front-some : (n : ℕ) (ds : Text) → 0 < n → Decimal n ds → get_or ds 0 0 ≡ 48 → ⊥
unfolding value_from
front-some n [] p s e = let l = s.some in omega arith
front-some n (d ∷ []) p s e = let v = s.value_is in omega arith
front-some n (d ∷ c ∷ ds) p s e = s.no_zero_in_front (omega arith) e

decimal-last : (n : ℕ) (ds : Text) → 10 ≤ n → Decimal (n / 10) ds → Decimal n (ds ++ (48 + n % 10) ∷ [])
decimal-last n ds h s = record {
  some = omega (arith, length-append ds (d ∷ []));
  are_digits = digit;
  value_is = value_from-last 0 ds d ∙ ap (λ (v : ℕ). 10 * v + (d - 48)) s.value_is ∙ omega arith;
  no_zero_in_front = λ l e. front-some (n / 10) ds (omega arith) s (sym (get_or-append ds (d ∷ []) 0 0 s.some) ∙ e);
}
  where
    d : ℕ
    d = 48 + n % 10

    digit : (i : ℕ) → i < length (ds ++ d ∷ []) → (48 ≤ get_or (ds ++ d ∷ []) i 0) × (get_or (ds ++ d ∷ []) i 0 < 58)
    digit i b = step (ltb i (length ds)) refl
      where
        step : (t : Bool) → ltb i (length ds) ≡ t → (48 ≤ get_or (ds ++ d ∷ []) i 0) × (get_or (ds ++ d ∷ []) i 0 < 58)
        step true e = rw (get_or-append ds (d ∷ []) 0 i (ltb-true i (length ds) e)) (s.are_digits i (ltb-true i (length ds) e))
        step false e =
            let last : i ≡ length ds = let g = ltb-false i (length ds) e in omega (arith, length-append ds (d ∷ [])) in
            rw last (rw (get_or-append_seam ds d [] 0) (omega arith, omega arith))

pub decimal-is : (n : ℕ) → Decimal n (decimal n)
decimal-is = decimal-all Decimal decimal-single decimal-last
