-- Numbers in decimal digits, in ASCII: digit d is the byte 48 + d. Assumes nothing.
--   Text              bytes in ASCII
--   digits k n        the decimal digits of n, the last k at most
--   decimal n         the decimal digits of n
--   value_from v ds   the number that v and then the digits ds give
--   Decimal n ds      ds are the decimal digits of n, with no zero in front
use Rattle.std.specs.Prelude.{ℕ, zero, suc, ◌+◌, ◌-◌, ◌*◌, ◌/◌, ◌%◌, ◌≤◌, ◌<◌, ◌≡◌, cond, List, [], ◌∷◌, ◌++◌, length, get_or, ltb}

abbrev pub Text : Type 0
Text = List ℕ

-- the digits in front of the last, where there are any, and the last
unfoldable pub digits : ℕ → ℕ → Text
digits zero n = []
digits (suc k) n = cond (ltb n 10) [] (digits k (n / 10)) ++ (48 + n % 10) ∷ []

-- no number n has more than n + 1 digits
unfoldable pub decimal : ℕ → Text
unfolding digits
decimal n = digits (suc n) n

unfoldable pub value_from : ℕ → Text → ℕ
value_from v [] = v
value_from v (d ∷ ds) = value_from (10 * v + (d - 48)) ds

pub record Decimal (n : ℕ) (ds : Text) : Type 0 where
  pub some : 0 < length ds
  pub are_digits : (i : ℕ) → i < length ds → (48 ≤ get_or ds i 0) × (get_or ds i 0 < 58)
  pub value_is : value_from 0 ds ≡ n
  pub no_zero_in_front : 1 < length ds → get_or ds 0 0 ≡ 48 → ⊥
