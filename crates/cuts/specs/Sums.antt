-- Sums, counts, tests and tables over the numbers 0, .., k - 1. Assumes nothing.
--   sum_to k f     f 0 + .. + f (k - 1)
--   only b x       x where the flag b is set, else 0
--   count_to k f   how many numbers below k pass the test f
--   any_to k f     some number below k passes the test f
--   all_to k f     every number below k passes the test f
--   table k f      the list of f 0, .., f (k - 1)
--   select k f     the numbers below k that pass the test f, rising
use Rattle.std.specs.Prelude.{ℕ, zero, suc, ◌+◌, Bool, true, false, ◌&&◌, ◌||◌, cond, List, [], ◌∷◌, ◌++◌}

unfoldable pub sum_to : ℕ → (ℕ → ℕ) → ℕ
sum_to zero f = 0
sum_to (suc k) f = sum_to k f + f k

abbrev pub only : Bool → ℕ → ℕ
only b x = cond b x 0

abbrev pub count_to : ℕ → (ℕ → Bool) → ℕ
count_to k f = sum_to k (λ i. only (f i) 1)

unfoldable pub any_to : ℕ → (ℕ → Bool) → Bool
any_to zero f = false
any_to (suc k) f = any_to k f || f k

unfoldable pub all_to : ℕ → (ℕ → Bool) → Bool
all_to zero f = true
all_to (suc k) f = all_to k f && f k

unfoldable pub table {ℓ} : {A : Type ℓ} → ℕ → (ℕ → A) → List A
table zero f = []
table (suc k) f = table k f ++ f k ∷ []

unfoldable pub select : ℕ → (ℕ → Bool) → List ℕ
select zero f = []
select (suc k) f = select k f ++ cond (f k) (k ∷ []) []
