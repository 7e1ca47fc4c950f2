-- Reading records from the front of bytes, each with its checks in their order. Assumes nothing.
--   Check, check n b    a refusal number n and whether what it stands for is the case
--   first_failing cs    the number of the first check that fails, 0 where none does
--   Reading A           a value read and the bytes behind it, or a refusal's number
--   number_of r         the refusal's number, 0 where a value was read
--   unless n r          r where n is 0, else the refusal n
--   and_then r next     what `next` makes of the value and the bytes behind it, or r's refusal
--   records one k got   `got` and k records more, from the front of bytes; `one` reads a record, given those before it
use Rattle.std.specs.Prelude.{ℕ, zero, suc, Bool, cond, List, [], ◌∷◌, ◌++◌, eqb}
use Rattle.sheet.specs.Bytes.{Bytes}

pub record Check : Type 0 where
  pub refusal : ℕ
  pub fails : Bool

abbrev pub check : ℕ → Bool → Check
check n b = record { refusal = n; fails = b }

unfoldable pub first_failing : List Check → ℕ
first_failing [] = 0
first_failing (c ∷ cs) = cond c.fails c.refusal (first_failing cs)

pub data Reading (A : Type 0) : Type 0 where
  accepted : A → Bytes → Reading A
  refused : ℕ → Reading A

abbrev pub number_of : {A : Type 0} → Reading A → ℕ
number_of (accepted x rest) = 0
number_of (refused n) = n

abbrev pub unless : {A : Type 0} → ℕ → Reading A → Reading A
unless n r = cond (eqb n 0) r (refused n)

abbrev pub and_then : {A B : Type 0} → Reading A → (A → Bytes → Reading B) → Reading B
and_then (accepted x rest) next = next x rest
and_then (refused n) next = refused n

unfoldable pub records : {A : Type 0} → (List A → Bytes → Reading A) → ℕ → List A → Bytes → Reading (List A)
records one zero got bs = accepted got bs
records one (suc k) got bs = and_then (one got bs) (λ x rest. records one k (got ++ x ∷ []) rest)
