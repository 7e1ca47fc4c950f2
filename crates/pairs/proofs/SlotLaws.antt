-- Slots of pairs: each row is one slot longer than the row before, so the slots of pairs differ and fill the front without a gap.
-- Assumes nothing.
use Prim.Native.Nat.{ℕ, zero, suc, ◌+◌, ◌-◌, ◌*◌, ◌≤◌, ◌<◌}
use mathlib.Core.Path.{◌≡◌, refl, ap, ◌∙◌}
use mathlib.Core.List.{◌++◌}
use native.Mathlib.Nat.{not-suc-le-zero, add-mul-div_right, mul-le-mul}
use native.Mathlib.Decide.{dec_lt}
use native.Mathlib.Omega.{arith}
use lib.ListN.{length, get_or, length-append, get_or-append}
use lib.Seq.{get_or-append-add}
use Rattle.cuts.specs.Sums.{table}
use Rattle.cuts.proofs.SumLaws.{all-suc, table-length, table_at}
use Rattle.pairs.specs.Slots.{row_start, pair_slot, pair_rows, row_starts}

-- ---- rows

pub row_start-suc : (r : ℕ) → row_start (suc r) ≡ row_start r + r
row_start-suc zero = refl
row_start-suc (suc q) =
    let a : suc (suc q) - 1 ≡ suc q = omega arith in
    let b : suc q - 1 ≡ q = omega arith in
    let c : suc (suc q) * suc q ≡ suc q * q + suc q * 2 = omega arith in
    rw (a, b, c) (add-mul-div_right (suc q * q) (suc q) (omega arith))

rows_before : (n r : ℕ) → r < n → row_start r + r ≤ row_start n
rows_before zero = λ r l. absurd (not-suc-le-zero l)
rows_before (suc n) =
    all-suc (λ r. row_start r + r ≤ row_start (suc n)) n (λ r l. let a = rows_before n r l in let b = row_start-suc n in omega arith)
    (let b = row_start-suc n in omega arith)

-- what the formula multiplies, for the ranks of a tree and their number
pub formula_most : (r : ℕ) → r ≤ 255 → r * (r - 1) ≤ 255 * 254
formula_most r b = mul-le-mul {n₁ = r} {m₁ = r - 1} {n₂ = 255} {m₂ = 254} b (omega arith)

-- no tree has more pairs
pub row_start-most : (r : ℕ) → r ≤ 255 → row_start r ≤ 32385
row_start-most r b = let m = formula_most r b in omega arith

-- the constant table has the formula's number for each rank
pub row_starts-at : (r : ℕ) → r < 255 → get_or row_starts r 0 ≡ row_start r
unfolding row_starts
row_starts-at r b = table_at 0 255 row_start r b

-- ---- slots

pub slot-below : (n r s : ℕ) → s < r → r < n → pair_slot r s < row_start n
slot-below n r s l b = let a = rows_before n r b in omega arith

-- no slot is that of two pairs
pub slot-once : (r s r' s' : ℕ) → s < r → s' < r' → pair_slot r s ≡ pair_slot r' s' → (r ≡ r') × (s ≡ s')
slot-once r s r' s' l l' e = step (dec_lt r r') (dec_lt r' r)
  where
    step : Dec (r < r') → Dec (r' < r) → (r ≡ r') × (s ≡ s')
    step (yes b) d = let a = rows_before r' r b in absurd (omega arith)
    step (no b) (yes d) = let a = rows_before r r' d in absurd (omega arith)
    step (no b) (no d) = let q : r ≡ r' = omega arith in let z = ap row_start q in (q, omega arith)

-- and every slot is that of one
pub slot-some : (n i : ℕ) → i < row_start n → (r s : ℕ) × (s < r) × (r < n) × (pair_slot r s ≡ i)
slot-some zero i b = absurd (omega arith)
slot-some (suc n) i b = step (dec_lt i (row_start n)) (slot-some n i)
  where
    step : Dec (i < row_start n) → (i < row_start n → (r s : ℕ) × (s < r) × (r < n) × (pair_slot r s ≡ i)) → (r s : ℕ) × (s < r) × (r < suc n) × (pair_slot r s ≡ i)
    step (yes l) h = let o = h l in (o.0, o.1, o.2, omega (arith, o.3), o.4)
    step (no l) h = let e = row_start-suc n in (n, i - row_start n, omega arith, omega arith, omega arith)

-- ---- what stands in them

module _ {A : Type 0} (f : ℕ → ℕ → A) where
  pub pair_rows-length : (n : ℕ) → length (pair_rows n f) ≡ row_start n
  unfolding pair_rows
  pair_rows-length zero = refl
  pair_rows-length (suc n) = rw (length-append, table-length n (f n)) (let a = pair_rows-length n in let b = row_start-suc n in omega arith)

  pub pair_rows-at : (d : A) (n r s : ℕ) → s < r → r < n → get_or (pair_rows n f) (pair_slot r s) d ≡ f r s
  unfolding pair_rows
  pair_rows-at d zero r s l = λ b. absurd (not-suc-le-zero b)
  pair_rows-at d (suc n) r s l = λ b. all-suc (λ r. s < r → get_or (pair_rows n f ++ table n (f n)) (pair_slot r s) d ≡ f r s) n
      (λ r b l. get_or-append (pair_rows n f) (table n (f n)) d (pair_slot r s) (rw (pair_rows-length n) (slot-below n r s l b)) ∙ pair_rows-at d n r s l b)
      (λ l. last (row_start n) (pair_rows-length n) ∙ table_at d n (f n) s l) r b l
    where
      last : (m : ℕ) → length (pair_rows n f) ≡ m → get_or (pair_rows n f ++ table n (f n)) (m + s) d ≡ get_or (table n (f n)) s d
      last m e = rw (← e) (get_or-append-add (pair_rows n f) (table n (f n)) s d)
