-- What is passed as the rows of a tree are gone through, from the last place down: nothing before the last row, one more at each step, all at
-- the end.
-- Assumes nothing.
use Prim.Native.Nat.{ℕ, ◌+◌, ◌≤◌, ◌<◌}
use mathlib.Core.Path.{◌≡◌, sym}
use mathlib.Core.Logic.{◌⊎◌, inl, inr}
use native.Mathlib.Nat.{eq-or-lt_of_le}
use native.Mathlib.Omega.{arith}
use Rattle.search_order.specs.Visits.{passed}
use Rattle.search_order.proofs.HandleLaws.{less-or_not}

module _ (u v x y : ℕ) where
  -- before the last row nothing is passed
  pub passed_none : (n : ℕ) → n ≤ u → x ≤ y → y < n → passed u v x y → ⊥
  passed_none n e l b (inl d) = omega arith
  passed_none n e l b (inr d) = let q = d.0 in omega arith

  -- row u begins where the row behind it ends
  pub passed-begun : passed (u + 1) v x y → passed u u x y
  passed-begun (inl d) = inl (omega arith)
  passed-begun (inr d) = let q = d.0 in inl (omega arith)

  pub passed-behind : (n : ℕ) → n ≤ v → x ≤ y → y < n → passed u u x y → passed (u + 1) v x y
  passed-behind n e l b (inl d) = next (eq-or-lt_of_le (omega arith))
    where
      next : (u + 1 ≡ x) ⊎ (u + 1 < x) → passed (u + 1) v x y
      next (inl q) = inr (sym q, omega arith)
      next (inr m) = inl m
  passed-behind n e l b (inr d) = let q = d.0 in let k = d.1 in absurd (omega arith)

  -- one more
  pub passed-wider : passed u v x y → passed u (v + 1) x y
  passed-wider (inl d) = inl d
  passed-wider (inr d) = let k = d.1 in inr (d.0, omega arith)

  pub passed-new : passed u (v + 1) x y → passed u v x y ⊎ ((x ≡ u) × (y ≡ v))
  passed-new (inl d) = inl (inl d)
  passed-new (inr d) = let k = d.1 in at (eq-or-lt_of_le (omega arith))
    where
      at : (y ≡ v) ⊎ (y < v) → passed u v x y ⊎ ((x ≡ u) × (y ≡ v))
      at (inl q) = inr (d.0, q)
      at (inr l) = inl (inr (d.0, l))

  -- with row 1 done all is passed
  pub passed-all : (n : ℕ) → u ≤ 1 → n ≤ v → 0 < x → y < n → passed u v x y
  passed-all n e m z b = step (less-or_not u x)
    where
      step : (u < x) ⊎ (x ≤ u) → passed u v x y
      step (inl d) = inl d
      step (inr d) = inr (omega arith, omega arith)
