-- Sums over a run of places.
-- Assumes nothing.
use Rattle.std.proofs.Common.{◌≡◌, ℕ, zero, suc, ◌+◌, ◌<◌, ◌≤◌, Bool, true, false, ◌&&◌, eqb, ltb, leb, ◌⊎◌, sym, refl, ap, ◌∙◌, inl, inr, eq-or-lt_of_le, arith, lt-ltb, ne_eqb, le-leb, leb-true}
use native.Mathlib.Decide.{dec_lt}
use borrow.Author.Tests.{lt-leb}
use Rattle.cuts.specs.Sums.{sum_to, only}
use Rattle.cuts.proofs.FlagLaws.{truth}
use Rattle.cuts.proofs.SumLaws.{only_none, sum_congr, sum-add, sum-zero, sum-only, sum-swap, sum-single}
use Rattle.arrays.specs.Kept.{within}
use Rattle.tree_places.proofs.WithinLaws.{within-behind}
use Rattle.tree_rows.specs.Rows.{sum_over}

-- ---- sums over a run

only-swap : (b c : Bool) (w : ℕ) → only b (only c w) ≡ only c (only b w)
only-swap true c w = refl
only-swap false c w = sym (only_none c)

module _ (from to : ℕ) where
  pub over_none : (g : ℕ → ℕ) → to ≤ from → sum_over from to g ≡ 0
  unfolding sum_over
  over_none g l = sum-zero to _ (λ p b. rw (lt-leb from p (omega arith)))

  pub over-suc : (g : ℕ → ℕ) → from ≤ to → sum_over from (suc to) g ≡ sum_over from to g + g to
  unfolding sum_over sum_to
  over-suc g l = rw (le-leb from to l)

  pub over_congr : (g h : ℕ → ℕ) → ((p : ℕ) → from ≤ p → p < to → g p ≡ h p) → sum_over from to g ≡ sum_over from to h
  unfolding sum_over
  over_congr g h e = sum_congr to _ _ (λ p b. go p b (truth (leb from p)))
    where
      go : (p : ℕ) → p < to → (leb from p ≡ true) ⊎ (leb from p ≡ false) → only (leb from p) (g p) ≡ only (leb from p) (h p)
      go p b (inl q) = ap (only (leb from p)) (e p (leb-true from p q) b)
      go p b (inr q) = rw q

  pub over_add : (g h : ℕ → ℕ) → sum_over from to (λ p. g p + h p) ≡ sum_over from to g + sum_over from to h
  unfolding sum_over
  over_add g h = sum_congr to _ (λ p. only (leb from p) (g p) + only (leb from p) (h p)) (λ p _. part (leb from p) (g p) (h p)) ∙ sum-add to _ _
    where
      part : (b : Bool) (x y : ℕ) → only b (x + y) ≡ only b x + only b y
      part true x y = refl
      part false x y = refl

  pub over-only : (c : Bool) (g : ℕ → ℕ) → sum_over from to (λ p. only c (g p)) ≡ only c (sum_over from to g)
  unfolding sum_over
  over-only c g = sum_congr to _ _ (λ p _. only-swap (leb from p) c (g p)) ∙ sum-only to c _

  pub over-swap : (n : ℕ) (g : ℕ → ℕ → ℕ) → sum_over from to (λ p. sum_to n (λ k. g k p)) ≡ sum_to n (λ k. sum_over from to (g k))
  unfolding sum_over
  over-swap n g = sum_congr to _ _ (λ p _. sym (sum-only n (leb from p) (λ k. g k p))) ∙ sum-swap to n (λ p k. only (leb from p) (g k p))

  -- one number alone
  pub over-pick : (a w : ℕ) → sum_over from to (λ p. only (eqb a p) w) ≡ only (within from to a) w
  unfolding sum_over
  over-pick a w = sum_congr to _ _ (λ p _. only-swap (leb from p) (eqb a p) w) ∙ go (dec_lt a to)
    where
      go : Dec (a < to) → sum_to to (λ p. only (eqb a p) (only (leb from p) w)) ≡ only (within from to a) w
      go (yes b) = sum-single to a (λ p. only (leb from p) w) b ∙ part (leb from a)
        where
          part : (c : Bool) → only c w ≡ only (c && ltb a to) w
          part c = rw (lt-ltb a to b) (same c)
            where
              same : (c : Bool) → only c w ≡ only (c && true) w
              same true = refl
              same false = refl
      go (no b) = sum-zero to _ (λ p c. rw (ne_eqb a p (λ e. omega arith))) ∙ sym (ap (λ (c : Bool). only c w) (within-behind from to a (omega arith)))

pub over-more : (from m n : ℕ) (g : ℕ → ℕ) → m ≤ n → sum_over from m g ≤ sum_over from n g
unfolding sum_over sum_to
over-more from m zero g l = let e : m ≡ 0 = omega arith in rw e (omega arith)
over-more from m (suc n) g l = go (over-more from m n g) (eq-or-lt_of_le l)
  where
    go : (m ≤ n → sum_over from m g ≤ sum_over from n g) → (m ≡ suc n) ⊎ (m < suc n) → sum_over from m g ≤ sum_over from (suc n) g
    go r (inl e) = rw e (omega arith)
    go r (inr b) = let a = r (omega arith) in omega arith

-- a run cut in two
pub over_join : (u v s : ℕ) (g : ℕ → ℕ) → u ≤ v → v ≤ s → sum_over u v g + sum_over v s g ≡ sum_over u s g
over_join u v zero g a b =
    let e : v ≡ 0 = omega arith in let c = over_none u v g (omega arith) in let d = over_none v 0 g (omega arith) in let f = over_none u 0 g (omega arith) in omega arith
over_join u v (suc s) g a b = go (over_join u v s g a) (eq-or-lt_of_le b)
  where
    go : (v ≤ s → sum_over u v g + sum_over v s g ≡ sum_over u s g) → (v ≡ suc s) ⊎ (v < suc s) → sum_over u v g + sum_over v (suc s) g ≡ sum_over u (suc s) g
    go r (inl e) = let c = over_none v (suc s) g (omega arith) in let d = ap (λ (k : ℕ). sum_over u k g) e in omega arith
    go r (inr l) = let c = over-suc u s g (omega arith) in let d = over-suc v s g (omega arith) in let f = r (omega arith) in omega arith

-- a run as the numbers from its first on
pub over-shift : (from n : ℕ) (g : ℕ → ℕ) → sum_over from (from + n) g ≡ sum_to n (λ i. g (from + i))
unfolding sum_to
over-shift from zero g = over_none from (from + 0) g (omega arith)
over-shift from (suc n) g =
    let e : from + suc n ≡ suc (from + n) = omega arith in
    ap (λ (to : ℕ). sum_over from to g) e ∙ over-suc from (from + n) g (omega arith) ∙ ap (λ (sum : ℕ). sum + g (from + n)) (over-shift from n g)
