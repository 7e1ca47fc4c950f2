-- Where a candidate comes before another, handle by handle and tree by tree, the tests say so; and each test is an order.
-- Assumes nothing.
use Prim.Native.Nat.{ℕ, suc, ◌<◌}
use mathlib.Core.Path.{◌≡◌}
use mathlib.Core.Logic.{◌⊎◌, inl, inr}
use mathlib.Core.Bool.{Bool, true}
use native.Mathlib.Nat.{eq-or-lt_of_le}
use native.Mathlib.Omega.{arith}
use lib.Dec.{ltb}
use borrow.Author.Tests.{lt-ltb}
use Rattle.cuts.specs.Candidate.{Handle, one, two, Candidate, Sooner, Earlier}
use Rattle.cuts.proofs.Least.{Order, by_key}
use Rattle.cuts.proofs.ThenLaws.{then_order, by-number_in}
use Rattle.search_order.specs.Choice.{lead, rest, sooner, earlier, comes_first}

-- ---- what the tests say

pub sooner_in : (g h : Handle) → Sooner g h → sooner g h ≡ true
unfolding sooner
sooner_in g h s = by-number_in lead (λ g h. ltb (rest g) (rest h)) g h (cases g h s)
  where
    level : (a b c : ℕ) → (a ≡ b) ⊎ (a < b) → (a < b) ⊎ ((a ≡ b) × (ltb 0 (suc c) ≡ true))
    level a b c (inl e) = inr (e, lt-ltb 0 (suc c) (omega arith))
    level a b c (inr l) = inl l

    second : (a b c d : ℕ) → (a < c) ⊎ ((a ≡ c) × (b < d)) → (a < c) ⊎ ((a ≡ c) × (ltb (suc b) (suc d) ≡ true))
    second a b c d (inl l) = inl l
    second a b c d (inr p) = let l = p.1 in inr (p.0, lt-ltb (suc b) (suc d) (omega arith))

    cases : (g h : Handle) → Sooner g h → (lead g < lead h) ⊎ ((lead g ≡ lead h) × (ltb (rest g) (rest h) ≡ true))
    cases (one a) (one b) l = inl l
    cases (one a) (two b c) l = level a b c (eq-or-lt_of_le l)
    cases (two a b) (one c) l = inl l
    cases (two a b) (two c d) s = second a b c d s

module _ (c d : Candidate) where
  pub earlier_in : Earlier c d → earlier c d ≡ true
  unfolding earlier
  earlier_in e = by-number_in (λ c. c.tree) (λ c d. sooner c.handle d.handle) c d (step e)
    where
      step : Earlier c d → (c.tree < d.tree) ⊎ ((c.tree ≡ d.tree) × (sooner c.handle d.handle ≡ true))
      step (inl l) = inl l
      step (inr p) = inr (p.0, sooner_in c.handle d.handle p.1)

-- ---- they are orders

by_image : {A B : Type 0} (f : A → B) {before : B → B → Bool} → Order before → Order {A = A} (λ x y. before (f x) (f y))
by_image f o = record { one_way = λ x y. o.one_way (f x) (f y); between = λ x y z. o.between (f x) (f y) (f z) }

sooner-order : Order sooner
unfolding sooner
sooner-order = then_order _ _ (by_key lead) (by_key rest)

earlier-order : Order earlier
unfolding earlier
earlier-order = then_order _ _ (by_key (λ c. c.tree)) (by_image (λ c. c.handle) sooner-order)

pub comes_first-order : {before : Candidate → Candidate → Bool} → Order before → Order (comes_first before)
unfolding comes_first
comes_first-order o = then_order _ _ o earlier-order
