-- One order and then another, and an order by numbers.
-- Assumes nothing.
use Prim.Native.Nat.{ℕ, ◌<◌}
use mathlib.Core.Path.{◌≡◌, refl}
use mathlib.Core.Logic.{◌⊎◌, inl, inr}
use mathlib.Core.Bool.{Bool, true, false, ◌&&◌, ◌||◌, not}
use native.Mathlib.Nat.{eq-or-lt_of_le}
use native.Mathlib.Omega.{arith}
use lib.Dec.{ltb}
use borrow.Author.Tests.{ltb-true, ltb-false, lt-ltb, le-ltb}
use Rattle.cuts.specs.First.{then_by}
use Rattle.cuts.specs.Candidate.{LowerThen}
use Rattle.cuts.proofs.FlagLaws.{clash, truth, either, or_left, or_right}
use Rattle.cuts.proofs.Least.{Order}

pub refuted : {b : Bool} → (b ≡ true → b ≡ false) → b ≡ false
refuted {b} h = step (truth b)
  where
    step : (b ≡ true) ⊎ (b ≡ false) → b ≡ false
    step (inl e) = h e
    step (inr e) = e

-- ---- one order and then another

module _ {A : Type 0} (before next : A → A → Bool) where
  pub then_left : (x y : A) → before x y ≡ true → then_by before next x y ≡ true
  unfolding then_by
  then_left x y p = or_left _ _ p

  pub then_right : (x y : A) → before y x ≡ false → next x y ≡ true → then_by before next x y ≡ true
  unfolding then_by
  then_right x y p q = or_right (before x y) (not (before y x) && next x y) (rw (p, q))

  then_of : (x y : A) → then_by before next x y ≡ true → (before x y ≡ true) ⊎ ((before y x ≡ false) × (next x y ≡ true))
  unfolding then_by
  then_of x y h = step (before y x) refl (either (before x y) (not (before y x) && next x y) h)
    where
      step : (b : Bool) → before y x ≡ b → (before x y ≡ true) ⊎ ((not b && next x y) ≡ true) → (before x y ≡ true) ⊎ ((before y x ≡ false) × (next x y ≡ true))
      step b e (inl p) = inl p
      step true e (inr q) = clash q refl
      step false e (inr q) = inr (e, q)

  pub then_order : Order before → Order next → Order (then_by before next)
  then_order o n = record { one_way = λ x y e. refuted (λ h. back x y (then_of x y e) (then_of y x h)); between = λ x y z e h. go x y z h (then_of x z e) }
    where
      back : (x y : A) → (before x y ≡ true) ⊎ ((before y x ≡ false) × (next x y ≡ true)) → (before y x ≡ true) ⊎ ((before x y ≡ false) × (next y x ≡ true))
          → then_by before next y x ≡ false
      back x y (inl p) (inl q) = clash q (o.one_way x y p)
      back x y (inl p) (inr q) = clash p q.0
      back x y (inr p) (inl q) = clash q p.0
      back x y (inr p) (inr q) = clash q.1 (n.one_way x y p.1)

      -- even with z, x is before what z is before, and `next` decides what is even with it
      even : (x y z : A) → then_by before next y z ≡ false → before z x ≡ false → next x z ≡ true → (before x y ≡ true) ⊎ (before x y ≡ false)
          → (before y x ≡ true) ⊎ (before y x ≡ false) → (next y z ≡ true) ⊎ (next y z ≡ false) → (before z y ≡ true) ⊎ (before z y ≡ false) → then_by before next x y ≡ true
      even x y z h p q (inl a) b c d = then_left x y a
      even x y z h p q (inr a) (inl b) c d = clash (then_left y z (o.between y z x b p)) h
      even x y z h p q (inr a) (inr b) (inr c) d = then_right x y b (n.between x y z q c)
      even x y z h p q (inr a) (inr b) (inl c) (inl d) = clash (o.between z x y d a) p
      even x y z h p q (inr a) (inr b) (inl c) (inr d) = clash (then_right y z d c) h

      go : (x y z : A) → then_by before next y z ≡ false → (before x z ≡ true) ⊎ ((before z x ≡ false) × (next x z ≡ true)) → then_by before next x y ≡ true
      go x y z h (inl p) = then_left x y (o.between x y z p (refuted (λ q. clash (then_left y z q) h)))
      go x y z h (inr p) = even x y z h p.0 p.1 (truth (before x y)) (truth (before y x)) (truth (next y z)) (truth (before z y))

-- by two orders and then by a third is by one and then by the others
pub then_assoc : {A : Type 0} (before next last : A → A → Bool) (x y : A) → then_by (then_by before next) last x y ≡ then_by before (then_by next last) x y
unfolding then_by
then_assoc before next last x y = go (before x y) (before y x) (next x y)
  where
    go : (a b c : Bool) → ((a || (not b && c)) || (not (b || (not a && next y x)) && last x y)) ≡ (a || (not b && (c || (not (next y x) && last x y))))
    go true b c = refl
    go false true c = refl
    go false false true = refl
    go false false false = refl

-- by a number and then by another order
module _ {A : Type 0} (f : A → ℕ) (next : A → A → Bool) (x y : A) where
  pub by-number_in : LowerThen (f x) (f y) (next x y ≡ true) → then_by (λ x y. ltb (f x) (f y)) next x y ≡ true
  by-number_in (inl l) = then_left (λ x y. ltb (f x) (f y)) next x y (lt-ltb _ _ l)
  by-number_in (inr p) = let e = p.0 in then_right (λ x y. ltb (f x) (f y)) next x y (le-ltb (f y) (f x) (omega arith)) p.1

  pub by-number_of : then_by (λ x y. ltb (f x) (f y)) next x y ≡ true → LowerThen (f x) (f y) (next x y ≡ true)
  by-number_of h = step (then_of (λ x y. ltb (f x) (f y)) next x y h)
    where
      level : next x y ≡ true → (f x ≡ f y) ⊎ (f x < f y) → LowerThen (f x) (f y) (next x y ≡ true)
      level q (inl e) = inr (e, q)
      level q (inr l) = inl l

      step : (ltb (f x) (f y) ≡ true) ⊎ ((ltb (f y) (f x) ≡ false) × (next x y ≡ true)) → LowerThen (f x) (f y) (next x y ≡ true)
      step (inl p) = inl (ltb-true (f x) (f y) p)
      step (inr p) = level p.1 (eq-or-lt_of_le (ltb-false (f y) (f x) p.0))

  -- where y does not come before x
  pub by-number_not : then_by (λ x y. ltb (f x) (f y)) next y x ≡ false → LowerThen (f x) (f y) (next y x ≡ false)
  by-number_not h = step (eq-or-lt_of_le (ltb-false (f y) (f x) (refuted (λ p. clash (then_left (λ x y. ltb (f x) (f y)) next y x p) h))))
    where
      step : (f x ≡ f y) ⊎ (f x < f y) → LowerThen (f x) (f y) (next y x ≡ false)
      step (inl e) = inr (e, refuted (λ q. clash (then_right (λ x y. ltb (f x) (f y)) next y x (le-ltb (f x) (f y) (omega arith)) q) h))
      step (inr l) = inl l
