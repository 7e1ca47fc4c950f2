-- Comparing two numbers, and two link numbers as a handle.
-- Assumes nothing.
use Prim.Native.Nat.{ℕ, ◌≤◌, ◌<◌, min, max}
use mathlib.Core.Path.{◌≡◌, refl, sym}
use mathlib.Core.Logic.{◌⊎◌, inl, inr}
use mathlib.Core.Bool.{Bool, true, false, cond}
use native.Mathlib.Nat.{eq-or-lt_of_le}
use native.Mathlib.Omega.{arith}
use lib.Dec.{eqb, ltb}
use borrow.Author.Tests.{ltb-true, ltb-false, eq-eqb, ne_eqb}
use Rattle.cuts.specs.Candidate.{one, two}
use Rattle.cuts.proofs.FlagLaws.{truth}
use Rattle.search_order.specs.Choice.{lead, chosen}

pub less-or_not : (a b : ℕ) → (a < b) ⊎ (b ≤ a)
less-or_not a b = step (truth (ltb a b))
  where
    step : (ltb a b ≡ true) ⊎ (ltb a b ≡ false) → (a < b) ⊎ (b ≤ a)
    step (inl e) = inl (ltb-true a b e)
    step (inr e) = inr (ltb-false a b e)

pub three_ways : (a b : ℕ) → (a ≡ b) ⊎ ((a < b) ⊎ (b < a))
three_ways a b = step (less-or_not a b)
  where
    even : (b ≡ a) ⊎ (b < a) → (a ≡ b) ⊎ ((a < b) ⊎ (b < a))
    even (inl e) = inl (sym e)
    even (inr l) = inr (inr l)

    step : (a < b) ⊎ (b ≤ a) → (a ≡ b) ⊎ ((a < b) ⊎ (b < a))
    step (inl l) = inr (inl l)
    step (inr l) = even (eq-or-lt_of_le l)

-- ---- two link numbers as a handle

pub chosen-lead : (e f : ℕ) → lead (chosen e f) ≡ e
chosen-lead e f = step (eqb e f)
  where
    step : (b : Bool) → lead (cond b (one e) (two e f)) ≡ e
    step true = refl
    step false = refl

pub chosen-one : (e : ℕ) → chosen e e ≡ one e
chosen-one e = rw (eq-eqb e e refl)

pub chosen-two : (e f : ℕ) → e < f → chosen e f ≡ two e f
chosen-two e f l = rw (ne_eqb e f (λ q. omega arith))

-- two numbers are the lesser and the greater, or the other way round
pub sorted : (a b : ℕ) → ((min a b ≡ a) × (max a b ≡ b)) ⊎ ((min a b ≡ b) × (max a b ≡ a))
sorted a b = step (less-or_not a b)
  where
    step : (a < b) ⊎ (b ≤ a) → ((min a b ≡ a) × (max a b ≡ b)) ⊎ ((min a b ≡ b) × (max a b ≡ a))
    step (inl l) = inl (omega arith)
    step (inr l) = inr (omega arith)
