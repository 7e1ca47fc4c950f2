-- The order of candidates goes one way: of two candidates not each precedes the other.
-- Assumes nothing.
use Prim.Native.Nat.{ℕ}
use mathlib.Core.Path.{◌≡◌, sym, subst}
use mathlib.Core.Logic.{◌⊎◌, inl, inr}
use native.Mathlib.Omega.{arith}
use Rattle.cuts.specs.Candidate.{Handle, one, two, Candidate, Key, LowerThen, Sooner, Earlier, Precedes}

lower-one_way : {a b : ℕ} {there back : Type 0} → (there → back → ⊥) → LowerThen a b there → LowerThen b a back → ⊥
lower-one_way h (inl l) (inl m) = omega arith
lower-one_way h (inl l) (inr m) = omega (arith, m.0)
lower-one_way h (inr l) (inl m) = omega (arith, l.0)
lower-one_way h (inr l) (inr m) = h l.1 m.1

sooner-one_way : (g h : Handle) → Sooner g h → Sooner h g → ⊥
sooner-one_way (one e) (one f) l m = omega arith
sooner-one_way (one e) (two f g) l m = omega arith
sooner-one_way (two e f) (one g) l m = omega arith
sooner-one_way (two e f) (two g h) l m = lower-one_way (λ p q. omega arith) l m

-- no handle is sooner than itself
pub sooner-apart : (g h : Handle) → Sooner g h → g ≡ h → ⊥
sooner-apart g h l q = let k = subst (λ (x : Handle). Sooner x h) q l in sooner-one_way h h k k

pub earlier-one_way : (c d : Candidate) → Earlier c d → Earlier d c → ⊥
earlier-one_way c d l m = lower-one_way (sooner-one_way c.handle d.handle) l m

module _ (key : Key) (c d : Candidate) where
  pub precedes-one_way : Precedes key c d → Precedes key d c → ⊥
  precedes-one_way l m = lower-one_way (λ p q. lower-one_way (earlier-one_way c d) p q) l m

  -- two that each are first of the two are one
  pub precedes-only : (d ≡ c) ⊎ Precedes key c d → (c ≡ d) ⊎ Precedes key d c → c ≡ d
  precedes-only (inl e) r = sym e
  precedes-only (inr l) (inl e) = e
  precedes-only (inr l) (inr m) = absurd (precedes-one_way l m)
