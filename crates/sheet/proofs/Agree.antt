-- Two readers of the same bytes that agree but for one refusal, record by record. Assumes nothing.
use Prim.Native.Nat.{ℕ, zero, suc, ◌<◌}
use mathlib.Core.Path.{◌≡◌, refl, sym, ap, ◌∙◌}
use mathlib.Core.Bool.{Bool, true, false, cond}
use mathlib.Core.List.{List, [], ◌∷◌, ◌++◌}
use native.Mathlib.Omega.{arith}
use lib.Dec.{eqb}
use Rattle.sheet.specs.Bytes.{Bytes}
use Rattle.sheet.specs.Reading.{Reading, accepted, refused, number_of, unless, and_then, records}

-- s is r, unless r is the refusal n
abbrev pub Agree : {A : Type 0} → ℕ → Reading A → Reading A → Type 0
Agree n r s = (number_of r ≡ n → ⊥) → s ≡ r

module _ {A : Type 0} {n : ℕ} where
  pub agree_via : {r r' s s' : Reading A} → r ≡ r' → s ≡ s' → Agree n r' s' → Agree n r s
  agree_via p q h k = q ∙ h (λ e. k (ap number_of p ∙ e)) ∙ sym p

  pub agree-unless : {r s : Reading A} (m : ℕ) → Agree n r s → Agree n (unless m r) (unless m s)
  agree-unless {r} {s} m h = step (eqb m 0)
    where
      step : (b : Bool) → Agree n (cond b r (refused m)) (cond b s (refused m))
      step true = h
      step false = λ _. refl

module _ {n : ℕ} (some : 0 < n) where
  pub agree-and_then : {A B : Type 0} (r s : Reading A) (next then : A → Bytes → Reading B) → Agree n r s
      → ((x : A) (rest : Bytes) → Agree n (next x rest) (then x rest)) → Agree n (and_then r next) (and_then s then)
  agree-and_then {A} (accepted x rest) s next then h k q = ap (λ (t : Reading A). and_then t then) (h (λ e. omega arith)) ∙ k x rest q
  agree-and_then {A} (refused m) s next then h k q = ap (λ (t : Reading A). and_then t then) (h q)

  pub agree-records : {A : Type 0} (one two : List A → Bytes → Reading A) → ((got : List A) (bs : Bytes) → Agree n (one got bs) (two got bs))
      → (k : ℕ) (got : List A) (bs : Bytes) → Agree n (records one k got bs) (records two k got bs)
  unfolding records
  agree-records one two h zero got bs = λ _. refl
  agree-records one two h (suc k) got bs =
      agree-and_then (one got bs) (two got bs) _ _ (h got bs) (λ x rest. agree-records one two h k (got ++ x ∷ []) rest)
