-- Truth values: the connectives at known values, exclusive or, and identities proved by their truth tables.
-- Assumes nothing.
use Prim.Native.Nat.{ℕ, zero, suc}
use mathlib.Core.Path.{◌≡◌, refl, sym, ◌∙◌}
use mathlib.Core.Logic.{◌⊎◌, inl, inr}
use mathlib.Core.Bool.{Bool, true, false, ◌&&◌, ◌||◌, not, xor, beq, and-eq-true_iff}
use native.Mathlib.Omega.{arith}
use lib.Dec.{eqb}
use borrow.Author.Tests.{eqb-true, eqb-false, eq-eqb, ne_eqb}

pub clash : {A : Type 0} {b : Bool} → b ≡ true → b ≡ false → A
clash p q = let z : ◌≡◌ {A = ℕ} 0 1 = cc in absurd (omega arith)

pub truth : (b : Bool) → (b ≡ true) ⊎ (b ≡ false)
truth true = inl refl
truth false = inr refl

pub either : (a b : Bool) → (a || b) ≡ true → (a ≡ true) ⊎ (b ≡ true)
either true b h = inl refl
either false b h = inr h

pub neither : (a b : Bool) → (a || b) ≡ false → (a ≡ false) × (b ≡ false)
neither true b h = clash refl h
neither false b h = (refl, h)

pub or_left : (a b : Bool) → a ≡ true → (a || b) ≡ true
or_left true b h = refl
or_left false b h = clash h refl

pub or_right : (a b : Bool) → b ≡ true → (a || b) ≡ true
or_right true b h = refl
or_right false b h = h

pub flags_equal : (a b : Bool) → beq a b ≡ true → a ≡ b
flags_equal true true h = refl
flags_equal true false h = sym h
flags_equal false true h = h
flags_equal false false h = refl

pub agree : (a b : Bool) → (b ≡ true → a ≡ true) → (a ≡ true → b ≡ true) → a ≡ b
agree true b f g = sym (g refl)
agree false true f g = f refl
agree false false f g = refl

-- ---- two functions of n flags that have one table are the same

abbrev Flags : ℕ → Type 0
Flags zero = Bool
Flags (suc n) = Bool → Flags n

abbrev Same : (n : ℕ) → Flags n → Flags n → Type 0
Same zero a b = a ≡ b
Same (suc n) f g = (b : Bool) → Same n (f b) (g b)

abbrev rows : (n : ℕ) → Flags n → Flags n → Bool
rows zero a b = beq a b
rows (suc n) f g = rows n (f true) (g true) && rows n (f false) (g false)

pub one_table : (n : ℕ) (f g : Flags n) → rows n f g ≡ true → Same n f g
one_table zero a b h = flags_equal a b h
one_table (suc n) f g h =
    let p = (and-eq-true_iff (rows n (f true) (g true)) (rows n (f false) (g false))).0 h in
    elim [ true ↦ one_table n (f true) (g true) p.0 | false ↦ one_table n (f false) (g false) p.1 ]

-- ---- exclusive or

pub xor_self : (a : Bool) → xor a a ≡ false
unfolding xor
xor_self = one_table 1 (λ a. xor a a) (λ a. false) refl

pub xor-false : (a : Bool) → xor a false ≡ a
unfolding xor
xor-false = one_table 1 (λ a. xor a false) (λ a. a) refl

pub xor_comm : (a b : Bool) → xor a b ≡ xor b a
unfolding xor
xor_comm = one_table 2 (λ a b. xor a b) (λ a b. xor b a) refl

pub xor-not : (a b : Bool) → xor (not a) (not b) ≡ xor a b
unfolding xor
xor-not = one_table 2 (λ a b. xor (not a) (not b)) (λ a b. xor a b) refl

pub xor_via : (a b c : Bool) → xor a c ≡ xor (xor a b) (xor b c)
unfolding xor
xor_via = one_table 3 (λ a b c. xor a c) (λ a b c. xor (xor a b) (xor b c)) refl

pub xor-swap : (a b c d : Bool) → xor (xor a b) (xor c d) ≡ xor (xor a c) (xor b d)
unfolding xor
xor-swap = one_table 4 (λ a b c d. xor (xor a b) (xor c d)) (λ a b c d. xor (xor a c) (xor b d)) refl

pub xor_equal : (a b : Bool) → xor a b ≡ false → a ≡ b
unfolding xor
xor_equal true true h = refl
xor_equal true false h = h
xor_equal false true h = sym h
xor_equal false false h = refl

-- ---- the test for equality

pub eqb_comm : (a b : ℕ) → eqb a b ≡ eqb b a
eqb_comm a b = step (truth (eqb a b))
  where
    step : (eqb a b ≡ true) ⊎ (eqb a b ≡ false) → eqb a b ≡ eqb b a
    step (inl e) = e ∙ sym (eq-eqb b a (sym (eqb-true a b e)))
    step (inr e) = e ∙ sym (ne_eqb b a (λ q. eqb-false a b e (sym q)))
