-- `first_of` is the first of the list before which none comes.
-- Assumes nothing.
use Prim.Native.Nat.{ℕ}
use mathlib.Core.Path.{◌≡◌, refl, sym, ap, subst}
use mathlib.Core.Logic.{◌⊎◌, inl, inr}
use mathlib.Core.Bool.{Bool, true, false, cond}
use mathlib.Core.List.Memᴰ
use mathlib.Core.List.{List, [], ◌∷◌, ◌++◌, Memᴰ}
use native.Mathlib.Omega.{arith}
use lib.Dec.{ltb}
use borrow.Author.Tests.{ltb-true, ltb-false, lt-ltb, le-ltb}
use Rattle.cuts.specs.First.{first_from, first_of}
use Rattle.cuts.proofs.FlagLaws.{clash}

-- one comes before another, or they are even
pub record Order {A : Type 0} (before : A → A → Bool) : Type 0 where
  pub one_way : (x y : A) → before x y ≡ true → before y x ≡ false
  pub between : (x y z : A) → before x z ≡ true → before y z ≡ false → before x y ≡ true

pub by_key : {A : Type 0} (f : A → ℕ) → Order {A = A} (λ x y. ltb (f x) (f y))
by_key f = record {
  one_way = λ x y e. le-ltb (f y) (f x) (let l = ltb-true (f x) (f y) e in omega arith);
  between = λ x y z e h. lt-ltb (f x) (f y) (let l = ltb-true (f x) (f z) e in let m = ltb-false (f y) (f z) h in omega arith);
}

-- c stands in the list, it comes before all in front of it, and none behind it comes before it
pub record First {A : Type 0} (earlier : A → A → Bool) (cs : List A) (c : A) : Type 0 where
  pub before : List A
  pub after : List A
  pub splits : cs ≡ before ++ c ∷ after
  pub leads : (d : A) → Memᴰ d before → earlier c d ≡ true
  pub not_led : (d : A) → Memᴰ d after → earlier d c ≡ false

-- what holds of x and of all of xs
pub also : {A : Type 0} (P : A → Type 0) (x : A) (xs : List A) → P x → ((d : A) → Memᴰ d xs → P d) → (d : A) → Memᴰ d (x ∷ xs) → P d
also P x xs p h d m = step (Memᴰ.cases_cons m)
  where
    step : (d ≡ x) ⊎ Memᴰ d xs → P d
    step (inl e) = subst P (sym e) p
    step (inr i) = h d i

module _ {A : Type 0} {before : A → A → Bool} where
  pub first_in : {cs : List A} {c : A} → First before cs c → Memᴰ c cs
  first_in f = rw f.splits (Memᴰ.append_right f.before (Memᴰ.head refl))

module _ {A : Type 0} {before : A → A → Bool} (o : Order before) where
  irreflexive : (x : A) → before x x ≡ false
  irreflexive x = step (before x x) refl
    where
      step : (b : Bool) → before x x ≡ b → b ≡ false
      step true e = clash e (o.one_way x x e)
      step false e = refl

  pub first-least : {cs : List A} {c : A} → First before cs c → (d : A) → Memᴰ d cs → before d c ≡ false
  first-least {c = c} f d m = step (Memᴰ.append_cases f.before (rw f.splits at m))
    where
      step : Memᴰ d f.before ⊎ Memᴰ d (c ∷ f.after) → before d c ≡ false
      step (inl i) = o.one_way c d (f.leads d i)
      step (inr i) = also (λ x. before x c ≡ false) c f.after (irreflexive c) f.not_led d i

  -- one that comes before c takes its place; one that does not comes second
  in-front : (c d : A) (ds : List A) (b : A) → before d c ≡ true → First before (d ∷ ds) b → First before (c ∷ d ∷ ds) b
  in-front c d ds b l f = record {
    before = c ∷ f.before;
    after = f.after;
    splits = ap (λ (r : List A). c ∷ r) f.splits;
    leads = also (λ x. before b x ≡ true) c f.before (step (before b c) refl) f.leads;
    not_led = f.not_led;
  }
    where
      step : (t : Bool) → before b c ≡ t → t ≡ true
      step true e = refl
      step false e = clash (o.between d b c l e) (first-least f d (Memᴰ.head refl))

  second : (c d : A) (ds : List A) (b : A) → before d c ≡ false → First before (c ∷ ds) b → First before (c ∷ d ∷ ds) b
  second c d ds b l f = step f.before f.splits f.leads
    where
      step : (xs : List A) → c ∷ ds ≡ xs ++ b ∷ f.after → ((x : A) → Memᴰ x xs → before b x ≡ true) → First before (c ∷ d ∷ ds) b
      step [] e h =
          let u : c ≡ b = cc in let v : ds ≡ f.after = cc in
          record { before = []; after = d ∷ f.after; splits = cc; leads = h; not_led = also (λ x. before x b ≡ false) d f.after (rw (← u) l) f.not_led }
      step (x ∷ xs) e h =
          let u : c ≡ x = cc in let v : ds ≡ xs ++ b ∷ f.after = cc in
          let k : before b c ≡ true = rw u (h x (Memᴰ.head refl)) in
          record {
            before = c ∷ d ∷ xs;
            after = f.after;
            splits = cc;
            leads = also (λ y. before b y ≡ true) c (d ∷ xs) k (also (λ y. before b y ≡ true) d xs (o.between b d c k l) (λ y i. h y (Memᴰ.tail i)));
            not_led = f.not_led;
          }

  first-from : (c : A) (ds : List A) → First before (c ∷ ds) (first_from before c ds)
  unfolding first_from
  first-from c [] = record { before = []; after = []; splits = refl; leads = λ d m. absurd (Memᴰ.not-nil m); not_led = λ d m. absurd (Memᴰ.not-nil m) }
  first-from c (d ∷ ds) = step (before d c) refl (first-from d ds) (first-from c ds)
    where
      step : (b : Bool) → before d c ≡ b → First before (d ∷ ds) (first_from before d ds) → First before (c ∷ ds) (first_from before c ds)
          → First before (c ∷ d ∷ ds) (first_from before (cond b d c) ds)
      step true e f g = in-front c d ds _ e f
      step false e f g = second c d ds _ e g

  pub first-of : (none : A) (cs : List A) {c : A} → Memᴰ c cs → First before cs (first_of before none cs)
  unfolding first_of
  first-of none [] m = absurd (Memᴰ.not-nil m)
  first-of none (c ∷ cs) m = first-from c cs

-- ---- runs

module _ {A : Type 0} (before : A → A → Bool) where
  -- the first of two lists is found in the one, then in the other
  pub first_from-append : (c : A) (xs ys : List A) → first_from before c (xs ++ ys) ≡ first_from before (first_from before c xs) ys
  unfolding first_from
  first_from-append c [] ys = refl
  first_from-append c (x ∷ xs) ys = first_from-append (cond (before x c) x c) xs ys

  -- from one that all come before, the first is that of the list
  pub first_from-first_of : (none c : A) (xs : List A) {x : A} → Memᴰ x xs → ((d : A) → Memᴰ d xs → before d c ≡ true) → first_from before c xs ≡ first_of before none xs
  unfolding first_from first_of
  first_from-first_of none c [] m h = absurd (Memᴰ.not-nil m)
  first_from-first_of none c (d ∷ xs) m h = rw (h d (Memᴰ.head refl))
