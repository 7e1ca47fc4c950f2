-- The first in an order: visited one by one, joined, and in a list.
-- Assumes nothing.
use mathlib.Core.Path.{◌≡◌, refl, sym, subst}
use mathlib.Core.Logic.{◌⊎◌, inl, inr}
use mathlib.Core.Bool.{Bool, true, false, cond}
use mathlib.Core.List.Memᴰ
use mathlib.Core.List.{List, [], ◌∷◌, ◌++◌, Memᴰ}
use Rattle.cuts.specs.First.{then_by, first_from, first_of}
use Rattle.cuts.proofs.FlagLaws.{clash}
use Rattle.cuts.proofs.ListLaws.{Each, each-split}
use Rattle.cuts.proofs.Least.{Order, First, first-of, first_in}
use Rattle.cuts.proofs.ThenLaws.{refuted, then_left, then_right}
use Rattle.search_order.specs.Choice.{FirstOf}

-- ---- the first

module _ {A : Type 0} {before : A → A → Bool} where
  -- what is visited may be said in another way
  pub first-same : {P Q : A → Type 0} {c : A} → ((x : A) → P x → Q x) → ((x : A) → Q x → P x) → FirstOf before P c → FirstOf before Q c
  first-same {c = c} to from f = record { is_among = to c f.is_among; none_before = λ d m. f.none_before d (from d m) }

module _ {A : Type 0} {before : A → A → Bool} (o : Order before) where
  pub first_alone : (c : A) → FirstOf before (λ x. x ≡ c) c
  first_alone c = record { is_among = refl; none_before = λ d e. rw e (refuted (λ h. o.one_way c c h)) }

  pub first_join : {P Q : A → Type 0} {c d : A} → FirstOf before P c → FirstOf before Q d → FirstOf before (λ x. P x ⊎ Q x) (cond (before d c) d c)
  first_join {P} {Q} {c} {d} f g = step (before d c) refl
    where
      other : before d c ≡ true → (x : A) → P x ⊎ Q x → before x d ≡ false
      other e x (inl m) = refuted (λ h. clash (o.between x c d h (o.one_way d c e)) (f.none_before x m))
      other e x (inr m) = g.none_before x m

      same : before d c ≡ false → (x : A) → P x ⊎ Q x → before x c ≡ false
      same e x (inl m) = f.none_before x m
      same e x (inr m) = refuted (λ h. clash (o.between x d c h e) (g.none_before x m))

      step : (b : Bool) → before d c ≡ b → FirstOf before (λ x. P x ⊎ Q x) (cond b d c)
      step true e = record { is_among = inr g.is_among; none_before = other e }
      step false e = record { is_among = inl f.is_among; none_before = same e }

  pub first_step : {P : A → Type 0} {c : A} (d : A) → FirstOf before P c → FirstOf before (λ x. P x ⊎ (x ≡ d)) (cond (before d c) d c)
  first_step d f = first_join f (first_alone d)

-- ---- the first of a list

-- a list gone through from c on leads to the first of all
-- what a list brings: nothing, or one of it that comes before what was there
pub first-brings : {A : Type 0} {before : A → A → Bool} → Order before → (c : A) (cs : List A) → let f = first_from before c cs in (f ≡ c) ⊎ ((before f c ≡ true) × Memᴰ f cs)
unfolding first_of
first-brings {A} {before} o c cs = at (first_from before c cs) (first-of o c (c ∷ cs) (Memᴰ.head refl))
  where
    at : (f : A) → First before (c ∷ cs) f → (f ≡ c) ⊎ ((before f c ≡ true) × Memᴰ f cs)
    at f w = step w.before w.splits w.leads
      where
        step : (xs : List A) → c ∷ cs ≡ xs ++ f ∷ w.after → ((x : A) → Memᴰ x xs → before f x ≡ true) → (f ≡ c) ⊎ ((before f c ≡ true) × Memᴰ f cs)
        step [] e h = inl (cc)
        step (x ∷ xs) e h =
            let p : c ≡ x = cc in
            let q : cs ≡ xs ++ f ∷ w.after = cc in
            inr (subst (λ (y : A). before f y ≡ true) (sym p) (h x (Memᴰ.head refl)), subst (Memᴰ f) (sym q) (Memᴰ.append_right xs (Memᴰ.head refl)))

-- a list in which each comes sooner than those behind it that are not before it: its first by `before` and then `sooner`, however it was
-- found, is the one that stands first of those before which none comes
pub first-listed : {A : Type 0} {before : A → A → Bool} (sooner : A → A → Bool) → Order before → (c : A) (cs : List A)
    → Each (λ x y. (before y x ≡ true) ⊎ (sooner x y ≡ true)) (c ∷ cs) → {f : A} → FirstOf (then_by before sooner) (λ x. Memᴰ x (c ∷ cs)) f → f ≡ first_from before c cs
unfolding first_of
first-listed {A} {before} sooner o c cs r {f} v = at (first_from before c cs) (first-of o c (c ∷ cs) (Memᴰ.head refl))
  where
    at : (g : A) → First before (c ∷ cs) g → f ≡ g
    at g w = step (Memᴰ.append_cases w.before (subst (Memᴰ f) w.splits v.is_among))
      where
        behind : (before f g ≡ true) ⊎ (sooner g f ≡ true) → before f g ≡ false → f ≡ g
        behind (inl p) q = clash p q
        behind (inr p) q = clash (then_right before sooner g f q p) (v.none_before g (first_in w))

        last : (f ≡ g) ⊎ Memᴰ f w.after → f ≡ g
        last (inl e) = e
        last (inr m) = behind ((each-split _ w.before g w.after (subst (Each _) w.splits r)).1 f m) (w.not_led f m)

        step : Memᴰ f w.before ⊎ Memᴰ f (g ∷ w.after) → f ≡ g
        step (inl m) = clash (then_left before sooner g f (w.leads f m)) (v.none_before g (first_in w))
        step (inr m) = last (Memᴰ.cases_cons m)
