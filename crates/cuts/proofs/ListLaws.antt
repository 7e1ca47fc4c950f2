-- Lists whose entries stand in a relation to all behind them, an entry's place in a list, and lists without repetition.
-- Assumes nothing.
use Prim.Native.Nat.{ℕ, zero, suc, ◌≤◌, ◌<◌}
use mathlib.Core.Path.{◌≡◌, refl, sym, ap, ap₂, ◌∙◌, subst}
use mathlib.Core.Logic.{◌⊎◌, inl, inr, ◌↔◌}
use mathlib.Core.List.Memᴰ
use mathlib.Core.List.{List, [], ◌∷◌, ◌++◌, map, Memᴰ}
use native.Mathlib.Omega.{arith}
use lib.ListN.{length, get_or, length-append}
use Rattle.cuts.specs.Paths.{Distinct}

-- each entry stands in the relation to all behind it
abbrev pub Each : {A : Type 0} → (A → A → Type 0) → List A → Type 0
Each R [] = Unit {0}
Each {A} R (x ∷ xs) = ((y : A) → Memᴰ y xs → R x y) × Each R xs

module _ {A : Type 0} where
  pub each_append : {R : A → A → Type 0} (xs ys : List A) → Each R xs → Each R ys → ((x y : A) → Memᴰ x xs → Memᴰ y ys → R x y) → Each R (xs ++ ys)
  each_append [] ys p q h = q
  each_append {R} (x ∷ xs) ys p q h = (λ y m. step y (Memᴰ.append_cases xs m), each_append xs ys p.1 q (λ a b i j. h a b (Memᴰ.tail i) j))
    where
      step : (y : A) → Memᴰ y xs ⊎ Memᴰ y ys → R x y
      step y (inl m) = p.0 y m
      step y (inr m) = h x y (Memᴰ.head refl) m

  pub each_map : {B : Type 0} (R : A → A → Type 0) (S : B → B → Type 0) (f : A → B) → ((x y : A) → R x y → S (f x) (f y)) → (xs : List A) → Each R xs → Each S (map f xs)
  each_map R S f h [] p = tt
  each_map {B} R S f h (x ∷ xs) p = (λ y m. step y (Memᴰ.of_map f xs m), each_map R S f h xs p.1)
    where
      step : (y : B) → (a : A) × Memᴰ a xs × (f a ≡ y) → S (f x) y
      step y o = subst (S (f x)) o.2 (h x o.0 (p.0 o.0 o.1))

  -- what an entry is to those in front of it and behind it
  pub each-split : (R : A → A → Type 0) (pre : List A) (c : A) (post : List A) → Each R (pre ++ c ∷ post) → ((d : A) → Memᴰ d pre → R d c) × ((d : A) → Memᴰ d post → R c d)
  each-split R [] c post p = (λ d m. absurd (Memᴰ.not-nil m), p.0)
  each-split R (x ∷ pre) c post p =
      let r = each-split R pre c post p.1 in (λ d m. step d (r.0 d) (Memᴰ.cases_cons m), r.1)
    where
      step : (d : A) → (Memᴰ d pre → R d c) → (d ≡ x) ⊎ Memᴰ d pre → R d c
      step d r (inl e) = subst (λ (z : A). R z c) (sym e) (p.0 c (Memᴰ.append_right pre (Memᴰ.head refl)))
      step d r (inr m) = r m

  -- an entry and its place
  pub at_mem : (d : A) (xs : List A) (i : ℕ) → i < length xs → Memᴰ (get_or xs i d) xs
  at_mem d [] i b = absurd (omega arith)
  at_mem d (x ∷ xs) zero b = Memᴰ.head refl
  at_mem d (x ∷ xs) (suc i) b = Memᴰ.tail (at_mem d xs i (omega arith))

  pub mem_at : {x : A} {xs : List A} (d : A) → Memᴰ x xs → (i : ℕ) × (i < length xs) × (get_or xs i d ≡ x)
  mem_at d (Memᴰ.head e) = (0, omega arith, sym e)
  mem_at d (Memᴰ.tail m) = let r = mem_at d m in (suc r.0, omega (arith, r.1), r.2)

  -- a relation that follows from another one
  pub each_as : (R S : A → A → Type 0) (xs : List A) → ((x y : A) → Memᴰ x xs → Memᴰ y xs → R x y → S x y) → Each R xs → Each S xs
  each_as R S [] h e = tt
  each_as R S (x ∷ xs) h e = (
    λ y m. h x y (Memᴰ.head refl) (Memᴰ.tail m) (e.0 y m),
    each_as R S xs (λ y z i j. h y z (Memᴰ.tail i) (Memᴰ.tail j)) e.1,
  )

  -- the relation by places
  pub each_at : (R : A → A → Type 0) (d : A) (xs : List A) → Each R xs → (i j : ℕ) → i < j → j < length xs → R (get_or xs i d) (get_or xs j d)
  each_at R d [] e i j l b = absurd (omega arith)
  each_at R d (x ∷ xs) e i zero l b = absurd (omega arith)
  each_at R d (x ∷ xs) e zero (suc j) l b = e.0 (get_or xs j d) (at_mem d xs j (omega arith))
  each_at R d (x ∷ xs) e (suc i) (suc j) l b = each_at R d xs e.1 i j (omega arith) (omega arith)

  pub at_each : (R : A → A → Type 0) (d : A) (xs : List A) → ((i j : ℕ) → i < j → j < length xs → R (get_or xs i d) (get_or xs j d)) → Each R xs
  at_each R d [] h = tt
  at_each R d (x ∷ xs) h = (
    λ y m. let r = mem_at d m in subst (R x) r.2 (h 0 (suc r.0) (omega arith) (omega (arith, r.1))),
    at_each R d xs (λ i j l b. h (suc i) (suc j) (omega arith) (omega arith)),
  )

  -- lists that hold the same in one order are the same
  pub each-only : (R : A → A → Type 0) → ((x y : A) → R x y → R y x → ⊥) → (xs ys : List A) → Each R xs → Each R ys
      → ((x : A) → Memᴰ x xs ↔ Memᴰ x ys) → xs ≡ ys
  each-only R w [] [] p q h = refl
  each-only R w [] (y ∷ ys) p q h = absurd (Memᴰ.not-nil ((h y).1 (Memᴰ.head refl)))
  each-only R w (x ∷ xs) [] p q h = absurd (Memᴰ.not-nil ((h x).0 (Memᴰ.head refl)))
  each-only R w (x ∷ xs) (y ∷ ys) p q h = ap₂ ◌∷◌ same (each-only R w xs ys p.1 q.1 (λ z. (
    λ m. rest (λ e. not-again xs x z p.0 m (e ∙ sym same)) (Memᴰ.cases_cons ((h z).0 (Memᴰ.tail m))),
    λ m. rest (λ e. not-again ys y z q.0 m (e ∙ same)) (Memᴰ.cases_cons ((h z).1 (Memᴰ.tail m))),
  )))
    where
      go : (x ≡ y) ⊎ Memᴰ x ys → (y ≡ x) ⊎ Memᴰ y xs → x ≡ y
      go (inl e) r = e
      go (inr m) (inl e) = sym e
      go (inr m) (inr n) = absurd (w x y (p.0 y n) (q.0 x m))

      same : x ≡ y
      same = go (Memᴰ.cases_cons ((h x).0 (Memᴰ.head refl))) (Memᴰ.cases_cons ((h y).1 (Memᴰ.head refl)))

      not-again : (us : List A) (u z : A) → ((v : A) → Memᴰ v us → R u v) → Memᴰ z us → z ≡ u → ⊥
      not-again us u z k m e = let r : R u u = subst (R u) e (k z m) in w u u r r

      rest : {vs : List A} {z v : A} → (z ≡ v → ⊥) → (z ≡ v) ⊎ Memᴰ z vs → Memᴰ z vs
      rest k (inl e) = absurd (k e)
      rest k (inr n) = n

  -- ---- lists without repetition

  mem_split : {x : A} {ys : List A} → Memᴰ x ys → (front back : List A) × (ys ≡ front ++ x ∷ back)
  mem_split (Memᴰ.head {x = y} {xs = ys} q) = ([], ys, ap (λ (z : A). z ∷ ys) (sym q))
  mem_split (Memᴰ.tail {x = y} {xs = ys} m) = let r = mem_split m in (y ∷ r.0, r.1, ap (λ (l : List A). y ∷ l) r.2)

  distinct_no_more : (xs ys : List A) → Distinct xs → ((x : A) → Memᴰ x xs → Memᴰ x ys) → length xs ≤ length ys
  distinct_no_more [] ys d h = omega arith
  distinct_no_more (x ∷ xs) ys d h = go (mem_split (h x (Memᴰ.head refl))) (λ zs. distinct_no_more xs zs d.1)
    where
      go : (front back : List A) × (ys ≡ front ++ x ∷ back)
          → ((zs : List A) → ((z : A) → Memᴰ z xs → Memᴰ z zs) → length xs ≤ length zs) → suc (length xs) ≤ length ys
      go (front, back, e) r =
          let a = r (front ++ back) (λ z m. rest z m (Memᴰ.append_cases front (rw e at (h z (Memᴰ.tail m))))) in
          let b = length-append front back in
          let c = length-append front (x ∷ back) in
          let f = ap (λ (l : List A). length l) e in
          omega arith
        where
          last : (z : A) → Memᴰ z xs → (z ≡ x) ⊎ Memᴰ z back → Memᴰ z (front ++ back)
          last z m (inl q) = absurd (d.0 (Memᴰ.cast (sym q) m))
          last z m (inr j) = Memᴰ.append_right front j

          rest : (z : A) → Memᴰ z xs → Memᴰ z front ⊎ Memᴰ z (x ∷ back) → Memᴰ z (front ++ back)
          rest z m (inl i) = Memᴰ.append_left back i
          rest z m (inr i) = last z m (Memᴰ.cases_cons i)

  -- those that hold the same are equally long
  pub distinct_length : (xs ys : List A) → Distinct xs → Distinct ys → ((x : A) → Memᴰ x xs ↔ Memᴰ x ys) → length xs ≡ length ys
  distinct_length xs ys d e h =
      let a = distinct_no_more xs ys d (λ x. (h x).0) in
      let b = distinct_no_more ys xs e (λ x. (h x).1) in
      omega arith
