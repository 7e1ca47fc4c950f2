-- What is found as a candidate: two of them compared number by number are in the order of the candidates that they say.
-- Assumes nothing.
use Prim.Native.Nat.{ℕ, suc, ◌<◌}
use mathlib.Core.Path.{◌≡◌, sym, ◌∙◌}
use mathlib.Core.Logic.{◌⊎◌, inl, inr}
use mathlib.Core.Bool.{Bool, true, false, ◌&&◌, ◌||◌, not, cond}
use native.Mathlib.Omega.{arith}
use lib.Dec.{ltb}
use borrow.Author.Tests.{lt-ltb, le-ltb, eq-eqb, ne_eqb}
use Rattle.cuts.specs.First.{then_by}
use Rattle.cuts.specs.Candidate.{Handle, Candidate, fewer_nodes, ahead}
use Rattle.cuts.proofs.ThenLaws.{then_assoc}
use Rattle.search_order.specs.Choice.{lead, rest, sooner, earlier, comes_first, chosen, Says, said}
use Rattle.search_order.specs.declared.Found.{Found}
use Rattle.search_order.proofs.HandleLaws.{three_ways, chosen-lead}

-- ---- one number after the other

module _ {A : Type 0} (f : A → ℕ) (next : A → A → Bool) (x y : A) where
  by-number_other : (f x ≡ f y → ⊥) → then_by (λ x y. ltb (f x) (f y)) next x y ≡ ltb (f x) (f y)
  unfolding then_by
  by-number_other n = step (three_ways (f x) (f y))
    where
      step : (f x ≡ f y) ⊎ ((f x < f y) ⊎ (f y < f x)) → (ltb (f x) (f y) || (not (ltb (f y) (f x)) && next x y)) ≡ ltb (f x) (f y)
      step (inl e) = absurd (n e)
      step (inr (inl l)) = rw (lt-ltb (f x) (f y) l)
      step (inr (inr l)) = rw (le-ltb (f x) (f y) (omega arith), lt-ltb (f y) (f x) l)

  by-number_even : f x ≡ f y → then_by (λ x y. ltb (f x) (f y)) next x y ≡ next x y
  unfolding then_by
  by-number_even e = rw (le-ltb (f x) (f y) (omega arith), le-ltb (f y) (f x) (omega arith))

-- ---- what is found

pub rest-one : (e f : ℕ) → e ≡ f → 0 ≡ rest (chosen e f)
rest-one e f q = rw (eq-eqb e f q)

pub rest-two : (e f : ℕ) → (e ≡ f → ⊥) → suc f ≡ rest (chosen e f)
rest-two e f q = rw (ne_eqb e f q)

module _ (a b : Found) where
  abbrev first_test : Bool
  first_test = comes_first (ahead fewer_nodes) (said a) (said b)

  -- one number at a time
  by-numbers : first_test ≡ then_by (λ c d. ltb c.weight d.weight) (then_by (λ c d. ltb c.count d.count) earlier) (said a) (said b)
  unfolding comes_first ahead
  by-numbers = then_assoc (λ c d. ltb c.weight d.weight) (λ c d. ltb c.count d.count) earlier (said a) (said b)

  pub by_weight : (a.weight ≡ b.weight → ⊥) → ltb a.weight b.weight ≡ first_test
  by_weight n = sym (by-numbers ∙ by-number_other (λ c. c.weight) _ (said a) (said b) n)

  module _ (w : a.weight ≡ b.weight) where
    even-weight : first_test ≡ then_by (λ c d. ltb c.count d.count) earlier (said a) (said b)
    even-weight = by-numbers ∙ by-number_even (λ c. c.weight) _ (said a) (said b) w

    pub by_count : (a.count ≡ b.count → ⊥) → ltb a.count b.count ≡ first_test
    by_count n = sym (even-weight ∙ by-number_other (λ c. c.count) earlier (said a) (said b) n)

    module _ (m : a.count ≡ b.count) where
      even-count : first_test ≡ earlier (said a) (said b)
      even-count = even-weight ∙ by-number_even (λ c. c.count) earlier (said a) (said b) m

      pub by-tree : (a.tree ≡ b.tree → ⊥) → ltb a.tree b.tree ≡ first_test
      unfolding earlier
      by-tree n = sym (even-count ∙ by-number_other (λ c. c.tree) (λ c d. sooner c.handle d.handle) (said a) (said b) n)

      module _ (t : a.tree ≡ b.tree) where
        abbrev one-handle : Handle
        one-handle = chosen a.first a.second

        abbrev other-handle : Handle
        other-handle = chosen b.first b.second

        even-tree : first_test ≡ sooner one-handle other-handle
        unfolding earlier
        even-tree = even-count ∙ by-number_even (λ c. c.tree) (λ c d. sooner c.handle d.handle) (said a) (said b) t

        pub by_first : (a.first ≡ b.first → ⊥) → ltb a.first b.first ≡ first_test
        unfolding sooner
        by_first n =
            let p = chosen-lead a.first a.second in
            let q = chosen-lead b.first b.second in
            sym (even-tree ∙ by-number_other lead (λ g h. ltb (rest g) (rest h)) one-handle other-handle (λ e. n (sym p ∙ e ∙ q)) ∙ rw (p, q))

        pub by-rest : a.first ≡ b.first → ltb (rest one-handle) (rest other-handle) ≡ first_test
        unfolding sooner
        by-rest e =
            let p = chosen-lead a.first a.second in
            let q = chosen-lead b.first b.second in
            sym (even-tree ∙ by-number_even lead (λ g h. ltb (rest g) (rest h)) one-handle other-handle (p ∙ e ∙ sym q))

-- the order goes by what is said
pub says-order : {a b : Found} {c d : Candidate} → Says a c → Says b d → comes_first (ahead fewer_nodes) (said a) (said b) ≡ comes_first (ahead fewer_nodes) c d
unfolding comes_first then_by ahead earlier sooner
says-order s r = rw (s.weight, s.count, s.tree, s.handle, r.weight, r.count, r.tree, r.handle)

module _ {found : Found} (c d : Candidate) where
  pub says-taken : comes_first (ahead fewer_nodes) d c ≡ true → Says found d → Says found (cond (comes_first (ahead fewer_nodes) d c) d c)
  says-taken e s = rw e s

  pub says-kept : comes_first (ahead fewer_nodes) d c ≡ false → Says found c → Says found (cond (comes_first (ahead fewer_nodes) d c) d c)
  says-kept e s = rw e s
