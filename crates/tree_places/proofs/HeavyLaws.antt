-- Heaviest children: going along the order, each node is held against the heaviest of its parent's children before it.
-- Assumes nothing.
use Prim.Native.Nat.{ℕ, suc, ◌≤◌, ◌<◌}
use mathlib.Core.Path.{◌≡◌, refl, sym, ap, ◌∙◌, subst}
use mathlib.Core.Logic.{◌⊎◌, inl, inr, ⊎_elim}
use mathlib.Core.Bool.{true, false}
use mathlib.Core.List.{List}
use native.Mathlib.Omega.{arith}
use lib.ListN.{length, set}
use lib.Seq.{get_or-set_same, get_or-set_other}
use lib.Dec.{eqb, ltb}
use borrow.Author.Tests.{eqb-true, eqb-false, ltb-true, ltb-false}
use Rattle.cuts.specs.Network.{Tree, Network}
use Rattle.cuts.specs.Limits.{most_nodes}
use Rattle.cuts.proofs.FlagLaws.{truth}
use Rattle.cuts.proofs.SumLaws.{all-suc}
use Rattle.arrays.specs.Lists.{entry}
use Rattle.arrays.specs.Order.{Ordered}
use Rattle.arrays.proofs.OrderLaws.{spot, parent_in, not_root}
use Rattle.tree_places.specs.Places.{Rooted, Child, Heaviest}
use Rattle.tree_places.specs.Passes.{heavier, Heavy}

-- the heavier of two nodes is one of them, and at least as heavy as either
record Picked (sizes : List ℕ) (h x r : ℕ) : Type 0 where
  pub one : ((h ≡ 0 → ⊥) × (r ≡ h)) ⊎ (r ≡ x)
  pub over : (h ≡ 0 → ⊥) → entry sizes h ≤ entry sizes r
  pub even : entry sizes x ≤ entry sizes r

heavier-picked : (sizes : List ℕ) (h x : ℕ) → Picked sizes h x (heavier sizes h x)
heavier-picked sizes h x = go (truth (eqb h 0)) (truth (ltb (entry sizes h) (entry sizes x)))
  where
    go : (eqb h 0 ≡ true) ⊎ (eqb h 0 ≡ false) → (ltb (entry sizes h) (entry sizes x) ≡ true) ⊎ (ltb (entry sizes h) (entry sizes x) ≡ false) → Picked sizes h x (heavier sizes h x)
    go (inl p) q = rw p (record { one = inr refl; over = λ f. absurd (f (eqb-true h 0 p)); even = omega arith })
    go (inr p) (inl q) = let l = ltb-true (entry sizes h) (entry sizes x) q in rw (p, q) (record { one = inr refl; over = λ _. omega arith; even = omega arith })
    go (inr p) (inr q) = let l = ltb-false (entry sizes h) (entry sizes x) q in rw (p, q) (record { one = inl (eqb-false h 0 p, refl); over = λ _. omega arith; even = omega arith })

pub heavy-start : (order parents sizes heavy : List ℕ) (i : ℕ) → i ≤ 1 → ((x : ℕ) → x < most_nodes → entry heavy x ≡ 0) → Heavy order parents sizes heavy i
heavy-start order parents sizes heavy i l h = record {
  child = λ v b f. absurd (f (h v b));
  some = λ j z b. absurd (omega arith);
  most = λ j z b. absurd (omega arith);
}

module _ {net : Network} {t : Tree} {order parents uplinks : List ℕ} (o : Ordered net t order parents uplinks) (sizes : List ℕ) where
  heavy-step : (heavy : List ℕ) (i : ℕ) → 0 < i → i < net.nodes → net.nodes ≤ length heavy → net.nodes ≤ most_nodes → Heavy order parents sizes heavy i
      → Heavy order parents sizes (set heavy (entry parents (entry order i)) (heavier sizes (entry heavy (entry parents (entry order i))) (entry order i))) (suc i)
  heavy-step heavy i z b l m w = record {
    child = λ v c. first v c (truth (eqb p v));
    some = λ j y c. all-suc (λ j. 0 < j → entry new (entry parents (entry order j)) ≡ 0 → ⊥) i
        (λ j c y. some-old j c y (truth (eqb p (entry parents (entry order j))))) (λ _. some-new) j c y;
    most = λ j y c. all-suc (λ j. 0 < j → entry sizes (entry order j) ≤ entry sizes (entry new (entry parents (entry order j)))) i
        (λ j c y. most-old j c y (truth (eqb p (entry parents (entry order j))))) (λ _. rw at_p pick.even) j c y;
  }
    where
      p : ℕ
      p = entry parents (entry order i)

      r : ℕ
      r = heavier sizes (entry heavy p) (entry order i)

      new : List ℕ
      new = set heavy p r

      pick : Picked sizes (entry heavy p) (entry order i) r
      pick = heavier-picked sizes (entry heavy p) (entry order i)

      p_in : p < net.nodes
      p_in = parent_in o (entry order i) (o.listed.within i b) (not_root o i z b)

      at_p : entry new p ≡ r
      at_p = let u = p_in in get_or-set_same heavy p r 0 (omega arith)

      off-p : (v : ℕ) → eqb p v ≡ false → entry new v ≡ entry heavy v
      off-p v q = get_or-set_other heavy p v r 0 (λ e. eqb-false p v q (sym e))

      first : (v : ℕ) → v < most_nodes → (eqb p v ≡ true) ⊎ (eqb p v ≡ false) → (entry new v ≡ 0 → ⊥)
          → (j : ℕ) × (0 < j) × (j < suc i) × (entry order j ≡ entry new v) × (entry parents (entry order j) ≡ v)
      first v c (inl q) f = let e = eqb-true p v q in let n : entry new v ≡ r = ap (entry new) (sym e) ∙ at_p in from n e pick.one
        where
          from : entry new v ≡ r → p ≡ v → ((entry heavy p ≡ 0 → ⊥) × (r ≡ entry heavy p)) ⊎ (r ≡ entry order i)
              → (j : ℕ) × (0 < j) × (j < suc i) × (entry order j ≡ entry new v) × (entry parents (entry order j) ≡ v)
          from n e (inl d) =
              let u = p_in in
              let k = w.child p (omega arith) d.0 in
              (k.0, k.1, omega (arith, k.2), k.3 ∙ sym d.1 ∙ sym n, k.4 ∙ e)
          from n e (inr d) = (i, z, omega arith, sym d ∙ sym n, e)
      first v c (inr q) f = let k = w.child v c (λ e. f (off-p v q ∙ e)) in (k.0, k.1, omega (arith, k.2), k.3 ∙ sym (off-p v q), k.4)

      some-new : entry new p ≡ 0 → ⊥
      some-new e = ⊎_elim (λ d. d.0 (sym d.1 ∙ sym at_p ∙ e)) (λ d. not_root o i z b (sym d ∙ sym at_p ∙ e)) pick.one

      some-old : (j : ℕ) → j < i → 0 < j → (eqb p (entry parents (entry order j)) ≡ true) ⊎ (eqb p (entry parents (entry order j)) ≡ false)
          → entry new (entry parents (entry order j)) ≡ 0 → ⊥
      some-old j c y (inl q) e = some-new (ap (entry new) (eqb-true p (entry parents (entry order j)) q) ∙ e)
      some-old j c y (inr q) e = w.some j y c (sym (off-p (entry parents (entry order j)) q) ∙ e)

      most-old : (j : ℕ) → j < i → 0 < j → (eqb p (entry parents (entry order j)) ≡ true) ⊎ (eqb p (entry parents (entry order j)) ≡ false)
          → entry sizes (entry order j) ≤ entry sizes (entry new (entry parents (entry order j)))
      most-old j c y (inl q) =
          let e = eqb-true p (entry parents (entry order j)) q in
          let a = w.most j y c in
          let d = pick.over (λ k. w.some j y c (ap (entry heavy) (sym e) ∙ k)) in
          let f : entry heavy (entry parents (entry order j)) ≡ entry heavy p = ap (entry heavy) (sym e) in
          let k : entry sizes (entry heavy (entry parents (entry order j))) ≡ entry sizes (entry heavy p) = ap (entry sizes) f in
          let m : entry sizes (entry new (entry parents (entry order j))) ≡ entry sizes r = ap (entry sizes) (ap (entry new) (sym e) ∙ at_p) in
          omega arith
      most-old j c y (inr q) = rw (off-p (entry parents (entry order j)) q) (w.most j y c)

  heavy-done : (heavy : List ℕ) (i : ℕ) → net.nodes ≤ most_nodes → i ≡ net.nodes → Heavy order parents sizes heavy i → Heaviest net parents sizes heavy
  heavy-done heavy i l q w = record {
    child = λ v b f. let k = w.child v (omega arith) f in
        let m : k.0 < net.nodes = omega (arith, k.2) in
        subst (Child net parents v) k.3 (record { under = o.listed.within k.0 m; off = not_root o k.0 k.1 m; is = k.4 });
    some = λ v c b k. let d = spot o c k.under k.off in
        let u : d.up < d.at = d.up_before in
        let e : d.at < net.nodes = d.under in
        let a = w.some d.at (omega arith) (omega arith) in
        rw (d.is, k.is) at a;
    most = λ v c b k. let d = spot o c k.under k.off in
        let u : d.up < d.at = d.up_before in
        let e : d.at < net.nodes = d.under in
        let a = w.most d.at (omega arith) (omega arith) in
        rw (d.is, k.is) at a;
  }

-- ---- the pass over lists of most_nodes numbers

module _ {net : Network} {t : Tree} {order parents uplinks : List ℕ} {nodes : ℕ} (r : Rooted net t order parents uplinks nodes) where
  pub heavy-turn : (sizes heavy : List ℕ) (i : ℕ) → 0 < i → i < nodes → nodes ≤ most_nodes → length heavy ≡ most_nodes → Heavy order parents sizes heavy i
      → Heavy order parents sizes (set heavy (entry parents (entry order i)) (heavier sizes (entry heavy (entry parents (entry order i))) (entry order i))) (suc i)
  heavy-turn sizes heavy i z b m l w = let e = r.counted in heavy-step r.ordered sizes heavy i z (omega arith) (omega arith) (omega arith) w

  pub heavy-last : (sizes heavy : List ℕ) (i : ℕ) → nodes ≤ most_nodes → i ≡ nodes → Heavy order parents sizes heavy i → Heaviest net parents sizes heavy
  heavy-last sizes heavy i m q w = let e = r.counted in heavy-done r.ordered sizes heavy i (omega arith) (omega arith) w
