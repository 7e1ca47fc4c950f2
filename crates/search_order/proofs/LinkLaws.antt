-- The links at the places of a tree as handles: at each row and column stands a handle of the tree, and each of its handles at some.
-- Assumes nothing.
use Prim.Native.Nat.{ℕ, ◌≤◌, ◌<◌, min, max}
use mathlib.Core.Path.{◌≡◌, refl, sym, ap, ap₂, ◌∙◌, subst}
use mathlib.Core.Logic.{◌⊎◌, inl, inr}
use mathlib.Core.Bool.{Bool, true, false, cond}
use mathlib.Core.List.{List}
use native.Mathlib.Omega.{arith}
use lib.Dec.{eqb}
use borrow.Author.Tests.{eqb-false}
use Rattle.cuts.specs.Network.{Network, Tree}
use Rattle.cuts.specs.Tree.{Member}
use Rattle.cuts.specs.Candidate.{Handle, one, two, Fits}
use Rattle.arrays.specs.Lists.{entry}
use Rattle.arrays.specs.Kept.{LinksAt}
use Rattle.search_order.specs.Choice.{chosen}
use Rattle.search_order.specs.Visits.{handle_at}
use Rattle.search_order.proofs.HandleLaws.{three_ways, chosen-one, chosen-two, sorted}

pub handle-one : (links : List ℕ) (u : ℕ) → handle_at links u u ≡ one (entry links u)
handle-one links u =
    let p : min (entry links u) (entry links u) ≡ entry links u = omega arith in
    let q : max (entry links u) (entry links u) ≡ entry links u = omega arith in
    ap₂ chosen p q ∙ chosen-one (entry links u)

module _ {net : Network} {t : Tree} {links : List ℕ} (a : LinksAt net t links) where
  -- every row and column has a handle of the tree
  pub handle-fits : (u v : ℕ) → 0 < u → u ≤ v → v < net.nodes → Fits net t (handle_at links u v)
  handle-fits u v z l b = step (sorted (entry links u) (entry links v))
    where
      fits : (e f : ℕ) → e ≤ f → Member net t e → Member net t f → (b : Bool) → eqb e f ≡ b → Fits net t (cond b (one e) (two e f))
      fits e f l m n true q = m
      fits e f l m n false q = let d = eqb-false e f q in (omega arith, m, n)

      step : ((min (entry links u) (entry links v) ≡ entry links u) × (max (entry links u) (entry links v) ≡ entry links v)) ⊎ ((min (entry links u) (entry links v) ≡ entry links v) × (max (entry links u) (entry links v) ≡ entry links u))
          → Fits net t (handle_at links u v)
      step (inl h) = fits _ _ (omega arith) (subst (Member net t) (sym h.0) (a.member u z (omega arith))) (subst (Member net t) (sym h.1) (a.member v (omega arith) b)) _ refl
      step (inr h) = fits _ _ (omega arith) (subst (Member net t) (sym h.0) (a.member v (omega arith) b)) (subst (Member net t) (sym h.1) (a.member u z (omega arith))) _ refl

  -- every handle of the tree stands at some row and column
  handle-is : (u v e f : ℕ) → min (entry links u) (entry links v) ≡ e → max (entry links u) (entry links v) ≡ f → chosen e f ≡ handle_at links u v
  handle-is u v e f p q = rw (p, q)

  pub handle-every : (h : Handle) → Fits net t h → (u : ℕ) × (v : ℕ) × (0 < u) × (u ≤ v) × (v < net.nodes) × (h ≡ handle_at links u v)
  handle-every (one e) m = let p = a.every e m in let q = p.3 in (p.0, p.0, p.1, omega arith, p.2, sym (chosen-one e) ∙ handle-is p.0 p.0 e e (omega arith) (omega arith))
  handle-every (two e f) m = let p = a.every e m.1 in let q = a.every f m.2 in go p.0 q.0 p.1 p.2 p.3 q.1 q.2 q.3 (three_ways p.0 q.0)
    where
      go : (p q : ℕ) → 0 < p → p < net.nodes → entry links p ≡ e → 0 < q → q < net.nodes → entry links q ≡ f → (p ≡ q) ⊎ ((p < q) ⊎ (q < p))
          → (u : ℕ) × (v : ℕ) × (0 < u) × (u ≤ v) × (v < net.nodes) × (two e f ≡ handle_at links u v)
      go p q z b i y c j (inl s) = let x : e ≡ f = sym i ∙ ap (entry links) s ∙ j in let l = m.0 in absurd (omega arith)
      go p q z b i y c j (inr (inl s)) = let l = m.0 in (p, q, z, omega arith, c, sym (chosen-two e f l) ∙ handle-is p q e f (omega arith) (omega arith))
      go p q z b i y c j (inr (inr s)) = let l = m.0 in (q, p, y, omega arith, b, sym (chosen-two e f l) ∙ handle-is q p e f (omega arith) (omega arith))
