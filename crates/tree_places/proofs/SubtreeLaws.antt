-- Subtrees: a node lies in the subtree of v if it is v or if its parent does, and not both; so the subtree of v is v and the subtrees of
-- its children, and its size is one more than theirs.
-- Assumes nothing.
use Prim.Native.Nat.{ℕ, ◌+◌, ◌≤◌, ◌<◌}
use mathlib.Core.Path.{◌≡◌, refl, sym, ap, ◌∙◌}
use mathlib.Core.Logic.{◌⊎◌, inl, inr}
use mathlib.Core.Bool.{Bool, true, false, ◌||◌, and-eq-true_iff}
use mathlib.Core.List.{List}
use native.Mathlib.Omega.{arith}
use lib.Dec.{eqb, leb}
use borrow.Author.Tests.{eqb-true, eqb-false, eq-eqb, ne_eqb, leb-true, le-leb}
use Rattle.cuts.specs.Sums.{sum_to, only}
use Rattle.cuts.specs.Network.{Tree, Network, flag}
use Rattle.cuts.specs.Tree.{below, Member, Spanning}
use Rattle.cuts.proofs.FlagLaws.{truth, agree, eqb_comm}
use Rattle.cuts.proofs.SumLaws.{sum_congr, sum-add, sum_const, sum-zero, sum-only, sum-swap, sum-single, count_most}
use Rattle.cuts.proofs.Spanning.{below-rootless}
use Rattle.arrays.specs.Lists.{entry}
use Rattle.arrays.specs.Order.{Ordered}
use Rattle.arrays.proofs.OrderLaws.{Spot, spot, climb, link_once, not_root}
use Rattle.arrays.proofs.BelowLaws.{below_law, below_parent}
use Rattle.tree_places.specs.Places.{under, subtree}
use Rattle.tree_places.specs.Passes.{child}

module _ {net : Network} {t : Tree} {order parents uplinks : List ℕ} (g : Spanning net t) (o : Ordered net t order parents uplinks) where
  pub under-below : (v x : ℕ) → (v ≡ 0 → ⊥) → under net t uplinks v x ≡ flag (below net t (entry uplinks v)) x
  unfolding under
  under-below v x f = rw (ne_eqb v 0 f)

  pub under_all : (x : ℕ) → under net t uplinks 0 x ≡ true
  unfolding under
  under_all x = refl

  -- what holds of the root and of every other node holds of all
  by-root : (P : ℕ → Type 0) → P 0 → ((v : ℕ) → (v ≡ 0 → ⊥) → P v) → (v : ℕ) → P v
  by-root P z s v = go (truth (eqb v 0))
    where
      go : (eqb v 0 ≡ true) ⊎ (eqb v 0 ≡ false) → P v
      go (inl q) = rw (eqb-true v 0 q) z
      go (inr q) = s v (eqb-false v 0 q)

  uplink : (v : ℕ) → v < net.nodes → (v ≡ 0 → ⊥) → Member net t (entry uplinks v)
  uplink v b f = (spot o v b f).hung.member

  pub under-root : (v : ℕ) → v < net.nodes → under net t uplinks v 0 ≡ eqb v 0
  under-root = by-root (λ v. v < net.nodes → under net t uplinks v 0 ≡ eqb v 0) (λ _. under_all 0)
      (λ v f b. under-below v 0 f ∙ (below-rootless g (entry uplinks v) (uplink v b f)).without ∙ sym (ne_eqb v 0 f))

  -- a node is in the subtree of v if it is v or its parent is
  pub under_law : (v x : ℕ) → v < net.nodes → x < net.nodes → (x ≡ 0 → ⊥) → under net t uplinks v x ≡ (eqb v x || under net t uplinks v (entry parents x))
  under_law v x b c f = by-root (λ v. v < net.nodes → under net t uplinks v x ≡ (eqb v x || under net t uplinks v (entry parents x)))
      (λ _. rw (under_all x, under_all (entry parents x), ne_eqb 0 x (λ z. f (sym z))))
      (λ v n b. rw (under-below v x n, under-below v (entry parents x) n, same v n b) (below_law g o (uplink v b n) x c f)) v b
    where
      same : (v : ℕ) → (v ≡ 0 → ⊥) → v < net.nodes → eqb v x ≡ eqb (entry uplinks x) (entry uplinks v)
      same v n b = agree _ _
          (λ q. eq-eqb v x (link_once o v x b n c f (sym (eqb-true (entry uplinks x) (entry uplinks v) q))))
          (λ q. eq-eqb (entry uplinks x) (entry uplinks v) (ap (entry uplinks) (sym (eqb-true v x q))))

  -- and not both
  under-apart : (v x : ℕ) → v < net.nodes → (x ≡ 0 → ⊥) → eqb v x ≡ true → under net t uplinks v (entry parents x) ≡ false
  under-apart v x b f q =
      let e = eqb-true v x q in
      let n : v ≡ 0 → ⊥ = λ z. f (sym e ∙ z) in
      under-below v (entry parents x) n ∙ ap (λ (y : ℕ). flag (below net t (entry uplinks v)) (entry parents y)) (sym e)
      ∙ below_parent g o (uplink v b n) b n refl

  pub under_self : (v : ℕ) → v < net.nodes → under net t uplinks v v ≡ true
  under_self = by-root (λ v. v < net.nodes → under net t uplinks v v ≡ true) (λ _. under_all 0)
      (λ v f b. under_law v v b b f ∙ rw (eq-eqb v v refl))

  under-step : (v x : ℕ) → v < net.nodes → x < net.nodes → (x ≡ 0 → ⊥)
      → only (under net t uplinks v x) 1 ≡ only (eqb v x) 1 + only (under net t uplinks v (entry parents x)) 1
  under-step v x b c f = ap (λ (a : Bool). only a 1) (under_law v x b c f) ∙ split (eqb v x) _ (under-apart v x b f)
    where
      split : (p q : Bool) → (p ≡ true → q ≡ false) → only (p || q) 1 ≡ only p 1 + only q 1
      split true q h = rw (h refl)
      split false q h = omega arith

  pub child-off : (v j : ℕ) → j < net.nodes → child order parents v j ≡ true → entry order j ≡ 0 → ⊥
  child-off v j b h = not_root o j (leb-true 1 j ((and-eq-true_iff (leb 1 j) _).0 h).0) b

  pub child-at : (v x j : ℕ) → 0 < j → entry order j ≡ x → child order parents v j ≡ eqb v (entry parents x)
  child-at v x j b q = rw (le-leb 1 j b, q) (eqb_comm (entry parents x) v)

  -- the child of v at position j holds x, where it holds x's parent or is x
  module _ (v x : ℕ) (c : x < net.nodes) (f : x ≡ 0 → ⊥) (d : Spot net t order parents uplinks x) (j : ℕ) (k : j < net.nodes) where
    here : eqb d.at j ≡ true → entry order j ≡ x
    here q = rw (← eqb-true d.at j q) d.is

    there : eqb d.at j ≡ false → eqb (entry order j) x ≡ false
    there q = ne_eqb (entry order j) x (λ p. eqb-false d.at j q (o.listed.once d.at j d.under k (d.is ∙ sym p)))

    is-child : eqb d.at j ≡ true → child order parents v j ≡ eqb v (entry parents x)
    is-child q = let a : d.up < d.at = d.up_before in let e = eqb-true d.at j q in child-at v x j (omega arith) (here q)

    grown : (child order parents v j ≡ true) ⊎ (child order parents v j ≡ false) → (eqb d.at j ≡ true) ⊎ (eqb d.at j ≡ false)
        → only (child order parents v j) (only (under net t uplinks (entry order j) x) 1)
        ≡ only (eqb d.at j) (only (eqb v (entry parents x)) 1) + only (child order parents v j) (only (under net t uplinks (entry order j) (entry parents x)) 1)
    grown (inl p) (inl q) =
        rw (p, q, ← is-child q, p) (under-step (entry order j) x (o.listed.within j k) c f ∙ rw (eq-eqb (entry order j) x (here q)))
    grown (inl p) (inr q) = rw (p, q) (under-step (entry order j) x (o.listed.within j k) c f ∙ rw (there q))
    grown (inr p) (inl q) = rw (p, q, ← is-child q, p)
    grown (inr p) (inr q) = rw (p, q)

  -- how many of the subtrees of v's children hold x
  holders : ℕ → ℕ → ℕ
  holders v x = sum_to net.nodes (λ j. only (child order parents v j) (only (under net t uplinks (entry order j) x) 1))

  -- the subtree of v is v and the subtrees of its children
  under_split : (v : ℕ) → v < net.nodes → (x : ℕ) → x < net.nodes → only (under net t uplinks v x) 1 ≡ only (eqb v x) 1 + holders v x
  unfolding holders
  under_split v b = climb o (λ x. only (under net t uplinks v x) 1 ≡ only (eqb v x) 1 + holders v x)
      (let a = sum-zero net.nodes (λ j. only (child order parents v j) (only (under net t uplinks (entry order j) 0) 1)) (λ j c. none j c (truth (child order parents v j))) in
      rw (under-root v b) (omega arith))
      (λ x c f r.
      let d = spot o x c f in
      let a = under-step v x b c f in
      let e = sum_congr net.nodes (λ j. only (child order parents v j) (only (under net t uplinks (entry order j) x) 1))
      (λ j. only (eqb d.at j) (only (eqb v (entry parents x)) 1) + only (child order parents v j) (only (under net t uplinks (entry order j) (entry parents x)) 1))
      (λ j k. grown v x c f d j k (truth (child order parents v j)) (truth (eqb d.at j))) in
      let h = sum-add net.nodes (λ j. only (eqb d.at j) (only (eqb v (entry parents x)) 1)) (λ j. only (child order parents v j) (only (under net t uplinks (entry order j) (entry parents x)) 1)) in
      let k = sum-single net.nodes d.at (λ j. only (eqb v (entry parents x)) 1) d.under in
      omega arith)
    where
      none : (j : ℕ) → j < net.nodes → (child order parents v j ≡ true) ⊎ (child order parents v j ≡ false)
          → only (child order parents v j) (only (under net t uplinks (entry order j) 0) 1) ≡ 0
      none j c (inl q) = rw (q, under-root (entry order j) (o.listed.within j c), ne_eqb (entry order j) 0 (child-off v j c q))
      none j c (inr q) = rw q

  pub subtree-split : (v : ℕ) → v < net.nodes
      → subtree net t uplinks v ≡ 1 + sum_to net.nodes (λ j. only (child order parents v j) (subtree net t uplinks (entry order j)))
  unfolding subtree holders
  subtree-split v b =
      let n : ℕ = net.nodes in
      let w : ℕ → ℕ → ℕ = λ j x. only (under net t uplinks (entry order j) x) 1 in
      let a = sum_congr n (λ x. only (under net t uplinks v x) 1) (λ x. only (eqb v x) 1 + holders v x) (under_split v b) in
      let d = sum-add n (λ x. only (eqb v x) 1) (holders v) in
      let e = sum-single n v (λ _. 1) b in
      let f = sum-swap n n (λ x j. only (child order parents v j) (w j x)) in
      let h = sum_congr n (λ j. sum_to n (λ x. only (child order parents v j) (w j x))) (λ j. only (child order parents v j) (sum_to n (w j))) (λ j _. sum-only n (child order parents v j) (w j)) in
      omega arith

  pub subtree-most : (v : ℕ) → subtree net t uplinks v ≤ net.nodes
  unfolding subtree
  subtree-most v = count_most net.nodes (under net t uplinks v)

  pub subtree-root : subtree net t uplinks 0 ≡ net.nodes
  unfolding subtree
  subtree-root = let a = sum_congr net.nodes _ (λ _. 1) (λ x _. ap (λ (c : Bool). only c 1) (under_all x)) in let b = sum_const net.nodes 1 in omega arith
