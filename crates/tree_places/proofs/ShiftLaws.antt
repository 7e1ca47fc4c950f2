-- How far behind its parent each child stands: the heaviest child first, the others behind it in the order's order. A node's size is one
-- more than its children's together, so a child with its subtree is inside its parent's places; and two children are apart.
-- Assumes nothing.
use Prim.Native.Nat.{ℕ, suc, ◌+◌, ◌≤◌, ◌<◌}
use mathlib.Core.Path.{◌≡◌, refl, sym, ap, ◌∙◌}
use mathlib.Core.Logic.{◌⊎◌, inl, inr}
use mathlib.Core.Bool.{Bool, true, false, ◌&&◌, not, and-eq-true_iff}
use mathlib.Core.List.{List}
use native.Mathlib.Omega.{arith}
use lib.Dec.{eqb, leb}
use borrow.Author.Tests.{eqb-true, eqb-false, eq-eqb, ne_eqb, leb-true, le-leb}
use Rattle.cuts.specs.Sums.{sum_to, only}
use Rattle.cuts.specs.Network.{Tree, Network}
use Rattle.cuts.specs.Tree.{Spanning}
use Rattle.cuts.proofs.FlagLaws.{truth}
use Rattle.cuts.proofs.SumLaws.{sum_congr, sum-add, sum-zero, sum_prefix, sum-single}
use Rattle.arrays.specs.Lists.{entry}
use Rattle.arrays.specs.Order.{Ordered}
use Rattle.arrays.proofs.OrderLaws.{Spot, spot, parent_in, not_root}
use Rattle.tree_places.specs.Places.{Rooted, Sized, Heaviest}
use Rattle.tree_places.specs.Passes.{child, size_in, in_front, shift}
use Rattle.tree_places.proofs.SubtreeLaws.{child-at, child-off, subtree-split, subtree-root}
use Rattle.tree_places.proofs.SizeLaws.{child-later}

module _ {net : Network} {t : Tree} {order parents uplinks sizes heavy : List ℕ} {nodes : ℕ}
    (r : Rooted net t order parents uplinks nodes) (s : Sized net t uplinks sizes) (m : Heaviest net parents sizes heavy) where
  abbrev g : Spanning net t
  g = r.spanning

  abbrev o : Ordered net t order parents uplinks
  o = r.ordered

  pub in_front-suc : (v i : ℕ) → 0 < i → in_front order parents sizes heavy v (suc i)
      ≡ in_front order parents sizes heavy v i + only (eqb (entry parents (entry order i)) v && not (eqb (entry heavy v) (entry order i))) (entry sizes (entry order i))
  unfolding in_front sum_to
  in_front-suc v i z = rw (le-leb 1 i z)

  -- none stands before its parent
  pub in_front-none : (i : ℕ) → i < net.nodes → in_front order parents sizes heavy (entry order i) (suc i) ≡ 0
  unfolding in_front
  in_front-none i b = sum-zero (suc i) _ (λ j c. go j c (truth (child order parents (entry order i) j)))
    where
      go : (j : ℕ) → j < suc i → (child order parents (entry order i) j ≡ true) ⊎ (child order parents (entry order i) j ≡ false)
          → only (child order parents (entry order i) j && not (eqb (entry heavy (entry order i)) (entry order j))) (entry sizes (entry order j)) ≡ 0
      go j c (inr q) = rw q
      go j c (inl q) =
          let p = (and-eq-true_iff (leb 1 j) _).0 q in
          let a = child-later g o i j b (leb-true 1 j p.0) (omega arith) (eqb-true (entry parents (entry order j)) (entry order i) p.1) in
          absurd (omega arith)

  -- one that is not the heaviest
  in_front-child : (v i j : ℕ) → 0 < i → i < j → entry parents (entry order i) ≡ v → eqb (entry heavy v) (entry order i) ≡ false
      → in_front order parents sizes heavy v i + entry sizes (entry order i) ≤ in_front order parents sizes heavy v j
  unfolding in_front
  in_front-child v i j z b q h =
      let a = in_front-suc v i z in
      let c = sum_prefix (suc i) j (λ j. only (child order parents v j && not (eqb (entry heavy v) (entry order j))) (entry sizes (entry order j))) b in
      let d : only (eqb (entry parents (entry order i)) v && not (eqb (entry heavy v) (entry order i))) (entry sizes (entry order i)) ≡ entry sizes (entry order i) =
      rw (eq-eqb (entry parents (entry order i)) v q, h) in
      omega arith

  heaviest_is : (v j : ℕ) → 0 < j → j < net.nodes → eqb (entry heavy v) (entry order j) ≡ true → size_in sizes (entry heavy v) ≡ entry sizes (entry order j)
  heaviest_is v j z b q =
      let e = eqb-true (entry heavy v) (entry order j) q in
      rw (ne_eqb (entry heavy v) 0 (λ k. not_root o j z b (sym e ∙ k)), e)

  -- a node, its heaviest child's subtree and the others'
  pub sizes_split : (v : ℕ) → v < net.nodes → entry sizes v ≡ 1 + size_in sizes (entry heavy v) + in_front order parents sizes heavy v net.nodes
  unfolding in_front
  sizes_split v b = go (truth (eqb (entry heavy v) 0))
    where
      whole : ℕ → ℕ
      whole j = only (child order parents v j) (entry sizes (entry order j))

      rest : ℕ → ℕ
      rest j = only (child order parents v j && not (eqb (entry heavy v) (entry order j))) (entry sizes (entry order j))

      total : entry sizes v ≡ 1 + sum_to net.nodes whole
      total = s v b ∙ subtree-split g o v b
          ∙ ap (λ (a : ℕ). 1 + a) (sum_congr net.nodes _ _ (λ j c. ap (only (child order parents v j)) (sym (s (entry order j) (o.listed.within j c)))))

      none : entry heavy v ≡ 0 → (j : ℕ) → j < net.nodes → (child order parents v j ≡ true) ⊎ (child order parents v j ≡ false) → whole j ≡ rest j
      none q j c (inl k) = rw (k, q, ne_eqb 0 (entry order j) (λ e. child-off g o v j c k (sym e)))
      none q j c (inr k) = rw k

      one : (d : Spot net t order parents uplinks (entry heavy v)) → (j : ℕ) → j < net.nodes → entry parents (entry heavy v) ≡ v
          → (eqb d.at j ≡ true) ⊎ (eqb d.at j ≡ false) → whole j ≡ rest j + only (eqb d.at j) (entry sizes (entry order j))
      one d j c p (inl k) =
          let u : d.up < d.at = d.up_before in
          let e = eqb-true d.at j k in
          let i : entry order j ≡ entry heavy v = ap (entry order) (sym e) ∙ d.is in
          rw (k, child-at g o v (entry heavy v) j (omega arith) i, eq-eqb v (entry parents (entry heavy v)) (sym p), eq-eqb (entry heavy v) (entry order j) (sym i)) (omega arith)
      one d j c p (inr k) =
          let n : eqb (entry heavy v) (entry order j) ≡ false
          = ne_eqb (entry heavy v) (entry order j) (λ e. eqb-false d.at j k (o.listed.once d.at j d.under c (d.is ∙ e))) in
          rw (k, n) (and_so (child order parents v j))
        where
          and_so : (b : Bool) → only b (entry sizes (entry order j)) ≡ only (b && true) (entry sizes (entry order j)) + 0
          and_so true = omega arith
          and_so false = refl

      go : (eqb (entry heavy v) 0 ≡ true) ⊎ (eqb (entry heavy v) 0 ≡ false) → entry sizes v ≡ 1 + size_in sizes (entry heavy v) + sum_to net.nodes rest
      go (inl q) =
          let a = total in
          let c = sum_congr net.nodes whole rest (λ j c. none (eqb-true (entry heavy v) 0 q) j c (truth (child order parents v j))) in
          rw q (omega arith)
      go (inr q) =
          let k = m.child v b (eqb-false (entry heavy v) 0 q) in
          let d = spot o (entry heavy v) k.under k.off in
          let a = total in
          let c = sum_congr net.nodes whole (λ j. rest j + only (eqb d.at j) (entry sizes (entry order j))) (λ j c. one d j c k.is (truth (eqb d.at j))) in
          let e = sum-add net.nodes rest (λ j. only (eqb d.at j) (entry sizes (entry order j))) in
          let f = sum-single net.nodes d.at (λ j. entry sizes (entry order j)) d.under in
          let h : entry sizes (entry order d.at) ≡ entry sizes (entry heavy v) = ap (entry sizes) d.is in
          rw q (omega arith)

  pub sizes_some : (v : ℕ) → v < net.nodes → 0 < entry sizes v
  sizes_some v b = let a = sizes_split v b in omega arith

  pub sizes_root : entry sizes 0 ≡ net.nodes
  sizes_root = s 0 g.linked.rooted ∙ subtree-root g o

  -- the child at position j, with its subtree, is inside its parent's places
  pub shift-inside : (v j : ℕ) → 0 < j → j < net.nodes → entry parents (entry order j) ≡ v
      → 1 + shift order parents sizes heavy v j + entry sizes (entry order j) ≤ entry sizes v
  shift-inside v j z b p = go (truth (eqb (entry heavy v) (entry order j)))
    where
      split : entry sizes v ≡ 1 + size_in sizes (entry heavy v) + in_front order parents sizes heavy v net.nodes
      split = sizes_split v (rw p at (parent_in o (entry order j) (o.listed.within j b) (not_root o j z b)))

      go : (eqb (entry heavy v) (entry order j) ≡ true) ⊎ (eqb (entry heavy v) (entry order j) ≡ false)
          → 1 + shift order parents sizes heavy v j + entry sizes (entry order j) ≤ entry sizes v
      go (inl q) = let a = split in let c = heaviest_is v j z b q in rw q (omega arith)
      go (inr q) = let a = split in let c = in_front-child v j net.nodes z b p q in rw q (omega arith)

  -- two children of one node are apart
  pub shift-apart : (i j : ℕ) → 0 < i → i < j → j < net.nodes → (v : ℕ) → entry parents (entry order i) ≡ v → entry parents (entry order j) ≡ v
      → (shift order parents sizes heavy v i + entry sizes (entry order i) ≤ shift order parents sizes heavy v j)
      ⊎ (shift order parents sizes heavy v j + entry sizes (entry order j) ≤ shift order parents sizes heavy v i)
  shift-apart i j z b c v p q = go (truth (eqb (entry heavy v) (entry order i))) (truth (eqb (entry heavy v) (entry order j)))
    where
      go : (eqb (entry heavy v) (entry order i) ≡ true) ⊎ (eqb (entry heavy v) (entry order i) ≡ false)
          → (eqb (entry heavy v) (entry order j) ≡ true) ⊎ (eqb (entry heavy v) (entry order j) ≡ false)
          → (shift order parents sizes heavy v i + entry sizes (entry order i) ≤ shift order parents sizes heavy v j)
          ⊎ (shift order parents sizes heavy v j + entry sizes (entry order j) ≤ shift order parents sizes heavy v i)
      go (inl k) (inl n) =
          let e = o.listed.once i j (omega arith) c (sym (eqb-true (entry heavy v) (entry order i) k) ∙ eqb-true (entry heavy v) (entry order j) n) in absurd (omega arith)
      go (inl k) (inr n) = let a = heaviest_is v i z (omega arith) k in inl (rw (k, n) (omega arith))
      go (inr k) (inl n) = let a = heaviest_is v j (omega arith) c n in inr (rw (k, n) (omega arith))
      go (inr k) (inr n) = let a = in_front-child v i j z b p k in inl (rw (k, n) (omega arith))
