-- Sizes: adding each node's sum to its parent's, the last in the order first, leaves the sizes of the subtrees, since a node's children
-- stand behind it. No sum on the way exceeds the number of nodes.
-- Assumes nothing.
use Prim.Native.Nat.{ℕ, suc, ◌+◌, ◌-◌, ◌%◌, ◌≤◌, ◌<◌}
use mathlib.Core.Path.{◌≡◌, sym, ap, ◌∙◌, subst}
use mathlib.Core.Logic.{◌⊎◌, inl, inr}
use mathlib.Core.Bool.{Bool, true, false, ◌&&◌, and-eq-true_iff}
use mathlib.Core.List.{List}
use native.Mathlib.Omega.{arith}
use lib.ListN.{length, set}
use lib.Seq.{get_or-set_same, get_or-set_other}
use lib.Dec.{eqb, leb}
use borrow.Author.Tests.{eqb-true, eqb-false, leb-true, leb-false, le-leb, lt-leb}
use Rattle.cuts.specs.Sums.{sum_to, only}
use Rattle.cuts.specs.Network.{Tree, Network}
use Rattle.cuts.specs.Limits.{most_nodes}
use Rattle.cuts.specs.Tree.{Spanning}
use Rattle.cuts.proofs.FlagLaws.{truth, agree}
use Rattle.cuts.proofs.SumLaws.{sum_congr, sum_mono, sum-add, sum-zero, sum-single}
use Rattle.arrays.specs.Lists.{entry}
use Rattle.arrays.specs.Order.{Ordered}
use Rattle.arrays.proofs.OrderLaws.{parent_in, not_root}
use Rattle.tree_places.specs.Places.{stop_numbers, subtree, Rooted, Sized}
use Rattle.tree_places.specs.Passes.{child, SizedFrom}
use Rattle.tree_places.proofs.SmallLaws.{small}
use Rattle.tree_places.proofs.SubtreeLaws.{subtree-split, subtree-most}

-- the two flags of a position
both-set : {p q : Bool} → p ≡ true → q ≡ true → (p && q) ≡ true
both-set h k = rw (h, k)

module _ {net : Network} {t : Tree} {order parents uplinks : List ℕ} (g : Spanning net t) (o : Ordered net t order parents uplinks) where
  -- a child stands behind its parent
  pub child-later : (i j : ℕ) → i < net.nodes → 0 < j → j < net.nodes → entry parents (entry order j) ≡ entry order i → i < j
  child-later i j b z c q =
      let d = o.listed.tied j z c in
      let a : d.at < j = d.before in
      let e = o.listed.once d.at i (omega arith) b (d.above ∙ q) in
      omega arith

  -- the size of the node at position j where that is a child of v at position i or behind it
  later : ℕ → ℕ → ℕ → ℕ
  later v i j = only (leb i j && eqb (entry parents (entry order j)) v) (subtree net t uplinks (entry order j))

  sized-start : (sizes : List ℕ) → ((x : ℕ) → x < net.nodes → entry sizes x ≡ 1) → SizedFrom net t order parents uplinks net.nodes sizes
  unfolding later
  sized-start sizes h = record {
    is = λ v b. let a = sum-zero net.nodes (later v net.nodes) (λ j c. rw (lt-leb net.nodes j c)) in let d = h v b in omega arith;
  }

  module _ {i : ℕ} {sizes : List ℕ} (w : SizedFrom net t order parents uplinks (suc i) sizes) (z : 0 < i) (b : i < net.nodes) where
    -- the sum of the node at position i is complete
    sized-at : entry sizes (entry order i) ≡ subtree net t uplinks (entry order i)
    sized-at = w.is (entry order i) (o.listed.within i b)
        ∙ ap (λ (n : ℕ). 1 + n) (sum_congr net.nodes _ _ (λ j c. ap (λ (q : Bool). only q (subtree net t uplinks (entry order j))) (same j c)))
        ∙ sym (subtree-split g o (entry order i) (o.listed.within i b))
      where
        same : (j : ℕ) → j < net.nodes → (leb (suc i) j && eqb (entry parents (entry order j)) (entry order i)) ≡ child order parents (entry order i) j
        same j c = agree _ _
            (λ h. let p = (and-eq-true_iff (leb 1 j) _).0 h in both-set (le-leb (suc i) j (child-later i j b (leb-true 1 j p.0) c (eqb-true _ (entry order i) p.1))) p.1)
            (λ h. let p = (and-eq-true_iff (leb (suc i) j) _).0 h in let a = leb-true (suc i) j p.0 in both-set (le-leb 1 j (omega arith)) p.1)

    sized-sum : (v : ℕ) → sum_to net.nodes (later v i) ≡ sum_to net.nodes (later v (suc i)) + only (eqb (entry parents (entry order i)) v) (subtree net t uplinks (entry order i))
    unfolding later
    sized-sum v =
        let f : ℕ → ℕ = λ j. only (eqb (entry parents (entry order j)) v) (subtree net t uplinks (entry order j)) in
        let a = sum_congr net.nodes (later v i) (λ j. later v (suc i) j + only (eqb i j) (f j)) (λ j _. split j (truth (eqb i j)) (truth (leb i j))) in
        let c = sum-add net.nodes (later v (suc i)) (λ j. only (eqb i j) (f j)) in
        let d = sum-single net.nodes i f b in
        omega arith
      where
        behind : (i j : ℕ) → i ≤ j → (i ≡ j → ⊥) → i < j
        behind i j l f = omega arith

        split : (j : ℕ) → (eqb i j ≡ true) ⊎ (eqb i j ≡ false) → (leb i j ≡ true) ⊎ (leb i j ≡ false) → only (leb i j && eqb (entry parents (entry order j)) v) (subtree net t uplinks (entry order j))
            ≡ only (leb (suc i) j && eqb (entry parents (entry order j)) v) (subtree net t uplinks (entry order j))
            + only (eqb i j) (only (eqb (entry parents (entry order j)) v) (subtree net t uplinks (entry order j)))
        split j (inl q) h = let e = eqb-true i j q in rw (q, le-leb i j (omega arith), lt-leb (suc i) j (omega arith)) (omega arith)
        split j (inr q) (inl h) = rw (q, h, le-leb (suc i) j (behind i j (leb-true i j h) (eqb-false i j q))) (omega arith)
        split j (inr q) (inr h) = let a = leb-false i j h in rw (q, h, lt-leb (suc i) j (omega arith)) (omega arith)

    sized-step : net.nodes ≤ length sizes
        → SizedFrom net t order parents uplinks i (set sizes (entry parents (entry order i)) (entry sizes (entry parents (entry order i)) + entry sizes (entry order i)))
    unfolding later
    sized-step l = record { is = λ v c. go v c (truth (eqb p v)) }
      where
        p : ℕ
        p = entry parents (entry order i)

        p_in : p < net.nodes
        p_in = parent_in o (entry order i) (o.listed.within i b) (not_root o i z b)

        go : (v : ℕ) → v < net.nodes → (eqb p v ≡ true) ⊎ (eqb p v ≡ false) → entry (set sizes p (entry sizes p + entry sizes (entry order i))) v ≡ 1 + sum_to net.nodes (later v i)
        go v c (inl q) =
            let e = eqb-true p v q in
            let u = p_in in
            let a : entry (set sizes p (entry sizes p + entry sizes (entry order i))) v ≡ entry sizes p + entry sizes (entry order i) = rw (← e) (get_or-set_same sizes p _ 0 (omega arith)) in
            let d = w.is v c in
            let f : entry sizes p ≡ entry sizes v = ap (entry sizes) e in
            let h = sized-at in
            let k = sized-sum v in
            let m : only (eqb p v) (subtree net t uplinks (entry order i)) ≡ subtree net t uplinks (entry order i) = rw q in
            omega arith
        go v c (inr q) =
            let a = get_or-set_other sizes p v (entry sizes p + entry sizes (entry order i)) 0 (λ e. eqb-false p v q (sym e)) in
            let d = w.is v c in
            let k = sized-sum v in
            let m : only (eqb p v) (subtree net t uplinks (entry order i)) ≡ 0 = rw q in
            omega arith

  sized-most : {i : ℕ} {sizes : List ℕ} → SizedFrom net t order parents uplinks i sizes → 0 < i → (v : ℕ) → v < net.nodes → entry sizes v ≤ net.nodes
  unfolding later
  sized-most {i} w z v b =
      let a = w.is v b in
      let c = subtree-split g o v b in
      let d = subtree-most g o v in
      let e = sum_mono net.nodes (later v i) (later v 1) (λ j _. less j (truth (leb i j))) in
      omega arith
    where
      less : (j : ℕ) → (leb i j ≡ true) ⊎ (leb i j ≡ false) → only (leb i j && eqb (entry parents (entry order j)) v) (subtree net t uplinks (entry order j))
          ≤ only (leb 1 j && eqb (entry parents (entry order j)) v) (subtree net t uplinks (entry order j))
      less j (inl q) = let a = leb-true i j q in rw (q, le-leb 1 j (omega arith)) (omega arith)
      less j (inr q) = rw q (omega arith)

  -- nor does the next sum
  sized-room : {i : ℕ} {sizes : List ℕ} → SizedFrom net t order parents uplinks (suc i) sizes → 0 < i → i < net.nodes → net.nodes ≤ length sizes
      → entry sizes (entry parents (entry order i)) + entry sizes (entry order i) ≤ net.nodes
  sized-room {i} {sizes} w z b l =
      let p : ℕ = entry parents (entry order i) in
      let c : p < net.nodes = parent_in o (entry order i) (o.listed.within i b) (not_root o i z b) in
      let d = sized-most (sized-step w z b l) z p c in
      subst (λ (a : ℕ). a ≤ net.nodes) (get_or-set_same sizes p (entry sizes p + entry sizes (entry order i)) 0 (omega arith)) d

-- ---- the pass over lists of most_nodes numbers, with sums to most_nodes

module _ {net : Network} {t : Tree} {order parents uplinks : List ℕ} {nodes : ℕ} (r : Rooted net t order parents uplinks nodes) where
  pub sized-first : (sizes : List ℕ) → ((x : ℕ) → x < nodes → entry sizes x ≡ 1) → SizedFrom net t order parents uplinks nodes sizes
  sized-first sizes h =
      let e = r.counted in
      subst (λ (n : ℕ). SizedFrom net t order parents uplinks n sizes) e (sized-start r.spanning r.ordered sizes (λ x b. h x (omega arith)))

  pub sized-turn : (i : ℕ) (sizes : List ℕ) → 1 < i → i ≤ nodes → nodes ≤ most_nodes → length sizes ≡ most_nodes → SizedFrom net t order parents uplinks i sizes
      → SizedFrom net t order parents uplinks (i - 1) (set sizes (entry parents (entry order (i - 1)))
      ((entry sizes (entry parents (entry order (i - 1))) + entry sizes (entry order (i - 1))) % stop_numbers))
  sized-turn i sizes z b m l w =
      let e = r.counted in
      let q : i ≡ suc (i - 1) = omega arith in
      let v : SizedFrom net t order parents uplinks (suc (i - 1)) sizes = subst (λ (n : ℕ). SizedFrom net t order parents uplinks n sizes) q w in
      let c = sized-room r.spanning r.ordered v (omega arith) (omega arith) (omega arith) in
      rw (small (entry sizes (entry parents (entry order (i - 1))) + entry sizes (entry order (i - 1))) (omega arith))
      (sized-step r.spanning r.ordered v (omega arith) (omega arith) (omega arith))

  pub sized-last : (i : ℕ) (sizes : List ℕ) → i ≤ 1 → 0 < i → SizedFrom net t order parents uplinks i sizes → Sized net t uplinks sizes
  sized-last i sizes b z w v c =
      let q : i ≡ 1 = omega arith in
      (subst (λ (n : ℕ). SizedFrom net t order parents uplinks n sizes) q w).is v c ∙ sym (subtree-split r.spanning r.ordered v c)
