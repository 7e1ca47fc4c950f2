-- When the pass is done, each node's children have their places inside its own and apart from each other: so the places are a
-- preorder.
-- Assumes nothing.
use Prim.Native.Nat.{ℕ, ◌+◌, ◌≤◌, ◌<◌}
use mathlib.Core.Path.{◌≡◌, sym, ap, ◌∙◌, subst}
use mathlib.Core.Logic.{◌⊎◌, inl, inr}
use mathlib.Core.List.{List}
use native.Mathlib.Decide.{dec_lt}
use native.Mathlib.Omega.{arith}
use borrow.Author.Tests.{eq-eqb}
use Rattle.cuts.specs.Network.{Tree, Network}
use Rattle.cuts.specs.Tree.{Spanning}
use Rattle.arrays.specs.Lists.{entry}
use Rattle.arrays.specs.Order.{Ordered}
use Rattle.arrays.proofs.OrderLaws.{Spot, spot, parent_in}
use Rattle.tree_places.specs.Places.{Rooted, Child, Sized, Heaviest, Preorder, HeavyFirst, HeavyPreorder}
use Rattle.tree_places.specs.Passes.{shift, Placing}
use Rattle.tree_places.proofs.ShiftLaws.{shift-inside, shift-apart}
use Rattle.tree_places.proofs.PreorderLaws.{Apart, nesting_preorder}

module _ {net : Network} {t : Tree} {order parents uplinks sizes heavy : List ℕ} {nodes : ℕ}
    (r : Rooted net t order parents uplinks nodes) (s : Sized net t uplinks sizes) (m : Heaviest net parents sizes heavy) where
  abbrev g : Spanning net t
  g = r.spanning

  abbrev o : Ordered net t order parents uplinks
  o = r.ordered

  module _ {place stop free : List ℕ} (w : Placing net order parents sizes heavy net.nodes place stop free) where
    stop_is : (x : ℕ) → x < net.nodes → entry stop x ≡ entry place x + entry sizes x
    stop_is x b = let d = o.every x b in subst (λ (y : ℕ). entry stop y ≡ entry place y + entry sizes y) d.2 (w.stops d.0 d.1)

    -- a child's place, by its position
    child-place : (v j : ℕ) → 0 < j → j < net.nodes → entry parents (entry order j) ≡ v → entry place (entry order j) ≡ entry place v + 1 + shift order parents sizes heavy v j
    child-place v j z b q = rw q at (w.placed j z b)

    inside : (v c : ℕ) → Child net parents v c → (entry place v < entry place c) × (entry stop c ≤ entry stop v)
    inside v c k = from (spot o c k.under k.off)
      where
        from : Spot net t order parents uplinks c → (entry place v < entry place c) × (entry stop c ≤ entry stop v)
        from d =
            let u : d.up < d.at = d.up_before in
            let p : entry parents (entry order d.at) ≡ v = ap (entry parents) d.is ∙ k.is in
            let a = child-place v d.at (omega arith) d.under p in
            let e = shift-inside r s m v d.at (omega arith) d.under p in
            let f : entry place (entry order d.at) ≡ entry place c = ap (entry place) d.is in
            let h : entry sizes (entry order d.at) ≡ entry sizes c = ap (entry sizes) d.is in
            let i = stop_is c k.under in
            let j = stop_is v (rw k.is at (parent_in o c k.under k.off)) in
            (omega arith, omega arith)

    apart-at : (v i j : ℕ) → 0 < i → i < j → j < net.nodes → entry parents (entry order i) ≡ v → entry parents (entry order j) ≡ v → Apart place stop (entry order i) (entry order j)
    apart-at v i j z b c p q = go (shift-apart r s m i j z b c v p q)
      where
        go : (shift order parents sizes heavy v i + entry sizes (entry order i) ≤ shift order parents sizes heavy v j)
            ⊎ (shift order parents sizes heavy v j + entry sizes (entry order j) ≤ shift order parents sizes heavy v i) → Apart place stop (entry order i) (entry order j)
        go (inl h) = let a = child-place v i z (omega arith) p in let d = child-place v j (omega arith) c q in let e = w.stops i (omega arith) in inl (omega arith)
        go (inr h) = let a = child-place v i z (omega arith) p in let d = child-place v j (omega arith) c q in let e = w.stops j c in inr (omega arith)

    apart : (v c d : ℕ) → Child net parents v c → Child net parents v d → (c ≡ d → ⊥) → Apart place stop c d
    apart v c d k l n = from (spot o c k.under k.off) (spot o d l.under l.off)
      where
        from : Spot net t order parents uplinks c → Spot net t order parents uplinks d → Apart place stop c d
        from a e = go (dec_lt a.at e.at) (dec_lt e.at a.at)
          where
            p : entry parents (entry order a.at) ≡ v
            p = ap (entry parents) a.is ∙ k.is

            q : entry parents (entry order e.at) ≡ v
            q = ap (entry parents) e.is ∙ l.is

            turned : (x y : ℕ) → Apart place stop x y → Apart place stop y x
            turned x y (inl h) = inr h
            turned x y (inr h) = inl h

            go : Dec (a.at < e.at) → Dec (e.at < a.at) → Apart place stop c d
            go (yes h) r = let u : a.up < a.at = a.up_before in rw (a.is, e.is) at (apart-at v a.at e.at (omega arith) h e.under p q)
            go (no h) (yes r) = let u : e.up < e.at = e.up_before in rw (a.is, e.is) at (turned _ _ (apart-at v e.at a.at (omega arith) r a.under q p))
            go (no h) (no r) = let s : a.at ≡ e.at = omega arith in absurd (n (sym a.is ∙ ap (entry order) s ∙ e.is))

    placing_preorder : Preorder net t uplinks place stop
    placing_preorder = nesting_preorder g o (record { root = w.root; stops = λ x b. stop_is x b ∙ ap (λ (n : ℕ). entry place x + n) (s x b); inside = inside; apart = apart })

    placing_heavy : HeavyFirst net heavy place
    placing_heavy v b f = from (spot o (entry heavy v) k.under k.off)
      where
        k : Child net parents v (entry heavy v)
        k = m.child v b f

        from : Spot net t order parents uplinks (entry heavy v) → entry place (entry heavy v) ≡ entry place v + 1
        from d =
            let u : d.up < d.at = d.up_before in
            let a = child-place v d.at (omega arith) d.under (ap (entry parents) d.is ∙ k.is) in
            let e : shift order parents sizes heavy v d.at ≡ 0 = rw (eq-eqb (entry heavy v) (entry order d.at) (sym d.is)) in
            let h : entry place (entry order d.at) ≡ entry place (entry heavy v) = ap (entry place) d.is in
            omega arith

  pub placing_last : (i : ℕ) (place stop free : List ℕ) → i ≡ nodes → Placing net order parents sizes heavy i place stop free
      → HeavyPreorder net t uplinks heavy place stop
  placing_last i place stop free q w =
      let e : i ≡ net.nodes = q ∙ sym r.counted in
      let v : Placing net order parents sizes heavy net.nodes place stop free = subst (λ (n : ℕ). Placing net order parents sizes heavy n place stop free) e w in
      record { preorder = placing_preorder v; heavy_first = placing_heavy v }
