-- Why places are a preorder: where the places of each node's children, as many as their subtrees have nodes, are inside the node's own
-- and apart from each other, a subtree's nodes are those with places from its root's on. So two nodes are one under the other or apart,
-- every node has a place of its own, and every place its node.
-- Assumes nothing.
use Prim.Native.Nat.{ℕ, ◌+◌, ◌≤◌, ◌<◌}
use mathlib.Core.Path.{◌≡◌, refl, sym, ap, ◌∙◌}
use mathlib.Core.Logic.{◌⊎◌, inl, inr}
use mathlib.Core.Bool.{true, false, and-eq-true_iff}
use mathlib.Core.List.{List}
use native.Mathlib.Omega.{arith}
use lib.Dec.{eqb, leb}
use borrow.Author.Tests.{eqb-true, eqb-false, leb-true, le-leb, ltb-true, lt-ltb}
use Rattle.cuts.specs.Sums.{sum_to, only, count_to}
use Rattle.cuts.specs.Network.{Tree, Network, flag}
use Rattle.cuts.specs.Tree.{below, Spanning}
use Rattle.cuts.proofs.FlagLaws.{truth, agree, either, or_right}
use Rattle.cuts.proofs.SumLaws.{sum_congr, sum-swap, sum_tight, sum-single, count-last, count_unique}
use Rattle.arrays.specs.Lists.{entry}
use Rattle.arrays.specs.Order.{Ordered}
use Rattle.arrays.proofs.OrderLaws.{parent_in, climb}
use Rattle.arrays.specs.Kept.{within}
use Rattle.tree_places.specs.Places.{under, subtree, Child, Preorder}
use Rattle.tree_places.proofs.SubtreeLaws.{under-below, under_all, under-root, under_law, under_self, subtree-split, subtree-root}

-- different numbers below n for n numbers are all of them
pigeons : (n : ℕ) (f : ℕ → ℕ) → ((x : ℕ) → x < n → f x < n) → ((x y : ℕ) → x < n → y < n → f x ≡ f y → x ≡ y) → (y : ℕ) → y < n → (x : ℕ) × (x < n) × (f x ≡ y)
pigeons n f into once y b = let l = count-last n (λ x. eqb (f x) y) (rw one (omega arith)) in (l.at, l.under, eqb-true (f l.at) y l.holds)
  where
    most : (y : ℕ) → count_to n (λ x. eqb (f x) y) ≤ 1
    most y = count_unique n (λ x. eqb (f x) y) (λ i j c d p q. once i j c d (eqb-true (f i) y p ∙ sym (eqb-true (f j) y q)))

    total : sum_to n (λ y. count_to n (λ x. eqb (f x) y)) ≡ sum_to n (λ y. 1)
    total = sum-swap n n (λ y x. only (eqb (f x) y) 1) ∙ sum_congr n _ (λ x. 1) (λ x c. sum-single n (f x) (λ y. 1) (into x c))

    one : count_to n (λ x. eqb (f x) y) ≡ 1
    one = sum_tight n (λ y. count_to n (λ x. eqb (f x) y)) (λ y. 1) (λ y _. most y) (let t = total in omega arith) y b

-- the places from x's to before its stop are among those of y
abbrev pub Inside : List ℕ → List ℕ → ℕ → ℕ → Type 0
Inside place stop x y = (entry place y ≤ entry place x) × (entry stop x ≤ entry stop y)

-- one of x and y has its stop at the other's place or before it
abbrev pub Apart : List ℕ → List ℕ → ℕ → ℕ → Type 0
Apart place stop x y = (entry stop x ≤ entry place y) ⊎ (entry stop y ≤ entry place x)

-- children are inside their parents and apart from each other
pub record Nesting (net : Network) (t : Tree) (parents uplinks place stop : List ℕ) : Type 0 where
  pub root : entry place 0 ≡ 0
  pub stops : (x : ℕ) → x < net.nodes → entry stop x ≡ entry place x + subtree net t uplinks x
  pub inside : (v c : ℕ) → Child net parents v c → (entry place v < entry place c) × (entry stop c ≤ entry stop v)
  pub apart : (v c d : ℕ) → Child net parents v c → Child net parents v d → (c ≡ d → ⊥) → Apart place stop c d

module _ {net : Network} {t : Tree} {order parents uplinks place stop : List ℕ} (g : Spanning net t) (o : Ordered net t order parents uplinks) (w : Nesting net t parents uplinks place stop) where
  own : (x : ℕ) → x < net.nodes → (x ≡ 0 → ⊥) → Child net parents (entry parents x) x
  own x b f = record { under = b; off = f; is = refl }

  stop-after : (x : ℕ) → x < net.nodes → entry place x < entry stop x
  stop-after x b = let a = w.stops x b in let c = subtree-split g o x b in omega arith

  -- a subtree's places are inside its root's
  under-inside : (v : ℕ) → v < net.nodes → (x : ℕ) → x < net.nodes → under net t uplinks v x ≡ true → Inside place stop x v
  under-inside v b = climb o (λ x. under net t uplinks v x ≡ true → Inside place stop x v)
      (λ h. rw (eqb-true v 0 (sym (under-root g o v b) ∙ h)) (omega arith, omega arith))
      (λ x c f r h. go x (w.inside (entry parents x) x (own x c f)) r (either (eqb v x) (under net t uplinks v (entry parents x)) (sym (under_law g o v x b c f) ∙ h)))
    where
      go : (x : ℕ) → (entry place (entry parents x) < entry place x) × (entry stop x ≤ entry stop (entry parents x))
          → (under net t uplinks v (entry parents x) ≡ true → Inside place stop (entry parents x) v)
          → (eqb v x ≡ true) ⊎ (under net t uplinks v (entry parents x) ≡ true) → Inside place stop x v
      go x d r (inl q) = rw (eqb-true v x q) (omega arith, omega arith)
      go x d r (inr q) = let a = r q in (omega arith, omega arith)

  -- the child of v on the way to x
  Way : ℕ → ℕ → Type 0
  Way v x = (c : ℕ) × Child net parents v c × (under net t uplinks c x ≡ true)

  way : (v : ℕ) → v < net.nodes → (x : ℕ) → x < net.nodes → under net t uplinks v x ≡ true → (x ≡ v → ⊥) → Way v x
  unfolding Way
  way v b = climb o (λ x. under net t uplinks v x ≡ true → (x ≡ v → ⊥) → Way v x)
      (λ h f. absurd (f (sym (eqb-true v 0 (sym (under-root g o v b) ∙ h)))))
      (λ x c f r h n. go x c f r n (either (eqb v x) (under net t uplinks v (entry parents x)) (sym (under_law g o v x b c f) ∙ h)) (truth (eqb (entry parents x) v)))
    where
      go : (x : ℕ) → x < net.nodes → (x ≡ 0 → ⊥) → (under net t uplinks v (entry parents x) ≡ true → (entry parents x ≡ v → ⊥) → Way v (entry parents x)) → (x ≡ v → ⊥)
          → (eqb v x ≡ true) ⊎ (under net t uplinks v (entry parents x) ≡ true) → (eqb (entry parents x) v ≡ true) ⊎ (eqb (entry parents x) v ≡ false) → Way v x
      go x c f r n (inl q) d = absurd (n (sym (eqb-true v x q)))
      go x c f r n (inr q) (inl d) = (x, record { under = c; off = f; is = eqb-true (entry parents x) v d }, under_self g o x c)
      go x c f r n (inr q) (inr d) =
          let a = r q (eqb-false (entry parents x) v d) in
          (a.0, a.1, under_law g o a.0 x a.1.under c f ∙ or_right (eqb a.0 x) _ a.2)

  -- one in the subtree of the other, or apart
  Related : ℕ → ℕ → Type 0
  Related v x = (under net t uplinks v x ≡ true) ⊎ ((under net t uplinks x v ≡ true) ⊎ Apart place stop x v)

  related : (v : ℕ) → v < net.nodes → (x : ℕ) → x < net.nodes → Related v x
  unfolding Related Way
  related v b = climb o (Related v) (inr (inl (under_all g o v))) go
    where
      apart : (x c : ℕ) → c < net.nodes → Apart place stop x c → under net t uplinks c v ≡ true → Apart place stop x v
      apart x c k (inl q) h = let a = under-inside c k v b h in inl (omega arith)
      apart x c k (inr q) h = let a = under-inside c k v b h in inr (omega arith)

      among : (x : ℕ) → x < net.nodes → (x ≡ 0 → ⊥) → (d : Way (entry parents x) v) → (eqb d.0 x ≡ true) ⊎ (eqb d.0 x ≡ false) → Related v x
      among x k f d (inl e) = inr (inl (rw (← eqb-true d.0 x e) d.2))
      among x k f d (inr e) =
          inr (inr (apart x d.0 d.1.under (w.apart (entry parents x) x d.0 (own x k f) d.1 (λ q. eqb-false d.0 x e (sym q))) d.2))

      inner : (x : ℕ) → x < net.nodes → (x ≡ 0 → ⊥) → under net t uplinks (entry parents x) v ≡ true → (eqb v (entry parents x) ≡ true) ⊎ (eqb v (entry parents x) ≡ false) → Related v x
      inner x c f q (inl e) = inl (under_law g o v x b c f ∙ or_right (eqb v x) _ (rw (← eqb-true v (entry parents x) e) (under_self g o v b)))
      inner x c f q (inr e) = let d = way (entry parents x) (parent_in o x c f) v b q (eqb-false v (entry parents x) e) in among x c f d (truth (eqb d.0 x))

      go : (x : ℕ) → x < net.nodes → (x ≡ 0 → ⊥) → Related v (entry parents x) → Related v x
      go x c f (inl q) = inl (under_law g o v x b c f ∙ or_right (eqb v x) _ q)
      go x c f (inr (inr (inl q))) = let a = w.inside (entry parents x) x (own x c f) in inr (inr (inl (omega arith)))
      go x c f (inr (inr (inr q))) = let a = w.inside (entry parents x) x (own x c f) in inr (inr (inr (omega arith)))
      go x c f (inr (inl q)) = inner x c f q (truth (eqb v (entry parents x)))

  -- what lies in a subtree, but for its own root, comes behind that root
  under-after : (v : ℕ) → v < net.nodes → (x : ℕ) → x < net.nodes → under net t uplinks v x ≡ true → (x ≡ v → ⊥) → entry place v < entry place x
  unfolding Way
  under-after v b x c h n =
      let d = way v b x c h n in
      let a = w.inside v d.0 d.1 in
      let e = under-inside d.0 d.1.under x c d.2 in
      omega arith

  -- the subtree of v is the nodes with places from its own to its stop
  interval : (v x : ℕ) → v < net.nodes → x < net.nodes → under net t uplinks v x ≡ within (entry place v) (entry stop v) (entry place x)
  unfolding Related
  interval v x b c = agree _ _ (λ h. let k = (and-eq-true_iff (leb (entry place v) (entry place x)) _).0 h in
      back (leb-true (entry place v) (entry place x) k.0) (ltb-true (entry place x) (entry stop v) k.1) (related v b x c)) forth
    where
      forth : under net t uplinks v x ≡ true → within (entry place v) (entry stop v) (entry place x) ≡ true
      forth h = let a = under-inside v b x c h in let d = stop-after x c in rw (le-leb (entry place v) (entry place x) a.0, lt-ltb (entry place x) (entry stop v) (omega arith))

      up : under net t uplinks x v ≡ true → entry place v ≤ entry place x → (eqb v x ≡ true) ⊎ (eqb v x ≡ false) → under net t uplinks v x ≡ true
      up h l (inl q) = rw (← eqb-true v x q) (under_self g o v b)
      up h l (inr q) = let a = under-after x c v b h (eqb-false v x q) in absurd (omega arith)

      back : entry place v ≤ entry place x → entry place x < entry stop v → Related v x → under net t uplinks v x ≡ true
      back l k (inl q) = q
      back l k (inr (inl q)) = up q l (truth (eqb v x))
      back l k (inr (inr (inl q))) = let d = stop-after x c in absurd (omega arith)
      back l k (inr (inr (inr q))) = absurd (omega arith)

  whole : entry stop 0 ≡ net.nodes
  whole = let a = w.root in let b = w.stops 0 g.linked.rooted in let c = subtree-root g o in omega arith

  bounds : (x : ℕ) → x < net.nodes → (entry place x < entry stop x) × (entry stop x ≤ net.nodes)
  bounds x b = let a = under-inside 0 g.linked.rooted x b (under_all g o x) in let c = whole in (stop-after x b, omega arith)

  place_in : (x : ℕ) → x < net.nodes → entry place x < net.nodes
  place_in x b = let a = bounds x b in omega arith

  place-once : (x y : ℕ) → x < net.nodes → y < net.nodes → entry place x ≡ entry place y → x ≡ y
  place-once x y b c q = go (truth (eqb x y))
    where
      go : (eqb x y ≡ true) ⊎ (eqb x y ≡ false) → x ≡ y
      go (inl e) = eqb-true x y e
      go (inr e) =
          let d = stop-after y c in
          let h : under net t uplinks y x ≡ true
          = interval y x c b ∙ rw (le-leb (entry place y) (entry place x) (omega arith), lt-ltb (entry place x) (entry stop y) (omega arith)) in
          let a = under-after y c x b h (eqb-false x y e) in
          absurd (omega arith)

  place-every : (q : ℕ) → q < net.nodes → (x : ℕ) × (x < net.nodes) × (entry place x ≡ q)
  place-every = pigeons net.nodes (entry place) place_in place-once

  pub nesting_preorder : Preorder net t uplinks place stop
  nesting_preorder = record {
    below_is = λ {e} {v} a x c. ap (λ (k : ℕ). flag (below net t k) x) (sym a.is) ∙ sym (under-below g o v x a.off) ∙ interval v x a.under c;
    root = w.root;
    placed = place_in;
    once = place-once;
    every = place-every;
    bounds = bounds;
  }
