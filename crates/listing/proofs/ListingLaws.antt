-- What the list of sides holds, in what order, and which candidates start its entries. Two candidates of one side weigh and key the same
-- and are of different trees, so the order meets first the one of the lower tree, and a side was met before exactly where it crosses at
-- most two members of an earlier tree.
-- Assumes nothing.
use Prim.Native.Nat.{ℕ, ◌≤◌, ◌<◌}
use mathlib.Core.Path.{◌≡◌, refl, sym, ap, ap₂, ◌∙◌, subst}
use mathlib.Core.Logic.{◌⊎◌, inl, inr, ◌↔◌}
use mathlib.Core.Bool.{Bool, true, false, ◌&&◌, not, beq, and-eq-true_iff}
use mathlib.Core.List.{List, [], ◌∷◌, ◌++◌, map, Memᴰ}
use native.Mathlib.Decide.{dec_lt}
use native.Mathlib.Omega.{arith}
use lib.ListN.{length}
use lib.Dec.{leb}
use borrow.Author.Tests.{eqb-true, eq-eqb, leb-true, leb-false, le-leb, not-false}
use Rattle.cuts.specs.Sums.{any_to}
use Rattle.cuts.specs.Network.{Network, tree_at}
use Rattle.cuts.specs.Cut.{Side, Respects, Proper, Rootless, cut_weight, crossings, size}
use Rattle.cuts.specs.Tree.{Sound}
use Rattle.cuts.specs.Paths.{Distinct}
use Rattle.cuts.specs.Candidate.{Candidate, Key, Fits, LowerThen, Earlier, Precedes, alike, fewer_nodes, candidates, side_of}
use Rattle.cuts.specs.Answer.{Answer, reported}
use Rattle.cuts.specs.Demands.{Demand2}
use Rattle.cuts.proofs.FlagLaws.{clash, truth, flags_equal}
use Rattle.cuts.proofs.SumLaws.{any_to-some, any_to-at}
use Rattle.cuts.proofs.ListLaws.{Each, each_as, each-split, distinct_length}
use Rattle.cuts.proofs.Crossings.{side_of_inj}
use Rattle.cuts.proofs.OrderLaws.{sooner-apart, precedes-one_way}
use Rattle.cuts.proofs.Handles.{candidates-earlier}
use Rattle.cuts.proofs.Demands.{candidate-agrees, agrees_proper, agrees_rootless, agrees_weight, reached}
use Rattle.listing.specs.Picks.{keep}
use Rattle.listing.specs.Listing.{same_flags, weighing, in_order, listed, Weak, Opens}
use Rattle.listing.specs.Rounds.{unshown, is_new}
use Rattle.listing.proofs.PickLaws.{keep_in, keep-of, keep-each, sorted_in, sorted_of, sorted-each, fresh-of, fresh_in, fresh_distinct, fresh_keep}

pub same_flags_tells : (r s : Side) → (same_flags r s ≡ true) ↔ (r ≡ s)
unfolding same_flags
same_flags_tells [] [] = (λ h. refl, λ h. refl)
same_flags_tells [] (b ∷ s) = (λ h. clash h refl, λ h. cc)
same_flags_tells (a ∷ r) [] = (λ h. clash h refl, λ h. cc)
same_flags_tells (a ∷ r) (b ∷ s) = (
  λ h. let p = (and-eq-true_iff (beq a b) (same_flags r s)).0 h in ap₂ ◌∷◌ (flags_equal a b p.0) ((same_flags_tells r s).0 p.1),
  λ h. go a b (cc) ((same_flags_tells r s).1 (cc)),
)
  where
    go : (a b : Bool) → a ≡ b → same_flags r s ≡ true → (beq a b && same_flags r s) ≡ true
    go true true h q = q
    go true false h q = sym h
    go false true h q = h
    go false false h q = q

-- ---- new sides

-- the side crosses at most two members of some of the first i trees
abbrev pub Before : Network → ℕ → Side → Type 0
Before net i s = (j : ℕ) × (j < i) × Respects net (tree_at net j) s

module _ (net : Network) (i : ℕ) (c : Candidate) where
  few : ℕ → Bool
  few j = leb (crossings net (tree_at net j) c.side) 2

  pub unshown-not : (unshown net i c.side ≡ false) ↔ Before net i c.side
  unfolding few
  unshown-not = (
    λ h. let r = any_to-some i few (not-false (any_to i few) h) in (r.0, r.1, leb-true _ 2 r.2),
    λ r. ap not (any_to-at i few r.0 r.1 (le-leb _ 2 r.2)),
  )

  -- a candidate is new to trees exactly where its side crosses more than two members of each
  pub unshown-is : (unshown net i c.side ≡ true) ↔ ((j : ℕ) → j < i → 2 < crossings net (tree_at net j) c.side)
  unshown-is = (λ h j b. many h j b (truth (few j)), λ h. new h (truth (unshown net i c.side)))
    where
      many : unshown net i c.side ≡ true → (j : ℕ) → j < i → (few j ≡ true) ⊎ (few j ≡ false) → 2 < crossings net (tree_at net j) c.side
      many h j b (inl e) = clash h (unshown-not.1 (j, b, leb-true _ 2 (unfold few in e)))
      many h j b (inr e) = leb-false _ 2 (unfold few in e)

      new : ((j : ℕ) → j < i → 2 < crossings net (tree_at net j) c.side) → (unshown net i c.side ≡ true) ⊎ (unshown net i c.side ≡ false)
          → unshown net i c.side ≡ true
      new h (inl e) = e
      new h (inr e) = let r = unshown-not.0 e in let l = h r.0 r.1 in absurd (omega (arith, r.2))

-- ---- what a candidate is

-- the key goes by sides: candidates of one side have one key, below the number of nodes
pub record BySides (net : Network) (key : Key) : Type 0 where
  pub below : (c : Candidate) → Memᴰ c (candidates net) → key c < net.nodes
  pub same : (c d : Candidate) → Memᴰ c (candidates net) → Memᴰ d (candidates net) → d.side ≡ c.side → key d ≡ key c

module _ (net : Network) (v : Sound net) where
  abbrev said : Candidate → Answer
  said c = record { best = c; floor = 0; verdict = 0 }

  agrees : (c : Candidate) → Memᴰ c (candidates net) → Demand2 net (said c)
  agrees c m = candidate-agrees net v (said c) m

  proper : (c : Candidate) → Memᴰ c (candidates net) → Proper net c.side
  proper c m = agrees_proper net v (said c) (agrees c m)

  rootless : (c : Candidate) → Memᴰ c (candidates net) → Rootless net c.side
  rootless c m = agrees_rootless net v (said c) (agrees c m)

  weighs : (c : Candidate) → Memᴰ c (candidates net) → c.weight ≡ cut_weight net c.side
  weighs c m = agrees_weight net v (said c) (agrees c m)

  module _ (c d : Candidate) (m : Memᴰ c (candidates net)) (n : Memᴰ d (candidates net)) (q : d.side ≡ c.side) where
    -- candidates of one side have the same weight and number of nodes
    weighs-same : d.weight ≡ c.weight
    weighs-same = weighs d n ∙ ap (cut_weight net) q ∙ sym (weighs c m)

    count_same : d.count ≡ c.count
    count_same = (agrees d n).count_is ∙ ap (size net) q ∙ sym (agrees c m).count_is

    -- and if they are of one tree they are the same
    handle-same : d.tree ≡ c.tree → d.handle ≡ c.handle
    handle-same e =
        let p = agrees c m in
        let r = agrees d n in
        side_of_inj (v.spanning d.tree r.tree_listed) d.handle c.handle r.links_fit
        (subst (λ (i : ℕ). Fits net (tree_at net i) c.handle) (sym e) p.links_fit)
        (sym r.side_is ∙ q ∙ p.side_is ∙ ap (λ (i : ℕ). side_of net (tree_at net i) c.handle) (sym e))

    candidate-same : d.tree ≡ c.tree → d ≡ c
    candidate-same e = λ i. record { tree = e i; handle = handle-same e i; weight = weighs-same i; count = count_same i; side = q i }

  pub alike-by_sides : BySides net alike
  alike-by_sides = record { below = λ c m. let a = v.several in omega arith; same = λ c d m n q. refl }

  pub fewer_nodes-by_sides : BySides net fewer_nodes
  fewer_nodes-by_sides = record { below = λ c m. let p = (proper c m).not_full in let e = (agrees c m).count_is in omega arith; same = count_same }

  -- ---- the list in the order of a key

  module _ (key : Key) where
    pub in_order-of : (c : Candidate) → Memᴰ c (in_order key net) → Memᴰ c (candidates net) × (c.weight ≡ (reported key net).weight)
    unfolding in_order
    in_order-of c m =
        let w = (reported key net).weight in
        let r = sorted_of key (keep (weighing w) (candidates net)) net.nodes m in
        let k = keep-of (weighing w) (candidates net) r.0 in
        (k.0, eqb-true c.weight w k.1)

    -- the candidates of the reported weight stand in the order
    pub in_order-order : Each (Precedes key) (in_order key net)
    in_order-order =
        let w = (reported key net).weight in
        let e = keep-each (weighing w) Earlier (candidates net) (candidates-earlier net) in
        each_as (λ c d. LowerThen (key c) (key d) (Earlier c d)) (Precedes key) (in_order key net)
        (λ c d i j r. inr ((in_order-of c i).1 ∙ sym (in_order-of d j).1, r))
        (unfold in_order in sorted-each key (keep (weighing w) (candidates net)) Earlier e net.nodes)

  module _ (key : Key) (o : BySides net key) where
    pub in_order_in : (c : Candidate) → Memᴰ c (candidates net) → c.weight ≡ (reported key net).weight → Memᴰ c (in_order key net)
    unfolding in_order
    in_order_in c m e =
        let w = (reported key net).weight in
        sorted_in key (keep (weighing w) (candidates net)) net.nodes (keep_in (weighing w) m (eq-eqb c.weight w e)) (o.below c m)

    -- a candidate has the side of one in front of it exactly where that side crosses at most two members of an earlier tree
    repeats : (front : List Candidate) (c : Candidate) (back : List Candidate) → in_order key net ≡ front ++ c ∷ back
        → ((d : Candidate) × Memᴰ d front × (d.side ≡ c.side)) ↔ Before net c.tree c.side
    repeats front c back e = (
      λ r. there r.0 r.1 r.2 (order.0 r.0 r.1),
      λ r. let l = r.1 in let k = (agrees c inside).tree_listed in
          here r (reached net v c.side (proper c inside) (rootless c inside) r.0 (omega arith) r.2),
    )
      where
        at : Memᴰ c (in_order key net)
        at = rw e (mathlib.Core.List.Memᴰ.append_right front (mathlib.Core.List.Memᴰ.head refl))

        inside : Memᴰ c (candidates net)
        inside = (in_order-of key c at).0

        order : ((d : Candidate) → Memᴰ d front → Precedes key d c) × ((d : Candidate) → Memᴰ d back → Precedes key c d)
        order = each-split (Precedes key) front c back (rw e at (in_order-order key))

        there : (d : Candidate) → Memᴰ d front → d.side ≡ c.side → Precedes key d c → Before net c.tree c.side
        there d m q f = go f
          where
            within : Memᴰ d (candidates net)
            within = (in_order-of key d (rw e (mathlib.Core.List.Memᴰ.append_left (c ∷ back) m))).0

            last : Earlier d c → Before net c.tree c.side
            last (inl l) = (d.tree, l, rw (← q) (agrees d within).at_most_two)
            last (inr p) = absurd (sooner-apart d.handle c.handle p.1 (handle-same c d inside within q p.0))

            go : Precedes key d c → Before net c.tree c.side
            go (inl l) = let w = weighs-same c d inside within q in absurd (omega arith)
            go (inr (w, inl l)) = let r = o.same c d inside within q in absurd (omega arith)
            go (inr (w, inr l)) = last l.1

        here : (r : Before net c.tree c.side)
            → (d : Candidate) × Memᴰ d (candidates net) × (d.tree ≡ r.0) × (d.side ≡ c.side) × (d.weight ≡ cut_weight net c.side)
            → (d : Candidate) × Memᴰ d front × (d.side ≡ c.side)
        here r (d, m, t, q, w) =
            let i = in_order_in d m (weighs-same c d inside m q ∙ (in_order-of key c at).1) in
            go (mathlib.Core.List.Memᴰ.append_cases front (rw e at i))
          where
            lower : Precedes key d c
            lower = inr (weighs-same c d inside m q, inr (o.same c d inside m q, inl (let b = r.1 in omega arith)))

            behind : (d ≡ c) ⊎ Memᴰ d back → ⊥
            behind (inl p) = let a = ap (λ (x : Candidate). x.tree) p in let l = r.1 in omega arith
            behind (inr i) = precedes-one_way key d c lower (order.1 d i)

            go : Memᴰ d front ⊎ Memᴰ d (c ∷ back) → (d : Candidate) × Memᴰ d front × (d.side ≡ c.side)
            go (inl i) = (d, i, q)
            go (inr i) = absurd (behind (mathlib.Core.List.Memᴰ.cases_cons i))

    is_new-repeats : (front : List Candidate) (c : Candidate) (back : List Candidate) → in_order key net ≡ front ++ c ∷ back
        → (is_new net c ≡ false) ↔ Memᴰ c.side (map (λ d. d.side) front)
    is_new-repeats front c back e =
        let r = repeats front c back e in
        let t = unshown-not net c.tree c in (
          λ h. let d = r.1 (t.0 h) in mathlib.Core.List.Memᴰ.cast (sym d.2) (mathlib.Core.List.Memᴰ.map (λ d. d.side) d.1),
          λ m. let d = mathlib.Core.List.Memᴰ.of_map (λ d. d.side) front m in t.1 (r.0 (d.0, d.1, d.2)),
        )

    -- the list is the sides of the new candidates, as these stand in the order
    pub listed-new : listed key net ≡ map (λ c. c.side) (keep (is_new net) (in_order key net))
    unfolding listed
    listed-new =
        fresh_keep same_flags same_flags_tells (λ c. c.side) (is_new net) [] [] (in_order key net)
        (λ a. (λ m. absurd (mathlib.Core.List.Memᴰ.not-nil m), λ m. absurd (mathlib.Core.List.Memᴰ.not-nil m))) is_new-repeats

    -- these stand in the order, and each is the first of all candidates of its side
    pub new-order : Each (Precedes key) (keep (is_new net) (in_order key net))
    new-order = keep-each (is_new net) (Precedes key) (in_order key net) (in_order-order key)

    pub new-opens : (c : Candidate) → Memᴰ c (keep (is_new net) (in_order key net)) → Opens key net c
    new-opens c m = record { listed = inside; first = λ d n q. step d n q (dec_lt c.tree d.tree) (dec_lt d.tree c.tree) }
      where
        inside : Memᴰ c (candidates net)
        inside = (in_order-of key c (keep-of (is_new net) (in_order key net) m).0).0

        step : (d : Candidate) → Memᴰ d (candidates net) → d.side ≡ c.side → Dec (c.tree < d.tree) → Dec (d.tree < c.tree)
            → (d ≡ c) ⊎ Precedes key c d
        step d n q (yes l) k = inr (inr (sym (weighs-same c d inside n q), inr (sym (o.same c d inside n q), inl l)))
        step d n q (no l) (yes k) =
            let a = (unshown-is net c.tree c).0 (keep-of (is_new net) (in_order key net) m).1 d.tree k in
            let b : crossings net (tree_at net d.tree) c.side ≤ 2 = rw (← q) (agrees d n).at_most_two in
            absurd (omega arith)
        step d n q (no l) (no k) = inl (candidate-same c d inside n q (omega arith))

    -- ---- what the list holds

    pub listed-is : (s : Side) → Memᴰ s (listed key net) ↔ Weak net (reported key net).weight s
    unfolding listed
    listed-is s = (of, in_list)
      where
        sides : List Side
        sides = map (λ c. c.side) (in_order key net)

        of : Memᴰ s (listed key net) → Weak net (reported key net).weight s
        of m =
            let f = fresh-of same_flags same_flags_tells [] sides m in
            let c = mathlib.Core.List.Memᴰ.of_map (λ c. c.side) (in_order key net) f.0 in
            let k = in_order-of key c.0 c.1 in
            let a = agrees c.0 k.0 in
            subst (Weak net (reported key net).weight) c.2 (record {
              proper = proper c.0 k.0;
              rootless = rootless c.0 k.0;
              weighs = sym (weighs c.0 k.0) ∙ k.1;
              respects = (c.0.tree, a.tree_listed, a.at_most_two);
            })

        in_list : Weak net (reported key net).weight s → Memᴰ s (listed key net)
        in_list k =
            let c = reached net v s k.proper k.rootless k.respects.0 k.respects.1 k.respects.2 in
            let i : Memᴰ s sides = mathlib.Core.List.Memᴰ.cast (sym c.3) (mathlib.Core.List.Memᴰ.map (λ c. c.side) (in_order_in c.0 c.1 (c.4 ∙ k.weighs))) in
            fresh_in same_flags same_flags_tells [] sides i (λ m. mathlib.Core.List.Memᴰ.not-nil m)

    pub listed-once : Distinct (listed key net)
    unfolding listed
    listed-once = fresh_distinct same_flags same_flags_tells [] (map (λ c. c.side) (in_order key net))

    -- its length is the number of such sides, however they are listed without repetition
    pub listed-length : (ss : List Side) → Distinct ss → ((s : Side) → Memᴰ s ss ↔ Weak net (reported key net).weight s)
        → length (listed key net) ≡ length ss
    listed-length ss d h =
        distinct_length (listed key net) ss listed-once d (λ s. (λ m. (h s).1 ((listed-is s).0 m), λ m. (listed-is s).1 ((h s).0 m)))
