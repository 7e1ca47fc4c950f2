-- The number of nodes in a side, from the places and stops of one or two links: below one link as many as there are places from its own up
-- to its stop; of two, the difference where the second lies below the first, and else the sum.
-- Assumes nothing.
use Rattle.std.proofs.Common.{◌≡◌, ℕ, zero, suc, ◌+◌, ◌<◌, ◌≤◌, min, max, Bool, true, false, eqb, leb, ◌⊎◌, List, sym, refl, ap, ◌∙◌, ap₂, inl, inr, eq-or-lt_of_le, arith, lt-ltb, eq-eqb, eqb-true, le-leb}
use mathlib.Core.Bool.{xor, and-true}
use borrow.Author.Tests.{lt-leb}
use Rattle.cuts.specs.Sums.{sum_to, only, count_to}
use Rattle.cuts.specs.Network.{Tree, Network, flag}
use Rattle.cuts.specs.Cut.{Side, sym_diff, size}
use Rattle.cuts.specs.Tree.{below}
use Rattle.cuts.specs.Candidate.{Handle, side_of}
use Rattle.cuts.proofs.FlagLaws.{agree, clash, xor_comm}
use Rattle.cuts.proofs.SumLaws.{sum_congr, sum-add, sum-zero, sum-swap, sum-single, count_cut}
use Rattle.cuts.proofs.CutLaws.{flag-sym_diff}
use Rattle.arrays.specs.Lists.{entry}
use Rattle.arrays.specs.Kept.{within, Kept}
use Rattle.tree_places.proofs.WithinLaws.{within_in, within-behind, within-is}
use Rattle.tree_places.proofs.StopLaws.{stops_nest}
use Rattle.search_order.specs.Choice.{chosen}
use Rattle.search_order.specs.Visits.{handle_at}
use Rattle.search_order.proofs.HandleLaws.{three_ways, chosen-two}
use Rattle.search_order.proofs.LinkLaws.{handle-one}

-- ---- sides that lie in each other, or apart

module _ (net : Network) (r s : Side) where
  size-swap : size net (sym_diff r s) ≡ size net (sym_diff s r)
  unfolding size
  size-swap = sum_congr net.nodes _ _ (λ x _. ap (λ (b : Bool). only b 1) (flag-sym_diff r s x ∙ xor_comm (flag r x) (flag s x) ∙ sym (flag-sym_diff s r x)))

  size-inside : ((x : ℕ) → x < net.nodes → flag s x ≡ true → flag r x ≡ true) → size net (sym_diff r s) + size net s ≡ size net r
  unfolding size xor
  size-inside h =
      sym (sum-add net.nodes _ _)
      ∙ sum_congr net.nodes _ _ (λ x b. ap (λ (c : Bool). only c 1 + only (flag s x) 1) (flag-sym_diff r s x) ∙ part (flag r x) (flag s x) (h x b))
    where
      part : (p q : Bool) → (q ≡ true → p ≡ true) → only (xor p q) 1 + only q 1 ≡ only p 1
      part true true h = refl
      part true false h = refl
      part false true h = clash (h refl) refl
      part false false h = refl

  size-apart : ((x : ℕ) → x < net.nodes → flag r x ≡ true → flag s x ≡ true → ⊥) → size net (sym_diff r s) ≡ size net r + size net s
  unfolding size xor
  size-apart h =
      sum_congr net.nodes _ _ (λ x b. ap (λ (c : Bool). only c 1) (flag-sym_diff r s x) ∙ part (flag r x) (flag s x) (h x b))
      ∙ sum-add net.nodes _ _
    where
      part : (p q : Bool) → (p ≡ true → q ≡ true → ⊥) → only (xor p q) 1 ≡ only p 1 + only q 1
      part true true h = absurd (h refl refl)
      part true false h = refl
      part false true h = refl
      part false false h = refl

-- ---- places

-- how many places a run has
count-from : (from to : ℕ) → from ≤ to → count_to to (leb from) + from ≡ to
unfolding sum_to
count-from from zero a = omega arith
count-from from (suc to) a = go (count-from from to) (eq-or-lt_of_le a)
  where
    go : (from ≤ to → count_to to (leb from) + from ≡ to) → (from ≡ suc to) ⊎ (from < suc to) → count_to (suc to) (leb from) + from ≡ suc to
    go r (inl e) = let none = sum-zero (suc to) (λ p. only (leb from p) 1) (λ p b. rw (lt-leb from p (omega arith))) in omega arith
    go r (inr l) = let rest = r (omega arith) in rw (le-leb from to (omega arith)) (omega arith)

count-within : (from to n : ℕ) → from ≤ to → to ≤ n → count_to n (within from to) + from ≡ to
count-within from to n a b =
    let cut = count_cut to n (within from to) b (λ p c _. within-behind from to p c) in
    let all = sum_congr to (λ p. only (within from to p) 1) (λ p. only (leb from p) 1) (λ p c. rw (lt-ltb p to c, and-true (leb from p))) in
    let run = count-from from to a in
    omega arith

module _ {net : Network} {t : Tree} {place node stops links : List ℕ} (w : Kept net t place node stops links) where
  -- every node has a place and every place a node, so that a sum over the nodes is one over the places
  sum_places : (g : ℕ → ℕ) → sum_to net.nodes (λ x. g (entry place x)) ≡ sum_to net.nodes g
  sum_places g =
      sum_congr n _ _ (λ x b. sym (sum-single n (entry place x) g (w.placed x b)))
      ∙ sum-swap n n (λ x p. only (eqb (entry place x) p) (g p))
      ∙ sum_congr n _ _ (λ p b. sum_congr n _ _ (λ x c. ap (λ (q : Bool). only q (g p)) (turned x p c b)) ∙ sum-single n (entry node p) (λ x. g p) (w.taken p b))
    where
      n : ℕ
      n = net.nodes

      turned : (x p : ℕ) → x < net.nodes → p < net.nodes → eqb (entry place x) p ≡ eqb (entry node p) x
      turned x p b c = agree _ _
          (λ q. eq-eqb (entry place x) p (ap (entry place) (sym (eqb-true (entry node p) x q)) ∙ w.forth p c))
          (λ q. eq-eqb (entry node p) x (ap (entry node) (sym (eqb-true (entry place x) p q)) ∙ w.back x b))

  abbrev side : ℕ → Side
  side u = below net t (entry links u)

  single-size : (u : ℕ) → 0 < u → u < net.nodes → size net (side u) + u ≡ entry stops u
  unfolding size
  single-size u z b =
      let s : ℕ = entry stops u in
      let inside = sum_congr net.nodes (λ x. only (flag (side u) x) 1) (λ x. only (within u s (entry place x)) 1) (λ x c. ap (λ (q : Bool). only q 1) (w.below_is u x z b c)) in
      let places = sum_places (λ p. only (within u s p) 1) in
      let run = count-within u s net.nodes (let l = w.some u b in omega arith) (w.most u b) in
      omega arith

  -- of the handle at two places
  abbrev count : ℕ → ℕ → ℕ
  count u v = size net (side_of net t (handle_at links u v))

  single-side : (u : ℕ) → count u u ≡ size net (side u)
  unfolding side_of
  single-side u = ap (λ (h : Handle). size net (side_of net t h)) (handle-one links u)

  pub single-count : (u : ℕ) → 0 < u → u < net.nodes → count u u + u ≡ entry stops u
  single-count u z b = let e = single-side u in let s = single-size u z b in omega arith

  module _ (u v : ℕ) (z : 0 < u) (l : u < v) (b : v < net.nodes) where
    -- in either order of the two links
    pair-side : count u v ≡ size net (sym_diff (side u) (side v))
    unfolding side_of
    pair-side = go (three_ways (entry links u) (entry links v))
      where
        go : (entry links u ≡ entry links v) ⊎ ((entry links u < entry links v) ⊎ (entry links v < entry links u)) → count u v ≡ size net (sym_diff (side u) (side v))
        go (inl e) = absurd (let q = w.links-at.once u v z (omega arith) (omega arith) b e in omega arith)
        go (inr (inl m)) =
            let p : min (entry links u) (entry links v) ≡ entry links u = omega arith in
            let q : max (entry links u) (entry links v) ≡ entry links v = omega arith in
            ap (λ (h : Handle). size net (side_of net t h)) (ap₂ chosen p q ∙ chosen-two (entry links u) (entry links v) m)
        go (inr (inr m)) =
            let p : min (entry links u) (entry links v) ≡ entry links v = omega arith in
            let q : max (entry links u) (entry links v) ≡ entry links u = omega arith in
            ap (λ (h : Handle). size net (side_of net t h)) (ap₂ chosen p q ∙ chosen-two (entry links v) (entry links u) m) ∙ size-swap net (side v) (side u)

    -- the place of a node below v
    below-v : (x : ℕ) → x < net.nodes → flag (side v) x ≡ true → (v ≤ entry place x) × (entry place x < entry stops v)
    below-v x c h = within-is v (entry stops v) (entry place x) (sym (w.below_is v x (omega arith) b c) ∙ h)

    pub pair_nested : v < entry stops u → count u v + count v v ≡ count u u
    pair_nested d =
        let e = stops_nest w u v z l b d in
        let pair = pair-side in
        let of-u = single-side u in
        let of-v = single-side v in
        let inside = size-inside net (side u) (side v) (λ x c h.
        let p = below-v x c h in w.below_is u x z (omega arith) c ∙ within_in u (entry stops u) (entry place x) (omega (arith, p.0)) (omega (arith, p.1))) in
        omega arith

    pub pair-apart : entry stops u ≤ v → count u v ≡ count u u + count v v
    pair-apart d =
        let pair = pair-side in
        let of-u = single-side u in
        let of-v = single-side v in
        let apart = size-apart net (side u) (side v) (λ x c h k.
        let p = below-v x c k in clash h (w.below_is u x z (omega arith) c ∙ within-behind u (entry stops u) (entry place x) (omega (arith, p.0)))) in
        omega arith
