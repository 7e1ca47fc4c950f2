-- The tally of a run of places at a place, and what crosses the run there: runs joined, one end of a link at a time, and over places.
-- Assumes nothing.
use Rattle.std.proofs.Common.{◌≡◌, ℕ, ◌+◌, ◌^◌, ◌<◌, ◌≤◌, Bool, true, false, eqb, ◌⊎◌, List, sym, refl, ap, ◌∙◌, ap₂, inl, inr, arith, eqb-true}
use mathlib.Core.Bool.{xor}
use Rattle.cuts.specs.Sums.{sum_to, only}
use Rattle.cuts.specs.Network.{Network, link_count}
use Rattle.cuts.specs.Limits.{Light}
use Rattle.cuts.proofs.FlagLaws.{clash, truth, xor_comm}
use Rattle.cuts.proofs.SumLaws.{sum_congr, sum_mono, sum-add, sum_const}
use Rattle.arrays.specs.Kept.{within}
use Rattle.tree_places.proofs.WithinLaws.{within-is, within_join}
use Rattle.tree_rows.specs.Rows.{sum_over, weight_at, first_place, second_place, tally, degree, crossing}
use Rattle.tree_rows.proofs.OverLaws.{over_congr, over_add, over-only, over-swap, over-pick}

at_most : (b : Bool) (w : ℕ) → only b w ≤ w
at_most true w = omega arith
at_most false w = omega arith

module _ (net : Network) (place : List ℕ) where
  -- the places of a link's ends, and its weight
  abbrev left : ℕ → ℕ
  left k = first_place net place k

  abbrev right : ℕ → ℕ
  right k = second_place net place k

  abbrev weight : ℕ → ℕ
  weight k = weight_at net k

  -- ---- tallies

  pub tally_join : (u v s y : ℕ) → u ≤ v → v ≤ s → tally net place u s y ≡ tally net place u v y + tally net place v s y
  unfolding tally
  tally_join u v s y a b =
      sum_congr (link_count net) _
      (λ k. (only (within u v (left k)) (only (eqb (right k) y) (weight k)) + only (within u v (right k)) (only (eqb (left k) y) (weight k)))
      + (only (within v s (left k)) (only (eqb (right k) y) (weight k)) + only (within v s (right k)) (only (eqb (left k) y) (weight k))))
      (λ k _.
      let p = within_join u v s (left k) (only (eqb (right k) y) (weight k)) a b in
      let q = within_join u v s (right k) (only (eqb (left k) y) (weight k)) a b in
      omega arith)
      ∙ sum-add (link_count net) _ _

  pub tally-none : (u s y : ℕ) → s ≤ u → tally net place u s y ≡ 0
  unfolding tally
  tally-none u s y a =
      sum_congr (link_count net) _ (λ k. 0) (λ k _. rw (empty (left k), empty (right k)))
      ∙ (let z = sum_const (link_count net) 0 in omega arith)
    where
      empty : (p : ℕ) → within u s p ≡ false
      empty p = go (truth (within u s p))
        where
          go : (within u s p ≡ true) ⊎ (within u s p ≡ false) → within u s p ≡ false
          go (inr q) = q
          go (inl q) = let r = within-is u s p q in absurd (omega (arith, r.0, r.1))

  pub tally-most : (u s y : ℕ) → tally net place u s y ≤ degree net place y
  unfolding tally degree
  tally-most u s y =
      sum_mono (link_count net) _ _ (λ k _.
      let p = at_most (within u s (left k)) (only (eqb (right k) y) (weight k)) in
      let q = at_most (within u s (right k)) (only (eqb (left k) y) (weight k)) in
      omega arith)

  -- ---- what crosses a run

  module _ (u s : ℕ) where
    -- link k crosses the run
    unfoldable pub crossed : ℕ → Bool
    crossed k = xor (within u s (left k)) (within u s (right k))

    -- at one end of link k
    crossed-at : ℕ → ℕ → ℕ → ℕ
    crossed-at k p y = only (crossed k) (only (eqb p y) (weight k))

    part_in : (p q a : Bool) (w : ℕ) → (a ≡ true → p ≡ true) → only (xor p q) (only a w) + only q (only a w) ≡ only a w
    unfolding xor
    part_in true true true w h = omega arith
    part_in true true false w h = refl
    part_in true false true w h = omega arith
    part_in true false false w h = refl
    part_in false q true w h = clash (h refl) refl
    part_in false true false w h = refl
    part_in false false false w h = refl

    part_out : (p q a : Bool) (w : ℕ) → (a ≡ true → p ≡ false) → only (xor p q) (only a w) ≡ only q (only a w)
    unfolding xor
    part_out true q true w h = clash refl (h refl)
    part_out true true false w h = refl
    part_out true false false w h = refl
    part_out false true true w h = refl
    part_out false true false w h = refl
    part_out false false true w h = refl
    part_out false false false w h = refl

    at_place : (p y : ℕ) {b : Bool} → within u s y ≡ b → eqb p y ≡ true → within u s p ≡ b
    at_place p y h e = ap (within u s) (eqb-true p y e) ∙ h

    -- link by link, at each of its ends
    crossing_is : (y : ℕ) → crossing net place u s y ≡ sum_to (link_count net) (λ k. crossed-at k (left k) y + crossed-at k (right k) y)
    unfolding crossing tally degree crossed crossed-at
    crossing_is y = go (truth (within u s y))
      where
        inside : within u s y ≡ true
            → sum_to (link_count net) (λ k. crossed-at k (left k) y + crossed-at k (right k) y) + tally net place u s y ≡ degree net place y
        inside h =
            sym (sum-add (link_count net) (λ k. crossed-at k (left k) y + crossed-at k (right k) y) _)
            ∙ sum_congr (link_count net) _ _ (λ k _.
            let p = part_in (within u s (left k)) (within u s (right k)) (eqb (left k) y) (weight k) (at_place (left k) y h) in
            let q = rw (xor_comm (within u s (right k)) (within u s (left k))) at (part_in (within u s (right k)) (within u s (left k)) (eqb (right k) y) (weight k) (at_place (right k) y h)) in
            omega arith)

        outside : within u s y ≡ false → sum_to (link_count net) (λ k. crossed-at k (left k) y + crossed-at k (right k) y) ≡ tally net place u s y
        outside h = sum_congr (link_count net) _ _ (λ k _.
            let p = part_out (within u s (left k)) (within u s (right k)) (eqb (left k) y) (weight k) (at_place (left k) y h) in
            let q = rw (xor_comm (within u s (right k)) (within u s (left k))) at (part_out (within u s (right k)) (within u s (left k)) (eqb (right k) y) (weight k) (at_place (right k) y h)) in
            omega arith)

        go : (within u s y ≡ true) ⊎ (within u s y ≡ false) → crossing net place u s y ≡ sum_to (link_count net) (λ k. crossed-at k (left k) y + crossed-at k (right k) y)
        go (inl h) = rw h (let e = inside h in omega arith)
        go (inr h) = rw h (sym (outside h))

    -- over a run of places
    pub crossing-sum : (v r : ℕ) → sum_over v r (crossing net place u s)
        ≡ sum_to (link_count net) (λ k. only (crossed k) (only (within v r (left k)) (weight k)) + only (crossed k) (only (within v r (right k)) (weight k)))
    unfolding crossed-at
    crossing-sum v r =
        over_congr v r _ _ (λ y _ _. crossing_is y)
        ∙ over-swap v r (link_count net) (λ k y. crossed-at k (left k) y + crossed-at k (right k) y)
        ∙ sum_congr (link_count net) _ _ (λ k _. over_add v r _ _ ∙ ap₂ ◌+◌ (at k (left k)) (at k (right k)))
      where
        at : (k p : ℕ) → sum_over v r (crossed-at k p) ≡ only (crossed k) (only (within v r p) (weight k))
        at k p = over-only v r (crossed k) (λ y. only (eqb p y) (weight k)) ∙ ap (only (crossed k)) (over-pick v r p (weight k))

  -- ---- bounds

  module _ (l : Light net) where
    total : (g : ℕ → ℕ) → ((k : ℕ) → g k ≤ weight k + weight k) → sum_to (link_count net) g < 2 ^ 45
    total g h =
        let a = sum_mono (link_count net) g (λ k. 2 ^ 33) (λ k b. let c = h k in let d = l.small k b in omega arith) in
        let b = sum_const (link_count net) (2 ^ 33) in
        let c = l.few in
        omega arith

    -- every sum that a row needs stays below 2^45
    pub degree-small : (y : ℕ) → degree net place y < 2 ^ 45
    unfolding degree
    degree-small y = total _ (λ k.
        let a = at_most (eqb (left k) y) (weight k) in
        let b = at_most (eqb (right k) y) (weight k) in
        omega arith)

    pub tally-small : (u s y : ℕ) → tally net place u s y < 2 ^ 45
    tally-small u s y = let a = tally-most u s y in let b = degree-small y in omega arith

    pub crossing-small : (u s v r : ℕ) → sum_over v r (crossing net place u s) < 2 ^ 45
    crossing-small u s v r = rw (crossing-sum u s v r) (total _ (λ k.
        let a = at_most (crossed u s k) (only (within v r (left k)) (weight k)) in
        let b = at_most (crossed u s k) (only (within v r (right k)) (weight k)) in
        let c = at_most (within v r (left k)) (weight k) in
        let d = at_most (within v r (right k)) (weight k) in
        omega arith))
