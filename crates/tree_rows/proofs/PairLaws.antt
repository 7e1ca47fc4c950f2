-- The weights of a tree's links, alone and two by two, from what crosses the places below one link: alone, the sum at those places; of a
-- pair, what both share is the sum at the places below the later link, whether these lie among the first ones or apart from them.
-- Assumes nothing.
use Rattle.std.proofs.Common.{◌≡◌, ℕ, ◌+◌, ◌-◌, ◌*◌, ◌<◌, ◌≤◌, min, max, Bool, true, false, ◌&&◌, ◌⊎◌, List, sym, refl, ap, ◌∙◌, ap₂, inl, inr, arith}
use mathlib.Core.Bool.{xor}
use native.Mathlib.Decide.{dec_lt}
use Rattle.cuts.specs.Sums.{only}
use Rattle.cuts.specs.Network.{Tree, Network, link_count}
use Rattle.cuts.specs.Cut.{Side, crosses, cut_weight}
use Rattle.cuts.specs.Tree.{below}
use Rattle.cuts.specs.Candidate.{one, two, shared_weight, pair_weight, weight_of}
use Rattle.cuts.proofs.FlagLaws.{clash, xor_self}
use Rattle.cuts.proofs.SumLaws.{sum_congr}
use Rattle.cuts.proofs.CutLaws.{crosses-is, shared_weight-most}
use Rattle.arrays.specs.Lists.{entry}
use Rattle.arrays.specs.Kept.{within, Kept}
use Rattle.tree_places.proofs.WithinLaws.{within_in, within-behind, within-is}
use Rattle.tree_places.proofs.StopLaws.{stops_nest}
use Rattle.search_order.specs.Choice.{chosen}
use Rattle.search_order.specs.Visits.{handle_at}
use Rattle.search_order.proofs.HandleLaws.{three_ways, chosen-two}
use Rattle.tree_rows.specs.Rows.{sum_over, weight_at, first_place, second_place, crossing}
use Rattle.tree_rows.proofs.OverLaws.{over_join}
use Rattle.tree_rows.proofs.CrossLaws.{crossed, crossing-sum}

-- ---- one link and its ends

own-ends : (p q : Bool) (w : ℕ) → only (xor p q) w ≡ only (xor p q) (only p w) + only (xor p q) (only q w)
unfolding xor
own-ends true true w = refl
own-ends true false w = omega arith
own-ends false true w = omega arith
own-ends false false w = refl

shared-ends : (c p q : Bool) (w : ℕ) → (c ≡ true → p ≡ true → q ≡ true → ⊥) → only (c && xor p q) w ≡ only c (only p w) + only c (only q w)
unfolding xor
shared-ends true true true w h = absurd (h refl refl refl)
shared-ends true true false w h = omega arith
shared-ends true false true w h = omega arith
shared-ends true false false w h = refl
shared-ends false p q w h = refl

shared-swap : (net : Network) (r s : Side) → shared_weight net r s ≡ shared_weight net s r
unfolding shared_weight
shared-swap net r s = sum_congr (link_count net) _ _ (λ k _. ap (λ (b : Bool). only b (weight_at net k)) (both (crosses net r k) (crosses net s k)))
  where
    both : (p q : Bool) → (p && q) ≡ (q && p)
    both true true = refl
    both true false = refl
    both false true = refl
    both false false = refl

module _ {net : Network} {t : Tree} {place node stops links : List ℕ} (w : Kept net t place node stops links) where
  -- the side below the link at a place
  abbrev side : ℕ → Side
  side u = below net t (entry links u)

  -- the weight of the link at a place, alone
  abbrev single : ℕ → ℕ
  single u = weight_of net t (one (entry links u))

  -- what crosses the places below that link, at place y
  abbrev crossing-of : ℕ → ℕ → ℕ
  crossing-of u = crossing net place u (entry stops u)

  crosses-place : (u : ℕ) → 0 < u → u < net.nodes → (k : ℕ) → k < link_count net → crosses net (side u) k ≡ crossed net place u (entry stops u) k
  unfolding crossed
  crosses-place u z b k c =
      let l = w.spanning.linked in
      crosses-is net (side u) k ∙ ap₂ xor (w.below_is u _ z b (l.first_in k c)) (w.below_is u _ z b (l.second_in k c))

  -- the link at u alone
  pub single-sum : (u : ℕ) → 0 < u → u < net.nodes → single u ≡ sum_over u (entry stops u) (crossing-of u)
  unfolding weight_of cut_weight crossed
  single-sum u z b =
      let s : ℕ = entry stops u in
      sum_congr (link_count net) _ _ (λ k c. ap (λ (x : Bool). only x (weight_at net k)) (crosses-place u z b k c)
      ∙ own-ends (within u s (first_place net place k)) (within u s (second_place net place k)) (weight_at net k))
      ∙ sym (crossing-sum net place u s u s)

  module _ (u v : ℕ) (z : 0 < u) (l : u < v) (b : v < net.nodes) where
    -- a link that crosses the places below u does not have both ends below v
    not-both : (k : ℕ) → crossed net place u (entry stops u) k ≡ true → within v (entry stops v) (first_place net place k) ≡ true → within v (entry stops v) (second_place net place k) ≡ true → ⊥
    unfolding crossed
    not-both k c p q = go (dec_lt v (entry stops u))
      where
        abut : {x : Bool} → within u (entry stops u) (first_place net place k) ≡ x → within u (entry stops u) (second_place net place k) ≡ x → ⊥
        abut {x} m n = clash c (ap₂ xor m n ∙ xor_self x)

        go : Dec (v < entry stops u) → ⊥
        go (yes d) =
            let i = within-is v (entry stops v) (first_place net place k) p in
            let j = within-is v (entry stops v) (second_place net place k) q in
            let e = stops_nest w u v z l b d in
            abut (within_in u (entry stops u) (first_place net place k) (omega (arith, i.0)) (omega (arith, i.1)))
            (within_in u (entry stops u) (second_place net place k) (omega (arith, j.0)) (omega (arith, j.1)))
        go (no d) =
            let i = within-is v (entry stops v) (first_place net place k) p in
            let j = within-is v (entry stops v) (second_place net place k) q in
            abut (within-behind u (entry stops u) (first_place net place k) (omega (arith, i.0))) (within-behind u (entry stops u) (second_place net place k) (omega (arith, j.0)))

    -- what the links at u and v share
    shared-sum : shared_weight net (side u) (side v) ≡ sum_over v (entry stops v) (crossing-of u)
    unfolding shared_weight crossed
    shared-sum =
        sum_congr (link_count net) _ _ (λ k c.
        ap₂ (λ (x y : Bool). only (x && y) (weight_at net k)) (crosses-place u z (omega arith) k c) (crosses-place v (omega arith) b k c)
        ∙ shared-ends (crossed net place u (entry stops u) k) (within v (entry stops v) (first_place net place k)) (within v (entry stops v) (second_place net place k)) (weight_at net k) (not-both k))
        ∙ sym (crossing-sum net place u (entry stops u) v (entry stops v))

    -- the sums up to v and up to its stop are apart by that
    shared_prefix : sum_over u v (crossing-of u) + shared_weight net (side u) (side v) ≡ sum_over u (entry stops v) (crossing-of u)
    shared_prefix =
        ap (λ (n : ℕ). sum_over u v (crossing-of u) + n) shared-sum ∙ over_join u v (entry stops v) (crossing-of u) (omega arith) (omega (arith, w.some v b))

    -- the links at u and v as a pair
    pub pair-sum : weight_of net t (handle_at links u v) ≡ single u + single v - 2 * (sum_over u (entry stops v) (crossing-of u) - sum_over u v (crossing-of u))
    unfolding weight_of pair_weight
    pair-sum = go (three_ways (entry links u) (entry links v))
      where
        of_two : (e f : ℕ) → e < f → min (entry links u) (entry links v) ≡ e → max (entry links u) (entry links v) ≡ f
            → weight_of net t (handle_at links u v) ≡ weight_of net t (two e f)
        of_two e f l p q = ap (weight_of net t) (ap₂ chosen p q ∙ chosen-two e f l)

        go : (entry links u ≡ entry links v) ⊎ ((entry links u < entry links v) ⊎ (entry links v < entry links u))
            → weight_of net t (handle_at links u v) ≡ single u + single v - 2 * (sum_over u (entry stops v) (crossing-of u) - sum_over u v (crossing-of u))
        go (inl q) = absurd (let i = w.links-at.once u v z (omega arith) (omega arith) b q in omega arith)
        go (inr (inl m)) = of_two (entry links u) (entry links v) m (omega arith) (omega arith) ∙ (let e = shared_prefix in omega arith)
        go (inr (inr m)) =
            of_two (entry links v) (entry links u) m (omega arith) (omega arith)
            ∙ (let e = shared_prefix in let s = shared-swap net (side v) (side u) in omega arith)

    -- no difference goes below 0
    pub pair-room : (sum_over u v (crossing-of u) ≤ sum_over u (entry stops v) (crossing-of u))
        × (2 * (sum_over u (entry stops v) (crossing-of u) - sum_over u v (crossing-of u)) ≤ single u + single v)
    unfolding weight_of
    pair-room = let e = shared_prefix in let a = shared_weight-most net (side u) (side v) in (omega arith, omega (arith, a.0, a.1))
