-- Writing the weights of a tree's pairs row by row: a pair's slot is no other's, so that what is written stays, and lies before the end of
-- the pairs; with row 1 done all are written.
-- Assumes nothing.
use Prim.Native.Nat.{ℕ, ◌+◌, ◌-◌, ◌≤◌, ◌<◌, min, max}
use mathlib.Core.Path.{◌≡◌, refl, sym, ap, ap₂, ◌∙◌}
use mathlib.Core.Logic.{◌⊎◌, inl, inr}
use mathlib.Core.List.{List}
use native.Mathlib.Nat.{eq-or-lt_of_le}
use native.Mathlib.Decide.{dec_lt}
use native.Mathlib.Omega.{arith}
use lib.ListN.{length, set, length-set}
use lib.Seq.{get_or-set_same, get_or-set_other}
use Rattle.cuts.specs.Network.{Network, Tree}
use Rattle.cuts.specs.Tree.{Spanning}
use Rattle.cuts.specs.Candidate.{weight_of, member_links}
use Rattle.cuts.proofs.SelectLaws.{members-counted, members_rise}
use Rattle.pairs.specs.Slots.{row_start, pair_slot}
use Rattle.pairs.specs.Pairs.{link_of_rank, pair_of}
use Rattle.pairs.proofs.SlotLaws.{slot-below, slot-once}
use Rattle.pairs.proofs.PairLaws.{pair_count-is, pairs-complete}
use Rattle.arrays.specs.Lists.{entry}
use Rattle.search_order.specs.Choice.{chosen}
use Rattle.search_order.specs.Visits.{handle_at, passed}
use Rattle.search_order.proofs.HandleLaws.{chosen-two, sorted}
use Rattle.search_order.proofs.PassedLaws.{passed_none, passed-behind, passed-new, passed-all}
use Rattle.tree_ranks.specs.Ranks.{RanksOf}
use Rattle.tree_ranks.proofs.MemberLaws.{handle-ranks, ranks-placed}
use Rattle.pair_rows.specs.Writing.{slot_of_ranks, RanksApart, PairsTo, BehindPairs, PairsLeft}

-- which of two numbers is the lesser
abbrev Sorted : ℕ → ℕ → Type 0
Sorted i j = ((min i j ≡ i) × (max i j ≡ j)) ⊎ ((min i j ≡ j) × (max i j ≡ i))

-- no rank stands at two places
pub ranks-apart : {net : Network} {t : Tree} {links at rank : List ℕ} → RanksOf net t links at rank → RanksApart rank net.nodes
ranks-apart {at = at} h = record {
  within = h.ranked;
  once = λ p q z b w d e. sym (h.back p z b) ∙ ap (entry at) e ∙ h.back q w d;
}

-- ---- what stands behind the pairs

pub behind-start : (nodes : ℕ) (area : List ℕ) → BehindPairs nodes area area
behind-start nodes area = record { same_length = refl; same = λ i l. refl }

pub behind-set : {nodes : ℕ} {before area : List ℕ} → BehindPairs nodes before area → (k w : ℕ) → k < row_start (nodes - 1) → BehindPairs nodes before (set area k w)
behind-set {nodes} {before} {area} h k w l = record {
  same_length = length-set area k w ∙ h.same_length;
  same = λ i b. get_or-set_other area k i w 0 (omega arith) ∙ h.same i b;
}

pub behind_more : {nodes : ℕ} {a b c : List ℕ} → BehindPairs nodes a b → BehindPairs nodes b c → BehindPairs nodes a c
behind_more h k = record { same_length = k.same_length ∙ h.same_length; same = λ i l. k.same i l ∙ h.same i l }

-- ---- the pairs so far

module _ (net : Network) (t : Tree) (links rank : List ℕ) (nodes : ℕ) (area : List ℕ) where
  pub pairs_start : PairsTo net t links rank nodes nodes nodes area
  pairs_start x y z l b p = absurd (passed_none nodes nodes x y nodes (omega arith) (omega arith) b p)

  -- the row of u, in which the link alone is no pair, begins where that of u + 1 ends
  pub pairs_next : (u : ℕ) → PairsTo net t links rank nodes (u + 1) nodes area → PairsTo net t links rank nodes u (u + 1) area
  pairs_next u h x y z l b p = step (passed-new u u x y p)
    where
      step : passed u u x y ⊎ ((x ≡ u) × (y ≡ u)) → entry area (slot_of_ranks (entry rank x) (entry rank y)) ≡ weight_of net t (handle_at links x y)
      step (inl d) = h x y z l b (passed-behind u nodes x y nodes (omega arith) (omega arith) b d)
      step (inr e) = absurd (omega (arith, e.0, e.1))

module _ {rank : List ℕ} {nodes : ℕ} (apart : RanksApart rank nodes) where
  -- two places have two ranks
  different : (x y : ℕ) → 0 < x → x < y → y < nodes → entry rank x ≡ entry rank y → ⊥
  different x y z l b e = let q = apart.once x y z (omega arith) (omega arith) b e in omega arith

  ranked : (x y : ℕ) → 0 < x → x < y → y < nodes → min (entry rank x) (entry rank y) < max (entry rank x) (entry rank y)
  ranked x y z l b = step (dec_lt (min (entry rank x) (entry rank y)) (max (entry rank x) (entry rank y)))
    where
      step : Dec (min (entry rank x) (entry rank y) < max (entry rank x) (entry rank y)) → min (entry rank x) (entry rank y) < max (entry rank x) (entry rank y)
      step (yes d) = d
      step (no d) = absurd (different x y z l b (omega arith))

  module _ (u v : ℕ) (z : 0 < u) (l : u < v) (b : v < nodes) where
    abbrev here : ℕ
    here = slot_of_ranks (entry rank u) (entry rank v)

    -- the slot of a pair lies before the end
    pub slot-room : here < row_start (nodes - 1)
    slot-room =
        let r = apart.within u z (omega arith) in
        let s = apart.within v (omega arith) b in
        slot-below (nodes - 1) (max (entry rank u) (entry rank v)) (min (entry rank u) (entry rank v)) (ranked u v z l b) (omega arith)

    -- and is no other's
    other-slot : (x y : ℕ) → 0 < x → x < y → y < nodes → ((x ≡ u) × (y ≡ v) → ⊥) → slot_of_ranks (entry rank x) (entry rank y) ≡ here → ⊥
    other-slot x y p q d n e =
        let o = slot-once (max (entry rank x) (entry rank y)) (min (entry rank x) (entry rank y)) (max (entry rank u) (entry rank v)) (min (entry rank u) (entry rank v))
        (ranked x y p q d) (ranked u v z l b) e in
        step o.0 o.1 (sorted (entry rank x) (entry rank y)) (sorted (entry rank u) (entry rank v))
      where
        straight : entry rank x ≡ entry rank u → entry rank y ≡ entry rank v → ⊥
        straight i j = n (apart.once x u p (omega arith) z (omega arith) i, apart.once y v (omega arith) d (omega arith) b j)

        crossed : entry rank x ≡ entry rank v → entry rank y ≡ entry rank u → ⊥
        crossed i j =
            let f = apart.once x v p (omega arith) (omega arith) b i in
            let g = apart.once y u (omega arith) d z (omega arith) j in
            omega arith

        step : max (entry rank x) (entry rank y) ≡ max (entry rank u) (entry rank v) → min (entry rank x) (entry rank y) ≡ min (entry rank u) (entry rank v)
            → Sorted (entry rank x) (entry rank y) → Sorted (entry rank u) (entry rank v) → ⊥
        step i j (inl f) (inl g) = straight (omega (arith, f, g)) (omega (arith, f, g))
        step i j (inl f) (inr g) = crossed (omega (arith, f, g)) (omega (arith, f, g))
        step i j (inr f) (inl g) = crossed (omega (arith, f, g)) (omega (arith, f, g))
        step i j (inr f) (inr g) = straight (omega (arith, f, g)) (omega (arith, f, g))

    -- one more pair
    pub pairs-more : (net : Network) (t : Tree) (links : List ℕ) (area : List ℕ) (w : ℕ) → row_start (nodes - 1) ≤ length area
        → w ≡ weight_of net t (handle_at links u v) → PairsTo net t links rank nodes u v area → PairsTo net t links rank nodes u (v + 1) (set area here w)
    pairs-more net t links area w room e h x y p q d k = step (passed-new u v x y k)
      where
        old : passed u v x y → ((x ≡ u) × (y ≡ v) → ⊥) → entry (set area here w) (slot_of_ranks (entry rank x) (entry rank y)) ≡ weight_of net t (handle_at links x y)
        old i n = get_or-set_other area here (slot_of_ranks (entry rank x) (entry rank y)) w 0 (other-slot x y p q d n) ∙ h x y p q d i

        step : passed u v x y ⊎ ((x ≡ u) × (y ≡ v)) → entry (set area here w) (slot_of_ranks (entry rank x) (entry rank y)) ≡ weight_of net t (handle_at links x y)
        step (inl (inl i)) = old (inl i) (λ n. omega (arith, n.0))
        step (inl (inr i)) = old (inr i) (λ n. omega (arith, n.1, i.1))
        step (inr i) = rw (i.0, i.1) (get_or-set_same area here w 0 (let r = slot-room in omega arith) ∙ e)

-- ---- all pairs

module _ {net : Network} {t : Tree} {links at rank : List ℕ} (g : Spanning net t) (ranks : RanksOf net t links at rank) where
  pub pairs_end : (u : ℕ) → u ≤ 1 → (before after : List ℕ) → row_start (net.nodes - 1) ≤ length before → BehindPairs net.nodes before after
      → PairsTo net t links rank net.nodes u net.nodes after → PairsLeft net t before after
  pairs_end u end before after room behind h =
      let c = pair_count-is g in
      pairs-complete net t before (omega arith) after behind.same_length pair (λ i l b. behind.same i (omega arith))
    where
      -- the pair of two ranks is that of two places
      pair : (r s : ℕ) → s < r → r < length (member_links net t) → entry after (pair_slot r s) ≡ weight_of net t (pair_of net t r s)
      pair r s l b =
          let c = members-counted g in
          let k = ranks-placed g.counted ranks s r (omega arith) (omega arith) in
          placed k.0 k.1 k.2 k.4 k.5 k.6 (eq-or-lt_of_le k.3)
        where
          placed : (x y : ℕ) → 0 < x → y < net.nodes → min (entry rank x) (entry rank y) ≡ s → max (entry rank x) (entry rank y) ≡ r → (x ≡ y) ⊎ (x < y)
              → entry after (pair_slot r s) ≡ weight_of net t (pair_of net t r s)
          placed x y z d i j (inl e) = let q = ap (entry rank) e in absurd (omega arith)
          placed x y z d i j (inr m) =
              let handle : handle_at links x y ≡ pair_of net t r s =
              handle-ranks g.counted ranks x y z (omega arith) (omega arith) d
              ∙ ap₂ (λ (e f : ℕ). chosen (link_of_rank net t e) (link_of_rank net t f)) i j
              ∙ chosen-two (link_of_rank net t s) (link_of_rank net t r) (members_rise net t s r l b) in
              sym (ap (entry after) (ap₂ pair_slot j i)) ∙ h x y z m d (passed-all u net.nodes x y net.nodes end (omega arith) z d)
              ∙ ap (weight_of net t) handle
