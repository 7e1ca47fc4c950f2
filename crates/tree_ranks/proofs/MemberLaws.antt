-- The members of a tree by rank: the link at a place is the member of its rank, and the place of a rank has that rank; so the handle of two
-- places is that of their ranks, and each two ranks are those of two places.
-- Assumes nothing.
use Prim.Native.Nat.{ℕ, suc, ◌-◌, ◌≤◌, ◌<◌, min, max}
use mathlib.Core.Path.{◌≡◌, sym, ap, ap₂, ◌∙◌}
use mathlib.Core.Logic.{◌⊎◌, inl, inr}
use mathlib.Core.List.{List}
use native.Mathlib.Nat.{eq-or-lt_of_le}
use native.Mathlib.Omega.{arith}
use lib.ListN.{length}
use Rattle.cuts.specs.Network.{Network, Tree}
use Rattle.cuts.specs.Tree.{member_count}
use Rattle.cuts.specs.Candidate.{member_links}
use Rattle.cuts.proofs.SelectLaws.{members-length, members_rise}
use Rattle.arrays.specs.Lists.{entry}
use Rattle.search_order.specs.Choice.{chosen}
use Rattle.search_order.specs.Visits.{handle_at}
use Rattle.search_order.proofs.HandleLaws.{less-or_not, three_ways}
use Rattle.tree_ranks.specs.Ranks.{RanksOf}

-- rising numbers rise with their positions
module _ (ms : List ℕ) (rise : (i j : ℕ) → i < j → j < length ms → entry ms i < entry ms j) where
  up_with : (p q : ℕ) → p ≤ q → q < length ms → entry ms p ≤ entry ms q
  up_with p q l b = go (eq-or-lt_of_le l)
    where
      go : (p ≡ q) ⊎ (p < q) → entry ms p ≤ entry ms q
      go (inl e) = let k = ap (entry ms) e in omega arith
      go (inr m) = let k = rise p q m b in omega arith

  module _ (p q : ℕ) (b : p < length ms) (c : q < length ms) where
    least_at : entry ms (min p q) ≡ min (entry ms p) (entry ms q)
    least_at = go (less-or_not p q)
      where
        go : (p < q) ⊎ (q ≤ p) → entry ms (min p q) ≡ min (entry ms p) (entry ms q)
        go (inl l) = let e : min p q ≡ p = omega arith in let k = up_with p q (omega arith) c in ap (entry ms) e ∙ omega arith
        go (inr l) = let e : min p q ≡ q = omega arith in let k = up_with q p l b in ap (entry ms) e ∙ omega arith

    most-at : entry ms (max p q) ≡ max (entry ms p) (entry ms q)
    most-at = go (less-or_not p q)
      where
        go : (p < q) ⊎ (q ≤ p) → entry ms (max p q) ≡ max (entry ms p) (entry ms q)
        go (inl l) = let e : max p q ≡ q = omega arith in let k = up_with p q (omega arith) c in ap (entry ms) e ∙ omega arith
        go (inr l) = let e : max p q ≡ p = omega arith in let k = up_with q p l b in ap (entry ms) e ∙ omega arith

module _ {net : Network} {t : Tree} {links at rank : List ℕ} (counted : member_count net t ≡ net.nodes - 1) (h : RanksOf net t links at rank) where
  count_is : length (member_links net t) ≡ net.nodes - 1
  count_is = members-length net t ∙ counted

  pub rank_in : (x : ℕ) → 0 < x → x < net.nodes → entry rank x < length (member_links net t)
  rank_in x z b = let r = h.ranked x z b in let c = count_is in omega arith

  -- the link at a place is the member of its rank
  pub rank_member : (x : ℕ) → 0 < x → x < net.nodes → entry links x ≡ entry (member_links net t) (entry rank x)
  rank_member x z b = ap (entry links) (sym (h.back x z b)) ∙ h.member (entry rank x) (h.ranked x z b)

  -- the place of a rank has that rank
  pub at_rank : (r : ℕ) → suc r < net.nodes → entry rank (entry at r) ≡ r
  at_rank r b = go (three_ways (entry rank (entry at r)) r)
    where
      same : entry (member_links net t) (entry rank (entry at r)) ≡ entry (member_links net t) r
      same = sym (rank_member (entry at r) (h.some r b) (h.within r b)) ∙ h.member r b

      go : (entry rank (entry at r) ≡ r) ⊎ ((entry rank (entry at r) < r) ⊎ (r < entry rank (entry at r))) → entry rank (entry at r) ≡ r
      go (inl e) = e
      go (inr (inl l)) =
          let s = same in
          let m = members_rise net t (entry rank (entry at r)) r l (let c = count_is in omega arith) in
          absurd (omega arith)
      go (inr (inr l)) =
          let s = same in
          let k = h.ranked (entry at r) (h.some r b) (h.within r b) in
          let m = members_rise net t r (entry rank (entry at r)) l (let c = count_is in omega arith) in
          absurd (omega arith)

  -- the handle of two places, by their ranks
  pub handle-ranks : (x y : ℕ) → 0 < x → x < net.nodes → 0 < y → y < net.nodes
      → handle_at links x y ≡ chosen (entry (member_links net t) (min (entry rank x) (entry rank y))) (entry (member_links net t) (max (entry rank x) (entry rank y)))
  handle-ranks x y z b w d =
      let ms = member_links net t in
      let p = entry rank x in
      let q = entry rank y in
      rw (rank_member x z b, rank_member y w d)
      (ap₂ chosen (sym (least_at ms (members_rise net t) p q (rank_in x z b) (rank_in y w d))) (sym (most-at ms (members_rise net t) p q (rank_in x z b) (rank_in y w d))))

  -- two ranks are those of two places, of which the first may be of the greater
  pub ranks-placed : (a b : ℕ) → a ≤ b → suc b < net.nodes → (x : ℕ) × (y : ℕ) × (0 < x) × (x ≤ y) × (y < net.nodes)
      × (min (entry rank x) (entry rank y) ≡ a) × (max (entry rank x) (entry rank y) ≡ b)
  ranks-placed a b up d = go (less-or_not (entry at b) (entry at a))
    where
      low : suc a < net.nodes
      low = omega arith

      go : (entry at b < entry at a) ⊎ (entry at a ≤ entry at b) → (x : ℕ) × (y : ℕ) × (0 < x) × (x ≤ y) × (y < net.nodes)
          × (min (entry rank x) (entry rank y) ≡ a) × (max (entry rank x) (entry rank y) ≡ b)
      go (inl l) = let p = at_rank a low in let q = at_rank b d in (entry at b, entry at a, h.some b d, omega arith, h.within a low, omega arith, omega arith)
      go (inr l) = let p = at_rank a low in let q = at_rank b d in (entry at a, entry at b, h.some a low, l, h.within b d, omega arith, omega arith)
