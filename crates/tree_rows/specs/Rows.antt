-- A row of pairs: what the links of a network weigh between the places of a tree's nodes, for the places below one tree link. `Kept` says
-- what a place, its stop and its link are. Assumes nothing.
--   sum_over from to g            g from + .. + g (to - 1)
--   weight_at net k               the weight of link k
--   first_place net pl k          the place of the first end of link k
--   second_place net pl k         the place of its second end
--   tally net pl from to y        the weight of the links between the places from, .., to - 1 and the place y. A link with both ends
--                                 among those places counts at each of its ends
--   degree net pl y               the weight of the links at the place y
--   crossing net pl from to y     the weight of the links at the place y that cross the places from, .., to - 1: at one of them the
--                                 degree less the tally, elsewhere the tally
--   PlaceDegrees net pl ds        ds has for each place its degree
--   Added net pl p f g            g is f with the tally of the place p alone added at each place, wherever the sum fits 64 bits
--   Tallied net pl from to f      f has the tally of those places at each place
--   Summed net pl from to end h   h has, at each place from `from` up to `end`, the sum of what crosses those places from `from` on
--                                 in front of it
--   RowTallied net pl st u f      f has the tally of the places below the link at u at each place, if there is such a place
--   Row net t pl st l u figures   the tallies and sums are those of the places below the link at u, if there is such a place, and the
--                                 singles have the weight of each link at u and behind, alone
use Rattle.std.specs.Prelude.{◌≡◌, ℕ, suc, ◌+◌, ◌-◌, ◌^◌, ◌<◌, ◌≤◌, cond, List, ◌==◌, nat_le}
use Rattle.cuts.specs.Sums.{sum_to, only}
use Rattle.cuts.specs.Network.{Tree, Network, link_at, link_count}
use Rattle.cuts.specs.Candidate.{one, weight_of}
use Rattle.arrays.specs.Lists.{entry}
use Rattle.arrays.specs.Kept.{within}
use Rattle.tree_rows.specs.declared.Figures.{Figures}

-- ---- sums over places

unfoldable pub sum_over : ℕ → ℕ → (ℕ → ℕ) → ℕ
unfolding sum_to
sum_over from to g = sum_to to (λ p. only (nat_le from p) (g p))

-- ---- links between places

abbrev pub weight_at : Network → ℕ → ℕ
weight_at net k = (link_at net k).weight

abbrev pub first_place : Network → List ℕ → ℕ → ℕ
first_place net place k = entry place (link_at net k).first

abbrev pub second_place : Network → List ℕ → ℕ → ℕ
second_place net place k = entry place (link_at net k).second

unfoldable pub tally : Network → List ℕ → ℕ → ℕ → ℕ → ℕ
unfolding sum_to
tally net place from to y =
    sum_to (link_count net) (λ k. only (within from to (first_place net place k)) (only (second_place net place k == y) (weight_at net k))
    + only (within from to (second_place net place k)) (only (first_place net place k == y) (weight_at net k)))

unfoldable pub degree : Network → List ℕ → ℕ → ℕ
unfolding sum_to
degree net place y =
    sum_to (link_count net) (λ k. only (first_place net place k == y) (weight_at net k) + only (second_place net place k == y) (weight_at net k))

unfoldable pub crossing : Network → List ℕ → ℕ → ℕ → ℕ → ℕ
unfolding tally degree
crossing net place from to y =
    cond (within from to y) (degree net place y - tally net place from to y) (tally net place from to y)

-- ---- degrees by place

pub record PlaceDegrees (net : Network) (place degrees : List ℕ) : Type 0 where
  pub is : (y : ℕ) → y < net.nodes → entry degrees y ≡ degree net place y

-- ---- a row

pub record Added (net : Network) (place : List ℕ) (p : ℕ) (f g : List ℕ) : Type 0 where
  pub is : (y : ℕ) → y < net.nodes → entry f y + tally net place p (suc p) y < 2 ^ 64 → entry g y ≡ entry f y + tally net place p (suc p) y

pub record Tallied (net : Network) (place : List ℕ) (from to : ℕ) (f : List ℕ) : Type 0 where
  pub is : (y : ℕ) → y < net.nodes → entry f y ≡ tally net place from to y

pub record Summed (net : Network) (place : List ℕ) (from to end : ℕ) (h : List ℕ) : Type 0 where
  pub is : (y : ℕ) → from ≤ y → y ≤ end → entry h y ≡ sum_over from y (crossing net place from to)

abbrev pub RowTallied : Network → List ℕ → List ℕ → ℕ → List ℕ → Type 0
RowTallied net place stops u f = u < net.nodes → Tallied net place u (entry stops u) f

pub record Row (net : Network) (t : Tree) (place stops links : List ℕ) (u : ℕ) (figures : Figures) : Type 0 where
  pub tallied : RowTallied net place stops u figures.tallies
  pub summed : u < net.nodes → Summed net place u (entry stops u) net.nodes figures.sums
  pub alone : (v : ℕ) → u ≤ v → v < net.nodes → entry figures.singles v ≡ weight_of net t (one (entry links v))
