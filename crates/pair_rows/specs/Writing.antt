-- The weights of a tree's pairs, each written at the slot of its two ranks while the tree's rows are gone through. Assumes nothing.
--   slot_of_ranks a b                   the slot of the pair of two different ranks, in either order
--   Slotted ss a b                      ss is the table of row starts, and has both ranks
--   RanksApart rk n                     of n nodes, rk has a rank for each place but the root's, and no rank at two places
--   RowWritable xs st rk ss n u         the numbers xs have room for all pairs, ss is the table of row starts, and the row of u can be gone through
--   PairsTo net t l rk n u v xs         where l has the links and rk the ranks by place, xs has the weight of each pair of places passed before
--                                       row u, column v, at the slot of their ranks
--   BehindPairs n xs ys                 ys is as long as xs and has what xs has behind the last pair of n nodes
--   RowWritten ..                       ys, that was xs, has the row of u too, and what it had behind the last pair
--   PairsWritable xs ls x n r           the numbers xs have room for all pairs of a tree of n nodes, and the ranked tree r can be gone through by
--                                       rows, by the links ls and the index x
--   PairsLeft net t xs ys               xs became ys: the weights of all pairs of the tree are written to its front
use Rattle.std.specs.Prelude.{ℕ, suc, ◌+◌, ◌-◌, ◌≤◌, ◌<◌, min, max, ◌≡◌, List, length}
use Rattle.cuts.specs.Network.{Network, Tree}
use Rattle.cuts.specs.Candidate.{weight_of}
use Rattle.sheet.specs.Areas.{written}
use Rattle.pairs.specs.Slots.{row_start, pair_slot, row_starts}
use Rattle.pairs.specs.Pairs.{pair_weights}
use Rattle.arrays.specs.Lists.{entry}
use Rattle.search_order.specs.Visits.{handle_at, passed}
use Rattle.arrays.specs.declared.Index.{Index}
use Rattle.arrays.specs.declared.Links.{Links}
use Rattle.tree_rows.specs.declared.Figures.{Figures}
use Rattle.tree_ranks.specs.declared.Ranked.{Ranked}
use Rattle.tree_rows.specs.Making.{Searchable}
use Rattle.tree_rows.specs.Reading.{RowHeld, RowAt}

abbrev pub slot_of_ranks : ℕ → ℕ → ℕ
slot_of_ranks a b = pair_slot (max a b) (min a b)

pub record Slotted (starts : List ℕ) (a b : ℕ) : Type 0 where
  pub table : starts ≡ row_starts
  pub first : a < 255
  pub second : b < 255

-- ---- a row

pub record RanksApart (rank : List ℕ) (nodes : ℕ) : Type 0 where
  pub within : (p : ℕ) → 0 < p → p < nodes → suc (entry rank p) < nodes
  pub once : (p q : ℕ) → 0 < p → p < nodes → 0 < q → q < nodes → entry rank p ≡ entry rank q → p ≡ q

pub record RowWritable (area stops rank starts : List ℕ) (nodes u : ℕ) : Type 0 where
  pub table : starts ≡ row_starts
  pub row_at : RowAt stops nodes u
  pub apart : RanksApart rank nodes
  pub room : row_start (nodes - 1) ≤ length area

abbrev pub PairsTo : Network → Tree → List ℕ → List ℕ → ℕ → ℕ → ℕ → List ℕ → Type 0
PairsTo net t links rank nodes u v area = (x y : ℕ) → 0 < x → x < y → y < nodes → passed u v x y
    → entry area (slot_of_ranks (entry rank x) (entry rank y)) ≡ weight_of net t (handle_at links x y)

pub record BehindPairs (nodes : ℕ) (before after : List ℕ) : Type 0 where
  pub same_length : length after ≡ length before
  pub same : (i : ℕ) → row_start (nodes - 1) ≤ i → entry after i ≡ entry before i

pub record RowWritten (figures : Figures) (stops rank : List ℕ) (nodes u : ℕ) (before after : List ℕ) : Type 0 where
  pub behind : BehindPairs nodes before after
  pub more : (net : Network) (t : Tree) (place node links : List ℕ) → RowHeld net t place node stops links u figures → net.nodes ≡ nodes
      → PairsTo net t links rank nodes (u + 1) nodes before → PairsTo net t links rank nodes u nodes after

-- ---- a whole tree

pub record PairsWritable (area : List ℕ) (links : Links) (index : Index) (nodes : ℕ) (r : Ranked) : Type 0 where
  pub searchable : Searchable links index r.places nodes
  pub apart : RanksApart r.rank nodes
  pub room : row_start (nodes - 1) ≤ length area

abbrev pub PairsLeft : Network → Tree → List ℕ → List ℕ → Type 0
PairsLeft net t before after = after ≡ written (pair_weights net t) before
