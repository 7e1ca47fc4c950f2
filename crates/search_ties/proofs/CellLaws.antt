-- The cells of a tree's links and pairs by rank, and its places: the handle of two places is that of the cell of their ranks, which is one
-- of the table's, and each cell of the table is that of two places.
-- Assumes nothing.
use Prim.Native.Nat.{ℕ, ◌-◌, ◌/◌, ◌%◌, ◌≤◌, ◌<◌, min, max}
use mathlib.Core.Path.{◌≡◌, sym, ap, ap₂, ◌∙◌}
use mathlib.Core.Bool.{true, and-eq-true_iff}
use mathlib.Core.List.{List}
use native.Mathlib.Omega.{arith}
use lib.ListN.{length}
use lib.Dec.{leb, ltb}
use borrow.Author.Tests.{leb-true, ltb-true, le-leb, lt-ltb}
use Rattle.cuts.specs.Network.{Network, Tree}
use Rattle.cuts.specs.Tree.{member_count}
use Rattle.cuts.specs.Candidate.{member_links}
use Rattle.cuts.specs.Limits.{most_nodes}
use Rattle.cuts.proofs.SelectLaws.{members-length}
use Rattle.arrays.specs.Lists.{entry}
use Rattle.search_order.specs.Choice.{chosen}
use Rattle.search_order.specs.Visits.{handle_at}
use Rattle.tree_ranks.specs.Ranks.{RanksOf}
use Rattle.tree_ranks.proofs.MemberLaws.{rank_in, handle-ranks, ranks-placed}
use Rattle.bit_table.specs.Cells.{is_cell, cell_handle}
use Rattle.search_ties.specs.Ties.{cell_of, cell_at}

-- ---- cells

module _ (a b : ℕ) (s : a < most_nodes) (r : b < most_nodes) where
  cell_row : cell_of a b / most_nodes ≡ min a b
  cell_row = omega arith

  cell-column : cell_of a b % most_nodes ≡ max a b
  cell-column = omega arith

  cell_in : (m : ℕ) → a < m → b < m → is_cell m (cell_of a b) ≡ true
  cell_in m c d = rw (cell_row, cell-column, le-leb (min a b) (max a b) (omega arith), lt-ltb (max a b) m (omega arith))

-- ---- places

module _ {net : Network} {t : Tree} {links at rank : List ℕ} (few : net.nodes ≤ most_nodes) (counted : member_count net t ≡ net.nodes - 1)
    (h : RanksOf net t links at rank) where
  rank_small : (x : ℕ) → 0 < x → x < net.nodes → entry rank x < most_nodes
  rank_small x z b = let r = h.ranked x z b in omega arith

  module _ (x y : ℕ) (z : 0 < x) (b : x < net.nodes) (w : 0 < y) (d : y < net.nodes) where
    -- the handle of two places is that of their ranks' cell
    pub cell-handle : cell_handle (member_links net t) (cell_at rank x y) ≡ handle_at links x y
    cell-handle =
        let ms = member_links net t in
        let e = cell_row (entry rank x) (entry rank y) (rank_small x z b) (rank_small y w d) in
        let f = cell-column (entry rank x) (entry rank y) (rank_small x z b) (rank_small y w d) in
        ap₂ chosen (ap (entry ms) e) (ap (entry ms) f) ∙ sym (handle-ranks counted h x y z b w d)

    pub cell-is : is_cell (length (member_links net t)) (cell_at rank x y) ≡ true
    cell-is =
        cell_in (entry rank x) (entry rank y) (rank_small x z b) (rank_small y w d) (length (member_links net t)) (rank_in counted h x z b) (rank_in counted h y w d)

  -- each cell is that of two places
  pub cell-every : (q : ℕ) → is_cell (length (member_links net t)) q ≡ true
      → (x : ℕ) × (y : ℕ) × (0 < x) × (x ≤ y) × (y < net.nodes) × (cell_at rank x y ≡ q)
  cell-every q e =
      let m = length (member_links net t) in
      let p = (and-eq-true_iff (leb (q / most_nodes) (q % most_nodes)) (ltb (q % most_nodes) m)).0 e in
      let l = ltb-true (q % most_nodes) m p.1 in
      let c = members-length net t ∙ counted in
      let k = ranks-placed counted h (q / most_nodes) (q % most_nodes) (leb-true _ _ p.0) (omega arith) in
      (k.0, k.1, k.2, k.3, k.4, omega (arith, k.5, k.6))
