-- With row 1 done all candidates of the tree are passed, and what is marked are the cells of the light ones by rank.
-- Assumes nothing.
use Prim.Native.Nat.{ℕ, ◌-◌, ◌≤◌, ◌<◌}
use mathlib.Core.Path.{◌≡◌, sym, ap, ◌∙◌, subst}
use mathlib.Core.Bool.{true, ◌&&◌, and-eq-true_iff}
use mathlib.Core.List.{List}
use native.Mathlib.Omega.{arith}
use lib.ListN.{length}
use lib.Dec.{leb}
use borrow.Author.Tests.{leb-true, le-leb}
use Rattle.cuts.specs.Network.{Network, Tree}
use Rattle.cuts.specs.Tree.{member_count}
use Rattle.cuts.specs.Candidate.{weight_of, member_links}
use Rattle.cuts.specs.Limits.{most_nodes}
use Rattle.cuts.proofs.FlagLaws.{agree}
use Rattle.search_order.proofs.PassedLaws.{passed-all}
use Rattle.tree_ranks.specs.Ranks.{RanksOf}
use Rattle.bit_table.specs.Bits.{bit_of}
use Rattle.bit_table.specs.Cells.{is_cell, cell_handle, Tabled}
use Rattle.search_ties.specs.Ties.{InRows, LightMarked}
use Rattle.search_ties.proofs.CellLaws.{cell-handle, cell-is, cell-every}

module _ {net : Network} {t : Tree} {links at rank : List ℕ} {limit u : ℕ} {table : List ℕ} (few : net.nodes ≤ most_nodes)
    (counted : member_count net t ≡ net.nodes - 1) (r : RanksOf net t links at rank) (end : u ≤ 1)
    (h : LightMarked net t links rank (InRows net.nodes u net.nodes) limit table) where
  all-passed : (x y : ℕ) → 0 < x → x ≤ y → y < net.nodes → InRows net.nodes u net.nodes x y
  all-passed x y z l b = (z, l, b, passed-all u net.nodes x y net.nodes end (omega arith) z b)

  -- a bit that is set, and one that is to be
  marked-cell : (q : ℕ) → bit_of table q ≡ true
      → (is_cell (length (member_links net t)) q && leb (weight_of net t (cell_handle (member_links net t) q)) limit) ≡ true
  marked-cell q e =
      let m = h.of q e in
      let x = m.0 in
      let y = m.1 in
      let p = m.2 in
      let z = p.0 in
      let b : x < net.nodes = omega (arith, p.1, p.2) in
      let w : 0 < y = omega (arith, p.0, p.1) in
      let s = cell-handle few counted r x y z b w p.2 in
      (and-eq-true_iff _ _).1 (
        subst (λ (i : ℕ). is_cell (length (member_links net t)) i ≡ true) m.4 (cell-is few counted r x y z b w p.2),
        le-leb _ _ (subst (λ (i : ℕ). weight_of net t (cell_handle (member_links net t) i) ≤ limit) m.4 (rw s m.3)),
      )

  cell-marked : (q : ℕ) → (is_cell (length (member_links net t)) q && leb (weight_of net t (cell_handle (member_links net t) q)) limit) ≡ true
      → bit_of table q ≡ true
  cell-marked q e =
      let p = (and-eq-true_iff (is_cell (length (member_links net t)) q) (leb (weight_of net t (cell_handle (member_links net t) q)) limit)).0 e in
      let c = cell-every few counted r q p.0 in
      let x = c.0 in
      let y = c.1 in
      let b : x < net.nodes = omega (arith, c.3, c.4) in
      let w : 0 < y = omega (arith, c.2, c.3) in
      let f = ap (weight_of net t) (sym (cell-handle few counted r x y c.2 b w c.4) ∙ ap (cell_handle (member_links net t)) c.5) in
      subst (λ (i : ℕ). bit_of table i ≡ true) c.5 (h.every x y (all-passed x y c.2 c.3 c.4) (rw f (leb-true _ _ p.1)))

  pub marked_end : Tabled net t (λ g. leb (weight_of net t g) limit) table
  marked_end q = agree _ _ (cell-marked q) (marked-cell q)
