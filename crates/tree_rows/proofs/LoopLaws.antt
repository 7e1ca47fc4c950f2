-- A loop over the rows, from the last place down: what it keeps at its start, and with each row, beside what it has of the rows so far. And how
-- many columns of a row are left from the next one on.
-- Assumes nothing.
use Rattle.std.proofs.Common.{◌≡◌, ℕ, suc, ◌+◌, ◌<◌, List, sym, ◌∙◌, subst, add-one, arith, ◌-◌, Option, Some, None}
use Rattle.cuts.specs.Network.{Network, Tree}
use Rattle.arrays.specs.Lists.{entry}
use Rattle.arrays.specs.ByNode.{Degrees}
use Rattle.arrays.specs.declared.Index.{Index}
use Rattle.arrays.specs.declared.Links.{Links}
use Rattle.tree_places.specs.declared.Places.{Places}
use Rattle.tree_rows.specs.declared.Figures.{Figures}
use Rattle.tree_rows.specs.Making.{TreeHeld, RowsHeld}
use Rattle.tree_rows.specs.Reading.{RowHeld}
use Rattle.tree_rows.proofs.DegreeLaws.{place-degrees}
use Rattle.tree_rows.proofs.RowLaws.{row_end}

abbrev pub columns_left : ℕ → Option ℕ → ℕ
columns_left nodes (Some v) = nodes - v
columns_left nodes None = 0

module _ {net : Network} {t : Tree} {links : Links} {index : Index} {p : Places} {by_place : List ℕ} {nodes : ℕ} where
  pub rows_start : (degrees : List ℕ) {figures : Figures} → TreeHeld net t links index p by_place nodes → Degrees net degrees
      → ((q : ℕ) → q < nodes → entry figures.degrees q ≡ entry degrees (entry p.node q))
      → RowsHeld net t links index p by_place nodes nodes figures
  rows_start degrees {figures} h d weighed =
      let n = h.indexed.laid.held.sized in
      record {
        tree_held = h;
        degrees = place-degrees h.kept h.indexed.loopless degrees figures.degrees d (λ q b. weighed q (omega arith));
        row = row_end net t _ _ _ _ _ (omega arith);
      }

  -- a row more: what is so of the rows behind x is so of those behind u, the place before x
  pub rows-turn : (X : ℕ → Type 0) {Y : Type 0} {x u : ℕ} {before after : Figures} → 0 < u → x ≡ suc u
      → (RowsHeld net t links index p by_place nodes (suc u) before → RowsHeld net t links index p by_place nodes u after)
      → (RowHeld net t p.place p.node p.stops by_place u after → net.nodes ≡ nodes → X (u + 1) → Y)
      → RowsHeld net t links index p by_place nodes x before × X x
      → RowsHeld net t links index p by_place nodes u after × Y
  rows-turn X {x = x} {u} {before} z q made more o =
      let r = made (subst (λ (i : ℕ). RowsHeld net t links index p by_place nodes i before) q o.0) in
      let h = r.tree_held in (
        r,
        more (record { light = h.indexed.light; kept = h.kept; row = r.row; some = z }) h.indexed.laid.held.sized
            (subst X (q ∙ sym (add-one u)) o.1),
      )
