-- What the report has of a cut that was found: its fields are those of the answer that the cut is the candidate of. Assumes nothing.
use Prim.Native.Nat.{ℕ}
use mathlib.Core.Path.{◌≡◌, sym, ap, ◌∙◌}
use mathlib.Core.List.{[], ◌∷◌}
use lib.Dec.{eqb}
use Rattle.cuts.specs.Answer.{Answer}
use Rattle.sheet.specs.Bytes.{field_bytes}
use Rattle.sheet.specs.Sheet.{Format}
use Rattle.sheet.specs.Areas.{report_widths, first_link, second_link, report_bytes}
use Rattle.sheet.proofs.AreaLaws.{first_link-cond}
use Rattle.search_order.specs.Choice.{Says, chosen}
use Rattle.search_order.specs.declared.Found.{Found}

module _ (found : Found) (a : Answer) (says : Says found a.best) where
  pub report-fields : (g : Format) (v s f : ℕ) → a.verdict ≡ v → s ≡ second_link (chosen found.first found.second) → a.floor ≡ f
      → field_bytes (report_widths g) (v ∷ found.tree ∷ found.count ∷ found.first ∷ s ∷ found.weight ∷ f ∷ []) ≡ report_bytes g a
  unfolding report_bytes
  report-fields g v s f verdict second floor =
      let first : found.first ≡ first_link a.best.handle = sym (first_link-cond (eqb found.first found.second) found.first found.second) ∙ ap first_link says.handle in
      let other : s ≡ second_link a.best.handle = second ∙ ap second_link says.handle in
      rw (← verdict, ← floor, says.tree, says.count, first, other, says.weight)
