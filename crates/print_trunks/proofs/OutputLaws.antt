-- What is printed of what the cable crew's reader leaves behind: the lines of the trunk numbers in the area, or that of the refusal.
-- Assumes nothing.
use Prim.Native.Nat.{ℕ, ◌≤◌}
use mathlib.Core.Path.{◌≡◌, sym, ap, ap₂, ◌∙◌}
use mathlib.Core.List.{List, []}
use native.Mathlib.Omega.{arith}
use lib.ListN.{length, take, drop}
use lib.Seq.{take_at}
use Rattle.cuts.specs.Network.{Network, link_count}
use Rattle.sheet.specs.Bytes.{Bytes, number}
use Rattle.sheet.specs.Reading.{Reading, accepted, refused, number_of}
use Rattle.sheet.specs.Sheet.{Format}
use Rattle.sheet.specs.Areas.{written}
use Rattle.sheet.specs.Trunks.{trunks_from, trunks}
use Rattle.sheet.proofs.Acceptance.{decode-zero}
use Rattle.sheet.proofs.TrunkLaws.{trunks-refused, trunks_from-length, trunks-accepted}
use Rattle.print_text.specs.Line.{refused_line}
use Rattle.op_trunks.specs.TrunksRead.{TrunksRead}
use Rattle.op_trunks.proofs.NumberLaws.{header_links}
use Rattle.print_trunks.specs.Output.{lines_from, output}

module _ (f : Format) (sheet : Bytes) {numbers numbers' : List ℕ} {n : ℕ} (said : TrunksRead f sheet numbers numbers' n) where
  -- where they were read, the area has as many as the header counts links, and these are printed
  pub accepted-output : n ≡ 0 → (5 ≤ length sheet) × (number 2 (drop 2 sheet) ≤ 2048) × (lines_from 0 (take (number 2 (drop 2 sheet)) numbers') ≡ output (trunks f sheet))
  accepted-output z =
      let d = decode-zero f sheet (sym (said.number ∙ trunks-refused f sheet) ∙ z) in
      let net : Network = d.0 in
      let h = header_links f sheet net [] d.1 in
      let t = trunks-accepted f sheet net [] d.1 in
      let ts : List ℕ = trunks_from f (link_count net) 0 (drop 5 sheet) in
      let front : numbers' ≡ written ts numbers = rw t at said.numbers_are in
      let size = trunks_from-length f (link_count net) 0 (drop 5 sheet) in
      (h.whole, omega (arith, h.says, h.few), rw t (ap (lines_from 0) (ap₂ take h.says front ∙ take_at ts _ (link_count net) size)))

  pub refused-output : (n ≡ 0 → ⊥) → refused_line n ≡ output (trunks f sheet)
  refused-output z = step (trunks f sheet) said.number
    where
      step : (r : Reading (List ℕ)) → n ≡ number_of r → refused_line n ≡ output r
      step (accepted ts rest) e = absurd (z e)
      step (refused m) e = ap refused_line e
