-- What the entry returns and leaves in the two areas, for every sheet and every pair of areas, by the format. Assumes nothing.
--   area_checks f side report     refusals 1 and 2, of the areas' lengths
--   reading f sheet side report   the network of the sheet, or the first refusal: 1, 2, or the sheet's
--   Reported f ..                 all that the entry promises, where the areas held `side` and `report`, hold side' and report'
--                                 afterwards, and n is returned
use Rattle.std.specs.Prelude.{ℕ, ◌≡◌, List, [], ◌∷◌, length, ltb}
use Rattle.cuts.specs.Network.{Network}
use Rattle.cuts.specs.Demands.{Owed}
use Rattle.sheet.specs.Bytes.{Bytes}
use Rattle.sheet.specs.Reading.{Check, check, first_failing, Reading, accepted, unless, number_of}
use Rattle.sheet.specs.Sheet.{Format, decode}
use Rattle.sheet.specs.Areas.{side_length, report_length, side_left, report_left, answer_read}

unfoldable pub area_checks : Format → Bytes → Bytes → List Check
area_checks f side report = check 1 (ltb (length side) side_length) ∷ check 2 (ltb (length report) (report_length f)) ∷ []

unfoldable pub reading : Format → Bytes → Bytes → Bytes → Reading Network
unfolding first_failing area_checks decode
reading f sheet side report = unless (first_failing (area_checks f side report)) (decode f sheet)

pub record Reported (f : Format) (sheet side report side' report' : Bytes) (n : ℕ) : Type 0 where
  -- demand 1: each refusal in just the situation and order listed for it
  pub number : n ≡ number_of (reading f sheet side report)
  -- both areas hold what the definitions give, and are as they were after a refusal and behind the bytes written
  pub side_is : side' ≡ side_left f side (reading f sheet side report)
  pub report_is : report' ≡ report_left f report (reading f sheet side report)
  -- demands 2 and 3, of the network that the sheet gives and of what is read back from the bytes of the areas
  pub owed : n ≡ 0 → (net : Network) × (decode f sheet ≡ accepted net []) × Owed f.rules net (answer_read f net.nodes side' report')
