-- What a report leaves in the two areas. Assumes nothing.
--   Room side report                   both areas have room for what is written
--   AreasWritten r ..                  the areas hold the answer that the struct r says
--   AnswerWritten net ..               they hold the answer of the network
--   SheetReported f ..                 the number is the sheet's, and the areas hold what its reading leaves there
use Rattle.std.specs.Prelude.{ℕ, ◌≤◌, ◌≡◌, length}
use Rattle.cuts.specs.Network.{Network}
use Rattle.cuts.specs.Answer.{Answer}
use Rattle.sheet.specs.Bytes.{Bytes}
use Rattle.sheet.specs.Reading.{number_of}
use Rattle.sheet.specs.Sheet.{Format, current, decode}
use Rattle.sheet.specs.Areas.{side_length, side_bytes, report_length, report_bytes, written, side_after, report_after, side_left, report_left}
use Rattle.search_answer.specs.Answered.{AnswerSays}
use Rattle.search_answer.specs.declared.Answer as struct

pub record Room (side report : Bytes) : Type 0 where
  pub for_side : side_length ≤ length side
  pub for_report : report_length current ≤ length report

-- ---- afterwards

pub record AreasWritten (r : struct.Answer) (side report side' report' : Bytes) : Type 0 where
  pub side_is : (a : Answer) → AnswerSays r a → side' ≡ written (side_bytes a.best.side) side
  pub report_is : (a : Answer) → AnswerSays r a → report' ≡ written (report_bytes current a) report

pub record AnswerWritten (net : Network) (side report side' report' : Bytes) : Type 0 where
  pub side_is : side' ≡ side_after current net side
  pub report_is : report' ≡ report_after current net report

pub record SheetReported (f : Format) (sheet side report side' report' : Bytes) (n : ℕ) : Type 0 where
  pub number : n ≡ number_of (decode f sheet)
  pub side_is : side' ≡ side_left f side (decode f sheet)
  pub report_is : report' ≡ report_left f report (decode f sheet)
