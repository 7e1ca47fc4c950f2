-- What an answer by value says. Assumes nothing.
--   AnswerSays r a   the struct r says the answer a: its candidate with the side, its floor and its verdict
use Rattle.std.specs.Prelude.{◌≡◌}
use Rattle.cuts.specs.Answer.{Answer}
use Rattle.packing.specs.Verdicts.{verdict_number}
use Rattle.search_sheet.specs.Reported.{ReportedSays}
use Rattle.search_answer.specs.declared.Answer as struct

pub record AnswerSays (r : struct.Answer) (a : Answer) : Type 0 where
  pub best : ReportedSays r.best a.best
  pub floor : r.floor ≡ a.floor
  pub verdict : verdict_number r.verdict ≡ a.verdict
