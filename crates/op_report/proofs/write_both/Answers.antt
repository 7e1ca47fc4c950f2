-- `op_report::write_both` meets its contract: what it writes are the side's bytes and the fields of the answer. Assumes nothing.
use mathlib.Core.Path.{sym, ap, ◌∙◌}
use Rattle.sheet.specs.Bytes.{Bytes}
use Rattle.sheet.specs.Sheet.{current}
use Rattle.sheet.specs.Areas.{written}
use Rattle.write_areas.proofs.WordLaws.{put_first}
use Rattle.op_report.proofs.ReportLaws.{report-fields}
use Rattle.op_report.proofs.write_both.Goals as goal

pub returns : goal.returns
returns c =
    let a = c.args in
    record {
      side_is = λ answer says. c.put_side.ensures answer.best.side says.best.side_is ∙ put_first answer.best.side a.side.now;
      report_is = λ answer says. c.write_report.ensures
          ∙ ap (λ (bs : Bytes). written bs a.report.now)
          (report-fields a.a.best.found answer says.best.says current _ _ _ (sym says.verdict ∙ sym c.from.ensures) c.second_link.ensures (sym says.floor));
    }
