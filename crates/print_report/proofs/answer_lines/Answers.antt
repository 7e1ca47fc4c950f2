-- `print_report::answer_lines` meets its contract: the line of the report, and behind it the line of the side. Assumes nothing.
use Rattle.sheet.specs.Sheet.{current}
use Rattle.print_report.proofs.OutputLaws.{answer_lines-put}
use Rattle.print_report.proofs.answer_lines.Goals as goal

pub returns : goal.returns
returns c =
    let a = c.args in
    answer_lines-put current _ a.side.now a.report.now c.read_report.ensures c.answer_line.ensures c.side_line.ensures
