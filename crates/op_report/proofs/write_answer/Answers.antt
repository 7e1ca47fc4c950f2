-- `op_report::write_answer` meets its contract: the answer is the network's, and both areas are written from it. Assumes nothing.
use Rattle.cuts.specs.Answer.{Answer, answer}
use Rattle.sheet.specs.Sheet.{current}
use Rattle.arrays.specs.Sheets.{network_of}
use Rattle.op_report.proofs.write_answer.Goals as goal

pub returns : goal.returns
unfolding answer
returns c =
    let a = c.args in
    let given : Answer = answer current.rules (network_of a.n.now) in
    let written = c.write_both.ensures in
    record { side_is = written.side_is given c.answer_sheet.ensures; report_is = written.report_is given c.answer_sheet.ensures }
