-- `monitor::report::wcut_report` meets its contract: the areas' lengths first, then what the sheet's reading decides. Assumes nothing.
use mathlib.Core.List.{[]}
use native.Mathlib.Omega.{arith}
use Rattle.sheet.specs.Sheet.{current}
use Rattle.sheet.proofs.AreaLaws.{sheet-owed}
use Rattle.monitor.proofs.EntryLaws.{side-refused, report-refused, sheet-decides}
use Rattle.monitor.proofs.report.wcut_report.Goals as goal

pub returns-then-side-lt-SIDE_LENGTH : goal.returns-then-side-lt-SIDE_LENGTH
returns-then-side-lt-SIDE_LENGTH c =
    let a = c.args in
    rw c.from.ensures (side-refused current a.sheet.now a.side.now a.report.now (omega (arith, c.if-side-lt-SIDE_LENGTH.true)))

pub returns-then-report-lt-REPORT_LENGTH : goal.returns-then-report-lt-REPORT_LENGTH
returns-then-report-lt-REPORT_LENGTH c =
    let a = c.args in
    rw c.from-then-report-lt-REPORT_LENGTH.ensures (report-refused current a.sheet.now a.side.now a.report.now
    (omega (arith, c.if-side-lt-SIDE_LENGTH.false)) (omega (arith, c.if-report-lt-REPORT_LENGTH.true)))

pub returns : goal.returns
returns c =
    let a = c.args in
    rw c.returned.ensures (sheet-decides current a.sheet.now a.side.now a.report.now
    (omega (arith, c.if-side-lt-SIDE_LENGTH.false)) (omega (arith, c.if-report-lt-REPORT_LENGTH.false))
    (λ net e. sheet-owed a.sheet.now (λ k _. omega (arith, c.type_inv.sheet k)) net [] e a.side.now a.report.now) c.report_sheet.ensures)
