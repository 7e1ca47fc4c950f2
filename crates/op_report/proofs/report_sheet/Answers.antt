-- `op_report::report_sheet` meets its contract: what the sheet's reading says decides; a network that was read is accepted, and its answer
-- is written. Assumes nothing.
use Rattle.read_sheet.proofs.NetworkLaws.{sheet-held}
use Rattle.op_report.proofs.report_sheet.Goals as goal

pub invariant_of-n : goal.invariant_of-n
invariant_of-n c = record { held = sheet-held c.read_sheet.ensures c.in_ok-layout.was }
