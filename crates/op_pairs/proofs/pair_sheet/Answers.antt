-- `op_pairs::pair_sheet` meets its contract: what the sheet's reading says decides first, and of a network that was read the tree's number and
-- the area's room.
-- Assumes nothing.
use Rattle.std.proofs.lemmas.Result.{err_from_is_err_and}
use Rattle.read_sheet.proofs.NetworkLaws.{was_read, was_refused, sheet-held}
use Rattle.op_pairs.proofs.StepLaws.{sheet-refused, sheet-read}
use Rattle.op_pairs.proofs.pair_sheet.Goals as goal

pub invariant_of-n : goal.invariant_of-n
invariant_of-n c = record { held = sheet-held c.read_sheet.ensures c.in_ok-layout.was }

pub returns : goal.returns
returns c =
    let a = c.args in
    sheet-read a.sheet.now a.tree a.area.now (was_read c.read_sheet.ensures c.in_ok-layout.was) c.pair_network.ensures

pub returns-in_err-layout : goal.returns-in_err-layout
returns-in_err-layout c =
    let a = c.args in
    let p = err_from_is_err_and c.from_residual.result c.from_residual.ensures.1 in
    rw (p.1, p.2) (sheet-refused a.sheet.now a.tree a.area.now (was_refused c.read_sheet.ensures c.in_err-layout.was))
