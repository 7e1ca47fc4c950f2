-- `op_thickness::sheet_thickness` meets its contract: what the sheet's reading says decides, and of a network that was read the link and the
-- wanted weight. Assumes nothing.
use Rattle.std.proofs.lemmas.Result.{err_from_is_err_and}
use Rattle.read_sheet.proofs.NetworkLaws.{was_read, was_refused, sheet-held}
use Rattle.op_thickness.proofs.StepLaws.{sheet-refused, sheet-read}
use Rattle.op_thickness.proofs.sheet_thickness.Goals as goal

pub network_thickness-requires : goal.network_thickness-requires
network_thickness-requires c = sheet-held c.read_sheet.ensures c.in_ok-layout.was

pub returns : goal.returns
returns c =
    let a = c.args in
    sheet-read a.sheet.now a.link a.wanted _ (was_read c.read_sheet.ensures c.in_ok-layout.was) c.network_thickness.ensures

pub returns-in_err-layout : goal.returns-in_err-layout
returns-in_err-layout c =
    let a = c.args in
    let p = err_from_is_err_and c.from_residual.result c.from_residual.ensures.1 in
    rw (p.1, p.2) (sheet-refused a.sheet.now a.link a.wanted _ (was_refused c.read_sheet.ensures c.in_err-layout.was))
