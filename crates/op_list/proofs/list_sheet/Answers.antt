-- `op_list::list_sheet` meets its contract: what the sheet's reading says decides first, and of a network that was read the area's room.
-- Assumes nothing.
use mathlib.Core.Path.{sym, ap, subst}
use mathlib.Core.List.{[]}
use Rattle.std.proofs.lemmas.Result.{err_from_is_err_and}
use Rattle.cuts.specs.Network.{Network}
use Rattle.sheet.specs.Reading.{Reading, number_of}
use Rattle.sheet.specs.Sheet.{current}
use Rattle.listing.specs.ListArea.{sides_left, count_left}
use Rattle.listing.proofs.ListAreaLaws.{sheet-refused, sheet-fitting}
use Rattle.format.specs.Refusals.{returned}
use Rattle.read_sheet.proofs.NetworkLaws.{was_read, was_refused, sheet-held}
use Rattle.op_list.specs.Lists.{ListLeft}
use Rattle.op_list.proofs.list_sheet.Goals as goal

pub invariant_of-n : goal.invariant_of-n
invariant_of-n c = record { held = sheet-held c.read_sheet.ensures c.in_ok-layout.was }

pub returns : goal.returns
returns c =
    let a = c.args in
    let e = sheet-fitting current a.sheet.now a.sides.now _ [] (was_read c.read_sheet.ensures c.in_ok-layout.was) in
    let number = returned c.list_network.result in
    subst (λ (r : Reading Network). ListLeft current r a.sides.now c.list_network.new.sides c.list_network.new.count number) (sym e)
    c.list_network.ensures

pub returns-in_err-layout : goal.returns-in_err-layout
returns-in_err-layout c =
    let a = c.args in
    let p = err_from_is_err_and c.from_residual.result c.from_residual.ensures.1 in
    let e = sheet-refused current a.sheet.now a.sides.now _ (was_refused c.read_sheet.ensures c.in_err-layout.was) in
    rw (p.1, p.2) (record { number = sym (ap number_of e); count_is = sym (ap (count_left current) e); sides_is = sym (ap (sides_left current a.sides.now) e) })
