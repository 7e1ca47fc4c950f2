-- `read_links::link_fields` meets its contract: each field is read where the fields before it end, and lies in the record, which lies in
-- the sheet. Assumes nothing.
use native.Mathlib.Omega.{arith}
use lib.ListN.{get_or}
use Rattle.sheet.specs.Sheet.{current}
use Rattle.read_links.proofs.RecordLaws.{current-fields, field_start_end, record_length-at, link_at}
use Rattle.read_links.proofs.link_fields.Goals as goal

pub two_or-requires : goal.two_or-requires
two_or-requires c =
    let a = c.args in
    omega (arith, record_length-at current a.at a.s.now, field_start_end current-fields (get_or a.s.now a.at 0))

pub two_or-requires-2 : goal.two_or-requires-2
two_or-requires-2 c =
    let a = c.args in
    omega (arith, record_length-at current a.at a.s.now, field_start_end current-fields (get_or a.s.now a.at 0))

pub four_or-requires : goal.four_or-requires
four_or-requires c =
    let a = c.args in
    omega (arith, record_length-at current a.at a.s.now, field_start_end current-fields (get_or a.s.now a.at 0))

pub returns : goal.returns
returns c =
    let a = c.args in
    link_at a.at c.from-m.result a.s.now c.from-m.ensures current-fields _ _ c.two_or.ensures c.two_or-2.ensures c.four_or.ensures
