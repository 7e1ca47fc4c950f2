-- `op_list::list_searched` meets its contract: the sides are counted, all of them where the area has room for them, and then they are written.
-- Assumes nothing.
use mathlib.Core.Path.{sym, ap, ◌∙◌}
use mathlib.Core.List.{[]}
use native.Mathlib.Omega.{arith}
use Rattle.sheet.specs.Reading.{number_of}
use Rattle.sheet.specs.Sheet.{current}
use Rattle.listing.specs.ListArea.{sides_left, count_left}
use Rattle.listing.proofs.ListAreaLaws.{fitting-room, fitting-short}
use Rattle.arrays.specs.Sheets.{network_of}
use Rattle.list_trees.specs.Sides.{AllCounted}
use Rattle.list_trees.proofs.StartLaws.{counts-fit, slots-starts}
use Rattle.op_list.proofs.list_searched.Goals as goal
use Rattle.op_list.proofs.list_searched.Goals.{Else-most-total}

-- all sides are counted
counted : (c : Else-most-total) → AllCounted (network_of c.args.n.now.listed.sheet) c.count_sides-total.new.counts c.count_sides-total.new.news c.count_sides-total.result
counted c = c.count_sides-total.ensures.sides_counted.within c.if-most-total.false

pub returns-then-most-total : goal.returns-then-most-total
returns-then-most-total c =
    let old = c.args.sides.now in
    let more = c.count_sides-total.ensures.sides_counted.beyond c.if-most-total.true in
    let e = fitting-short current old (network_of c.args.n.now.listed.sheet) [] (omega arith) in
    record { number = sym (ap number_of e); count_is = sym (ap (count_left current) e); sides_is = sym (ap (sides_left current old) e) }

pub start_slots-requires : goal.start_slots-requires
start_slots-requires c =
    let n = c.args.n.now.listed.sheet in
    counts-fit (network_of n) n.held.accepted (counted (goal.at.start_slots-requires c).Else-most-total)

pub write_sides-requires : goal.write_sides-requires
write_sides-requires c =
    let n = c.args.n.now.listed.sheet in
    let l = c.if-most-total.false in
    let all = counted (goal.at.write_sides-requires c).Else-most-total in
    let k = all.total_is in
    record {
      by_trees = all.by_trees;
      all = c.start_slots.ensures.all;
      starts = slots-starts (network_of n) n.held.accepted all c.start_slots.ensures;
      room = omega arith;
    }

pub returns : goal.returns
returns c =
    let old = c.args.sides.now in
    let l = c.if-most-total.false in
    let k = (counted (goal.at.returns c).Else-most-total).total_is in
    let f = fitting-room current old (network_of c.args.n.now.listed.sheet) [] (omega arith) in
    record {
      number = sym (ap number_of f);
      count_is = k ∙ sym (ap (count_left current) f);
      sides_is = c.write_sides.ensures ∙ sym (ap (sides_left current old) f);
    }
