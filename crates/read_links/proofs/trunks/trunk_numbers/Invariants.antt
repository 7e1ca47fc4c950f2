-- `read_links::trunks::trunk_numbers` meets its contract. The loop's invariant: the area has the trunk numbers of the first k records at its
-- front; each of the others lies in the sheet, since it was read. Assumes nothing.
use Rattle.sheet.specs.Sheet.{current}
use Rattle.read_links.proofs.TrunkLaws.{TrunksRun}
use Rattle.read_links.proofs.trunks.trunk_numbers.Given as goal

abbrev pub invariant-loop-k : goal.invariant-loop-k
invariant-loop-k l = TrunksRun current l.s l.from l.count l.initial.numbers l.numbers l.at l.trunk l.k
