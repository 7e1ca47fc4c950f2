-- `read_links::read_links` meets its contract. The loop's invariant: the arrays hold the first k links, and reading goes on behind them as the
-- definition does; a turn reads the record that the definition reads next. Assumes nothing.
use Rattle.sheet.specs.Sheet.{current}
use Rattle.read_links.proofs.LinksLaws.{LinksRun}
use Rattle.read_links.proofs.read_links.Given as goal

abbrev pub invariant-loop-k : goal.invariant-loop-k
invariant-loop-k l =
    LinksRun current l.s l.from l.nodes l.count l.links.firsts l.links.seconds l.links.weights l.at l.link l.k
