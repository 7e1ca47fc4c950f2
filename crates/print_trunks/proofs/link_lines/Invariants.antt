-- `print_trunks::link_lines` meets its contract. The loop's invariant: the lines of the links in front of `link` are printed, and took at most
-- 11 bytes each. Assumes nothing.
use Prim.Native.Nat.{◌*◌}
use lib.ListN.{take}
use Rattle.print_text.specs.Line.{PutIn}
use Rattle.print_trunks.specs.Output.{lines_from, most_line}
use Rattle.print_trunks.proofs.link_lines.Given as goal

abbrev pub invariant-loop-link : goal.invariant-loop-link
invariant-loop-link l = PutIn (l.link * most_line) l.initial.printer (lines_from 0 (take l.link l.numbers)) l.printer
