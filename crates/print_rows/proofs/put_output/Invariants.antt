-- `print_rows::put_output` meets its contract. The loop's invariant: the lines of the first ranks are printed, and took at most 6 bytes each.
-- Assumes nothing.
use Prim.Native.Nat.{◌*◌}
use lib.ListN.{take}
use Rattle.pairs.specs.Slots.{row_starts}
use Rattle.print_text.specs.Line.{PutIn}
use Rattle.print_rows.specs.Output.{row_lines, most_line}
use Rattle.print_rows.proofs.put_output.Given as goal

abbrev pub invariant-loop-rank : goal.invariant-loop-rank
invariant-loop-rank l = PutIn (l.rank * most_line) l.initial.printer (row_lines (take l.rank row_starts)) l.printer
