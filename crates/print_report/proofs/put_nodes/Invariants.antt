-- `print_report::put_nodes` meets its contract. The loop's invariant: the nodes below x whose bits are set are printed, and they took no more
-- than their room. Assumes nothing.
use Rattle.sheet.specs.Bytes.{map_bit}
use Rattle.print_text.specs.Line.{fields_text, PutIn}
use Rattle.print_report.proofs.NodeLaws.{node_fields, room}
use Rattle.print_report.proofs.put_nodes.Given as goal

abbrev pub invariant-loop-x : goal.invariant-loop-x
invariant-loop-x l = PutIn (room l.x) l.initial.printer (fields_text (node_fields l.x (map_bit l.side))) l.printer
