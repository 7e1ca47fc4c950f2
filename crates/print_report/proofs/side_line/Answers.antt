-- What is left to prove of `side_line`: the keyword, the nodes and the line feed are a line, and take no more than 4, 914 and 1 bytes.
-- Assumes nothing.
use mathlib.Core.List.{map}
use native.Mathlib.Omega.{arith}
use Rattle.cuts.specs.Sums.{select}
use Rattle.cuts.specs.Limits.{most_nodes}
use Rattle.sheet.specs.Bytes.{map_bit}
use Rattle.print_text.specs.Decimal.{decimal}
use Rattle.print_text.proofs.LineLaws.{put-line, fields_text-length}
use Rattle.print_report.proofs.side_line.Goals as goal

pub returns : goal.returns
returns c =
    let nodes = c.put_nodes.ensures in
    let fields = map decimal (select most_nodes (map_bit c.args.side.now)) in
    put-line c.put_word.ensures (record { put = nodes.put }) c.put_byte.ensures (omega (arith, fields_text-length fields, nodes.few))
