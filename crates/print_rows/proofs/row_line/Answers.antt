-- What is left to prove of `row_line`: a number of at most 5 digits and the line feed are a line without fields. Assumes nothing.
use mathlib.Core.Path.{subst}
use native.Mathlib.Omega.{arith}
use Rattle.print_text.specs.Line.{PutIn}
use Rattle.print_text.proofs.DecimalLaws.{few_digits}
use Rattle.print_text.proofs.LineLaws.{put-none, put-line}
use Rattle.print_rows.specs.Output.{row_line, most_line}
use Rattle.print_rows.proofs.row_line.Goals as goal

pub returns : goal.returns
unfolding row_line
returns c =
    subst (λ x. PutIn most_line c.args.printer.now (row_line x) c.put_byte.new.self) c.row_formula.ensures
    (put-line c.put_decimal.ensures (put-none _) c.put_byte.ensures (grind (arith, few_digits)))
