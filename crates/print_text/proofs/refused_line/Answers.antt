-- What is left to prove of `refused_line`: the keyword, one field of at most 10 digits and the line feed are a line. Assumes nothing.
use native.Mathlib.Omega.{arith}
use Rattle.print_text.specs.Line.{refused_line}
use Rattle.print_text.proofs.LineLaws.{put-none, put-first, put-line}
use Rattle.print_text.proofs.DecimalLaws.{few_digits}
use Rattle.print_text.proofs.refused_line.Goals as goal

pub returns : goal.returns
unfolding refused_line
returns c = put-line c.put_word.ensures (put-first c.put_field.ensures (put-none _)) c.put_byte.ensures (grind (arith, few_digits))
