-- What is left to prove of `answer_line`: the keyword, seven fields and the line feed are a line. Assumes nothing.
use native.Mathlib.Omega.{arith}
use lib.Dec.{eqb}
use Rattle.sheet.specs.Areas.{no_second}
use Rattle.sheet.proofs.AreaLaws.{first_link-cond}
use Rattle.print_text.proofs.LineLaws.{put-none, put-first, put-line}
use Rattle.print_text.proofs.DecimalLaws.{few_digits}
use Rattle.print_report.proofs.answer_line.Goals as goal

pub put_field-requires-6 : goal.put_field-requires-6
put_field-requires-6 c = grind (arith, few_digits, c.put_second.ensures 0)

pub put_byte-requires : goal.put_byte-requires
put_byte-requires c = grind (arith, few_digits, c.put_second.ensures 0)

pub returns : goal.returns
returns c =
    let r = c.args.r in
    let second = c.put_second.ensures r.first in
    rw (first_link-cond (eqb r.second no_second) r.first r.second) (put-line c.put_word.ensures (
    put-first c.put_field.ensures (
    put-first c.put_field-2.ensures (
    put-first c.put_field-3.ensures (
    put-first c.put_field-4.ensures (
    put-first c.put_field-5.ensures (
    put-first second.put (
    put-first c.put_field-6.ensures (put-none _)))))))) c.put_byte.ensures (grind (arith, few_digits, second.few)))
