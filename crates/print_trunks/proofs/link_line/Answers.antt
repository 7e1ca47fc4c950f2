-- What is left to prove of `link_line`: the link's number, of at most 4 digits, stands where a line has its keyword; the trunk number has at
-- most 5. Assumes nothing.
use native.Mathlib.Omega.{arith}
use Rattle.print_text.proofs.DecimalLaws.{decimal-most, few_digits}
use Rattle.print_text.proofs.LineLaws.{put-none, put-first, put-line}
use Rattle.print_trunks.specs.Output.{link_line}
use Rattle.print_trunks.proofs.link_line.Goals as goal

pub put_byte-requires : goal.put_byte-requires
put_byte-requires c = grind (arith, few_digits, decimal-most 3 c.args.link)

pub returns : goal.returns
unfolding link_line
returns c =
    put-line c.put_decimal.ensures (put-first c.put_field.ensures (put-none _)) c.put_byte.ensures (grind (arith, few_digits, decimal-most 3 c.args.link))
