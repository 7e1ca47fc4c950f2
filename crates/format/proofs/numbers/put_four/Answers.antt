-- `numbers::put_four` meets its contract: the bytes of the number stand over those of the area. Assumes nothing.
use mathlib.Core.Path.{◌∙◌}
use Rattle.format.proofs.NumberLaws.{four-bytes, written-over}
use Rattle.format.proofs.numbers.put_four.Goals as goal

pub returns : goal.returns
returns c =
    written-over c.args.at 4 c.args.v c.args.area.now c.copy_from_slice.ensures.after (c.to_le_bytes.ensures ∙ four-bytes c.args.v)
