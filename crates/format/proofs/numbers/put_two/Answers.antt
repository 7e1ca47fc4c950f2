-- `numbers::put_two` meets its contract: the bytes of the number stand over those of the area. Assumes nothing.
use mathlib.Core.Path.{◌∙◌}
use Rattle.format.proofs.NumberLaws.{two-bytes, written-over}
use Rattle.format.proofs.numbers.put_two.Goals as goal

pub returns : goal.returns
returns c =
    written-over c.args.at 2 c.args.v c.args.area.now c.copy_from_slice.ensures.after (c.to_le_bytes.ensures ∙ two-bytes c.args.v)
