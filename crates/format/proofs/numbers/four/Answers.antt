-- `numbers::four` meets its contract: the number of four bytes is their sum, each worth 256 times the one before it. Assumes nothing.
use mathlib.Core.Path.{◌∙◌}
use Rattle.format.proofs.NumberLaws.{number-four}
use Rattle.format.proofs.numbers.four.Goals as goal

pub returns : goal.returns
returns c = c.from_le_bytes.ensures ∙ number-four c.args.at c.args.s.now
