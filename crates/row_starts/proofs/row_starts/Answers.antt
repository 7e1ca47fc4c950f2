-- The table of the code is the table of the rule: one computed test. Assumes nothing.
use mathlib.Core.Path.{refl}
use Rattle.pairs.specs.Slots.{row_starts}
use Rattle.row_starts.proofs.row_starts.Goals as goal

pub returns : goal.returns
unfolding row_starts
returns c = refl
