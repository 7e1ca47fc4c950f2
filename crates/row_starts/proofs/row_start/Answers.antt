-- The table of the code is the table of the rule: one computed test, since both sides of `row_starts-at` are compared by computing, and that law.
use borrow.Author.Rules.{rules}
use Rattle.pairs.specs.Slots.{row_starts}
use Rattle.pairs.proofs.SlotLaws.{row_starts-at}
use Rattle.row_starts.proofs.row_start.Goals as goal

pub returns : goal.returns
unfolding row_starts
returns c = row_starts-at c.args.rank (search rules)
