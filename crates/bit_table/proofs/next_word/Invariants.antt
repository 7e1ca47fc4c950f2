-- `bit_table::next_word` meets its contract. The loop's invariant: every word from `from` to w is 0.
-- Assumes nothing.
use Rattle.bit_table.specs.Bits.{WordsClear}
use Rattle.bit_table.proofs.next_word.Given as goal

abbrev pub invariant-loop-w : goal.invariant-loop-w
invariant-loop-w l = WordsClear l.words l.from l.w
