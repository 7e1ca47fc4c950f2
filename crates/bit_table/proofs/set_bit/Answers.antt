-- `bit_table::set_bit` meets its contract: one word is written, and one bit of it is set.
-- Assumes nothing.
use Prim.Native.Nat.{◌%◌, ◌/◌}
use mathlib.Core.Path.{◌∙◌, ap}
use mathlib.Core.Bool.{◌||◌, or-false}
use native.Mathlib.Omega.{arith}
use Rattle.arrays.specs.Lists.{entry}
use Rattle.bit_table.specs.Bits.{word_bits, word_bit}
use Rattle.bit_table.proofs.BitLaws.{word_bit-or, word_bit-one, bit_of-set}
use Rattle.bit_table.proofs.set_bit.Goals as goal

pub returns : goal.returns
returns c =
    let a = c.args in
    let w = entry a.words.now (a.q / word_bits) in
    bit_of-set ◌||◌ or-false a.words.now a.q _ c.requires
    (λ j. word_bit-or w _ j ∙ ap (◌||◌ (word_bit w j)) (word_bit-one (a.q % word_bits) j (omega arith)))
