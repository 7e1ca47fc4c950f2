-- `bit_table::flip_bit` meets its contract: one word is written, and one bit of it turns over.
-- Assumes nothing.
use Prim.Native.Nat.{◌%◌, ◌/◌}
use mathlib.Core.Path.{◌∙◌, ap}
use mathlib.Core.Bool.{xor}
use native.Mathlib.Omega.{arith}
use Rattle.cuts.proofs.FlagLaws.{xor-false}
use Rattle.arrays.specs.Lists.{entry}
use Rattle.bit_table.specs.Bits.{word_bits, word_bit}
use Rattle.bit_table.proofs.BitLaws.{word_bit-xor, word_bit-one, bit_of-set}
use Rattle.bit_table.proofs.flip_bit.Goals as goal

pub returns : goal.returns
returns c =
    let a = c.args in
    let w = entry a.words.now (a.q / word_bits) in
    bit_of-set xor xor-false a.words.now a.q _ c.requires
    (λ j. word_bit-xor w _ j ∙ ap (xor (word_bit w j)) (word_bit-one (a.q % word_bits) j (omega arith)))
