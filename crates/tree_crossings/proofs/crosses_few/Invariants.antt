-- `tree_crossings::crosses_few` meets its contract. The loop's invariant: the bits of the words before j are counted, and are at most two.
-- Assumes nothing.
use Prim.Native.Nat.{◌*◌, ◌≤◌}
use mathlib.Core.Path.{◌≡◌}
use Rattle.cuts.specs.Sums.{count_to}
use Rattle.bit_table.specs.Bits.{word_bits}
use Rattle.place_layers.specs.Layers.{oddly}
use Rattle.tree_crossings.proofs.crosses_few.Given as goal

abbrev pub invariant-loop-j : goal.invariant-loop-j
invariant-loop-j l = record {
  counted : l.count ≡ count_to (word_bits * l.j) (oddly l.layers l.a l.b l.c l.d);
  few : l.count ≤ 2;
}
