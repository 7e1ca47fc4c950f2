-- `place_layers::sum_layers` meets its contract. The loop's invariant: the words before i are added up, and the rest is as it was.
-- Assumes nothing.
use Prim.Native.Nat.{ℕ, ◌-◌, ◌≤◌, ◌<◌}
use mathlib.Core.Path.{◌≡◌}
use lib.Bits.{bit_xor}
use lib.ListN.{length}
use Rattle.arrays.specs.Lists.{entry}
use Rattle.place_layers.specs.Layers.{layer_words, layers_length}
use Rattle.place_layers.proofs.sum_layers.Given as goal

abbrev pub invariant-loop-i : goal.invariant-loop-i
invariant-loop-i l =
    (length l.layers ≡ layers_length) × ((k : ℕ) → k < layer_words → entry l.layers k ≡ entry l.initial.layers k)
    × ((k : ℕ) → k < l.i → layer_words ≤ k → entry l.layers k ≡ bit_xor (entry l.initial.layers k) (entry l.layers (k - layer_words)))
    × ((k : ℕ) → l.i ≤ k → entry l.layers k ≡ entry l.initial.layers k)
