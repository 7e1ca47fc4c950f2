-- `bit_table::next_bit` meets its contract. The loop's invariant: no bit from `from` to q is set.
-- Assumes nothing.
use Prim.Native.Nat.{ℕ, ◌-◌, ◌≤◌, ◌<◌}
use mathlib.Core.Path.{◌≡◌}
use mathlib.Core.Bool.{false}
use Rattle.bit_table.specs.Bits.{bit_of}
use Rattle.bit_table.proofs.next_bit.Given as goal

abbrev pub invariant-loop-q : goal.invariant-loop-q
invariant-loop-q l = (l.from ≤ l.q) × (l.q ≤ l.end) × ((k : ℕ) → l.from ≤ k → k < l.q → bit_of l.words k ≡ false)

abbrev pub decreases-loop-q : goal.decreases-loop-q
decreases-loop-q l = l.end - l.q
