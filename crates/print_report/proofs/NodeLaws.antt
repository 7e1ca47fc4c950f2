-- The nodes of a side, one node at a time: a node whose bit is set is one field more, any other none, and all nodes below x take no more
-- bytes than `room x`: a node takes a space and one digit, one digit more from 10 on and one more from 100 on. Assumes nothing.
use Prim.Native.Nat.{ℕ, ◌+◌, ◌*◌, ◌-◌, ◌≤◌, ◌<◌}
use native.Mathlib.Omega.{arith}
use native.Mathlib.Numerals.{add-one}
use native.Mathlib.Decide.{dec_lt}
use mathlib.Core.Path.{◌≡◌, ap}
use mathlib.Core.Bool.{Bool, true, false}
use mathlib.Core.List.{List, [], ◌∷◌, ◌++◌, map, map-append, append-nil}
use lib.ListN.{length}
use Rattle.cuts.specs.Sums.{select}
use Rattle.print_text.specs.Decimal.{Text, decimal}
use Rattle.print_text.proofs.DecimalLaws.{decimal-most}

-- ---- which fields there are

abbrev pub node_fields : ℕ → (ℕ → Bool) → List Text
node_fields x f = map decimal (select x f)

pub node_fields-set : (x : ℕ) (f : ℕ → Bool) → f x ≡ true → node_fields (x + 1) f ≡ node_fields x f ++ decimal x ∷ []
unfolding select
node_fields-set x f h = rw (add-one x, h) (map-append decimal (select x f) (x ∷ []))

pub node_fields-unset : (x : ℕ) (f : ℕ → Bool) → f x ≡ false → node_fields (x + 1) f ≡ node_fields x f
unfolding select
node_fields-unset x f h = rw (add-one x, h) (ap (map decimal) (append-nil (select x f)))

-- ---- how many bytes they take

abbrev pub room : ℕ → ℕ
room x = 2 * x + (x - 10) + (x - 100)

pub room-step : (x : ℕ) → x < 256 → room x + 1 + length (decimal x) ≤ room (x + 1)
room-step x h = step (dec_lt x 10) (dec_lt x 100)
  where
    step : Dec (x < 10) → Dec (x < 100) → room x + 1 + length (decimal x) ≤ room (x + 1)
    step (yes a) b = omega (arith, decimal-most 0 x a)
    step (no a) (yes b) = omega (arith, decimal-most 1 x b)
    step (no a) (no b) = omega (arith, decimal-most 2 x (omega arith))
