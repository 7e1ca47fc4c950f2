-- `pair_rows::pair_slot` meets its contract: the higher rank has the row. Assumes nothing.
use Prim.Native.Nat.{ℕ, ◌≤◌, ◌<◌, min, max}
use mathlib.Core.Path.{◌≡◌, ap, ◌∙◌}
use mathlib.Core.List.{List}
use native.Mathlib.Omega.{arith}
use Rattle.pairs.specs.Slots.{row_start, row_starts}
use Rattle.pairs.proofs.SlotLaws.{row_start-most, row_starts-at}
use Rattle.arrays.specs.Lists.{entry}
use Rattle.pair_rows.proofs.pair_slot.Goals as goal

-- what the table has
start-at : (starts : List ℕ) → starts ≡ row_starts → (r : ℕ) → r < 255 → (entry starts r ≡ row_start r) × (entry starts r ≤ 32385)
start-at starts e r b =
    let k : entry starts r ≡ row_start r = ap (λ (l : List ℕ). entry l r) e ∙ row_starts-at r b in
    let m = row_start-most r (omega arith) in
    (k, omega arith)

pub returns-then-a-b : goal.returns-then-a-b
returns-then-a-b c =
    let t = (start-at c.args.starts.now c.requires.table c.args.b c.requires.second).0 in
    let h : max c.args.a c.args.b ≡ c.args.b = omega arith in
    let l : min c.args.a c.args.b ≡ c.args.a = omega arith in
    rw (h, l) (omega arith)

pub returns-else-a-b : goal.returns-else-a-b
returns-else-a-b c =
    let t = (start-at c.args.starts.now c.requires.table c.args.a c.requires.first).0 in
    let h : max c.args.a c.args.b ≡ c.args.a = omega arith in
    let l : min c.args.a c.args.b ≡ c.args.b = omega arith in
    rw (h, l) (omega arith)
