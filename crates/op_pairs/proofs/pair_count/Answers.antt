-- `op_pairs::pair_count` meets its contract: the rows before a rank, and its own. Assumes nothing.
use Prim.Native.Nat.{suc, ◌-◌}
use mathlib.Core.Path.{◌≡◌, ap}
use native.Mathlib.Omega.{arith}
use Rattle.pairs.specs.Slots.{row_start}
use Rattle.pairs.proofs.SlotLaws.{row_start-suc}
use Rattle.op_pairs.proofs.pair_count.Goals as goal

pub returns : goal.returns
returns c =
    let n = c.args.nodes in
    let e : n - 1 ≡ suc (n - 2) = omega (arith, c.requires.several) in
    let r = row_start-suc (n - 2) in
    let k : row_start (n - 1) ≡ row_start (suc (n - 2)) = ap row_start e in
    omega (arith, c.row_start.ensures)
