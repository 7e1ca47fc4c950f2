-- `no_side` meets its contract: node 0, the bits from the node count up, and the number of ones decide. Assumes nothing.
use Prim.Native.Nat.{ℕ}
use mathlib.Core.Path.{sym, ap, ◌∙◌}
use lib.Dec.{eqb}
use Rattle.cuts.proofs.FlagLaws.{clash}
use Rattle.op_corners.proofs.MapLaws.{root-inside, bit_past, ones_decide}
use Rattle.op_corners.proofs.no_side.Goals as goal
use Rattle.op_corners.proofs.no_side.Goals.{then-bit_set, else-bit_set}

pub returns-then-stray_bit : goal.returns-then-stray_bit
returns-then-stray_bit c =
    let map = c.args.map.now in
    let nodes = c.args.nodes in
    c.if-stray_bit.true ∙ (elim c.if-bit_set.branch [
      | then-bit_set w ↦ root-inside map nodes c.requires (sym c.bit_set.ensures ∙ w.if-bit_set.true)
      | else-bit_set w ↦ bit_past map nodes c.requires (sym w.stray_bit.ensures ∙ sym w.value-is ∙ c.if-stray_bit.true)
    ])

pub returns-else-stray_bit : goal.returns-else-stray_bit
returns-else-stray_bit c =
    let map = c.args.map.now in
    let nodes = c.args.nodes in
    ap (λ (n : ℕ). eqb n 0) c.ones.ensures ∙ (elim c.if-bit_set.branch [
      | then-bit_set w ↦ clash w.if-bit_set.true (sym w.value-is ∙ c.if-stray_bit.false)
      | else-bit_set w ↦
          ones_decide map nodes c.requires (sym w.stray_bit.ensures ∙ sym w.value-is ∙ c.if-stray_bit.false) (sym c.bit_set.ensures ∙ w.if-bit_set.false)
    ])
