-- What is left to prove of `put_nodes`: a node whose bit is set is one field more, any other none.
use Prim.Native.Nat.{ℕ}
use mathlib.Core.Path.{sym, ◌∙◌}
use mathlib.Core.Bool.{Bool}
use native.Mathlib.Omega.{arith}
use Rattle.cuts.specs.Sums.{select}
use Rattle.sheet.specs.Bytes.{map_bit}
use Rattle.print_text.specs.Line.{fields_text}
use Rattle.print_text.proofs.LineLaws.{put-nothing, put-more}
use Rattle.print_report.proofs.NodeLaws.{node_fields, node_fields-set, node_fields-unset, room-step}
use Rattle.print_report.proofs.put_nodes.Goals as goal
use Rattle.print_report.proofs.put_nodes.Goals.{else-bit_set, then-bit_set}

pub loop-x-init : goal.loop-x-init
unfolding select fields_text
loop-x-init c = record { put = put-nothing _; few = omega arith }

pub put_field-requires : goal.put_field-requires
put_field-requires c = omega (arith, room-step c.loop-x.x c.loop-x-test.true, c.loop-x.invariant.few)

pub loop-x-preserved : goal.loop-x-preserved
loop-x-preserved c =
    let x : ℕ = c.loop-x.x in
    let f : ℕ → Bool = map_bit c.args.side.now in
    let before = c.loop-x.invariant in
    let step = room-step x c.loop-x-test.true in
    elim c.if-bit_set.branch [
      | then-bit_set w ↦
          rw (w.printer-is, node_fields-set x f (sym c.bit_set.ensures ∙ w.if-bit_set.true))
          (put-more (node_fields x f) before w.put_field.ensures (omega (arith, step)))
      | else-bit_set w ↦
          rw (w.printer-is, node_fields-unset x f (sym c.bit_set.ensures ∙ w.if-bit_set.false))
          (record { put = before.put; few = omega (arith, before.few) })
    ]
