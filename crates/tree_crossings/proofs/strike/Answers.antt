-- What is left to prove of `strike`.
use Prim.Native.Nat.{ℕ}
use mathlib.Core.Path.{sym, ap, subst, ◌∙◌}
use mathlib.Core.List.{List}
use native.Mathlib.Omega.{arith}
use lib.Dec.{leb}
use Rattle.bit_table.specs.Bits.{bit_of}
use Rattle.tree_crossings.specs.Strikes.{cell_crossings}
use Rattle.tree_crossings.proofs.StrikeLaws.{StruckTo, struck-none, skipped, kept-one, struck-one}
use Rattle.tree_crossings.proofs.strike.Goals as goal
use Rattle.tree_crossings.proofs.strike.Goals.{else-cell_struck, then-cell_struck}

pub loop-q-init : goal.loop-q-init
loop-q-init c = record { up_to = omega arith; struck = struck-none _ _ }

pub loop-q-preserved : goal.loop-q-preserved
loop-q-preserved c =
    let n = c.in-Some.ensures in
    let l = c.loop-q in
    let q = c.in-Some.q in
    let light = λ (k : ℕ). leb (cell_crossings c.args.layers.now c.args.stops.now c.args.at.now k) 2 in
    let old = c.args.table.now in
    let before = skipped light old l.from q l.table l.invariant.struck n.behind n.none in
    record {
      up_to = omega (arith, n.inside);
      struck = elim c.if-cell_struck.branch [
        | then-cell_struck w ↦ struck-one light old q l.table before c.if-cell_struck.table (sym c.cell_struck.ensures ∙ w.if-cell_struck.true)
            n.is_set (λ k. ap (λ (t : List ℕ). bit_of t k) w.table-is ∙ w.flip_bit.ensures k)
        | else-cell_struck w ↦ kept-one light old q c.if-cell_struck.table (subst (StruckTo light old q) (sym w.table-is) before)
            (sym c.cell_struck.ensures ∙ w.if-cell_struck.false)
      ];
    }

pub returns : goal.returns
returns c =
    let l = c.loop-q in
    skipped (λ (k : ℕ). leb (cell_crossings c.args.layers.now c.args.stops.now c.args.at.now k) 2) c.args.table.now l.from _ l.table
    l.invariant.struck l.invariant.up_to c.in_default.ensures
