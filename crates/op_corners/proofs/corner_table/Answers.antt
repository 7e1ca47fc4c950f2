-- What is left to prove of `corner_table`: what a turn adds to the table, and that the last link's is the table of all. Assumes nothing.
use Prim.Native.Nat.{suc}
use mathlib.Core.Path.{◌∙◌}
use native.Mathlib.Omega.{arith}
use native.Mathlib.Numerals.{add-one}
use Rattle.arrays.specs.Lists.{entry}
use Rattle.corners.proofs.TableLaws.{raised}
use Rattle.op_corners.proofs.FillLaws.{Turn, filled_to, none_filled, few_links, all-filled, placed, turn}
use Rattle.op_corners.proofs.corner_table.Goals as goal
use Rattle.op_corners.proofs.corner_table.Goals.{After-number-y, else-x-y, then-x-y}

-- what holds of a turn, once the corners of the link's ends are known
added : (c : After-number-y) → let l = c.loop-k in
    let a = c.args in
    Turn l.table c.number-x.result c.number-y.result (entry a.links.now.weights l.k)
    (filled_to a.maps.now.first.now a.maps.now.second.now a.layout a.links.now (suc l.k))
added c =
    let l = c.loop-k in
    let a = c.args in
    turn a.maps.now.first.now a.maps.now.second.now a.layout a.links.now c.requires l.k (omega arith)
    c.number-x.result c.number-y.result (placed c.corner_of.ensures c.number-x.ensures) (placed c.corner_of-in-loop-k.ensures c.number-y.ensures) l.table l.invariant.filled

pub loop-k-init : goal.loop-k-init
loop-k-init c =
    let a = c.args in
    record {
      few = few_links a.maps.now.first.now a.maps.now.second.now a.layout a.links.now c.requires;
      filled = none_filled a.maps.now.first.now a.maps.now.second.now a.layout a.links.now;
    }

pub overflow_add-table : goal.overflow_add-table
overflow_add-table c = let t = added (goal.at.overflow_add-table c).After-number-y in rw c.from-w.ensures (omega arith)

pub overflow_add-table-then-x-y : goal.overflow_add-table-then-x-y
unfolding raised
overflow_add-table-then-x-y c = rw c.from-w.ensures (record { fits = (added (goal.at.overflow_add-table-then-x-y c).After-number-y).second_fits })

pub loop-k-preserved : goal.loop-k-preserved
unfolding raised
loop-k-preserved c =
    let t = added (goal.at.loop-k-preserved c).After-number-y in
    record {
      few = c.loop-k.invariant.few;
      filled = rw (add-one c.loop-k.k) (elim c.if-x-y.branch [
        | then-x-y w ↦ rw w.from-w.ensures at w.table-is ∙ t.apart w.if-x-y.true
        | else-x-y w ↦ w.table-is ∙ t.same w.if-x-y.false
      ]);
    }

pub returns : goal.returns
returns c =
    let l = c.loop-k in
    let a = c.args in
    l.invariant.filled ∙ all-filled a.maps.now.first.now a.maps.now.second.now a.layout a.links.now c.requires l.k (omega arith)
