-- `tree_crossings::cell_struck` meets its contract: a cell of one link has both layers of a second as the first layer, which cancel.
-- Assumes nothing.
use Prim.Native.Nat.{◌/◌, ◌%◌}
use mathlib.Core.Path.{◌∙◌}
use borrow.Author.Tests.{eq-eqb, ne_eqb}
use Rattle.cuts.specs.Limits.{most_nodes}
use Rattle.tree_crossings.specs.Strikes.{side_crossings}
use Rattle.tree_crossings.proofs.cell_struck.Goals as goal
use Rattle.tree_crossings.proofs.cell_struck.Goals.{else-first-second, then-first-second}

pub returns : goal.returns
unfolding side_crossings
returns c =
    let a = c.args in
    c.crosses_few.ensures
    ∙ elim c.if-first-second.branch [
      | then-first-second w ↦ rw (w.v-is, eq-eqb (a.q / most_nodes) (a.q % most_nodes) w.if-first-second.true)
      | else-first-second w ↦ rw (w.v-is, ne_eqb (a.q / most_nodes) (a.q % most_nodes) w.if-first-second.false)
    ]
