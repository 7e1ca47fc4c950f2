-- The invariant of the loop in `tree_crossings::strike`: the cells in front of `from` whose sides cross at most two members are struck out.
-- Assumes nothing.
use Prim.Native.Nat.{◌-◌, ◌≤◌}
use lib.Dec.{leb}
use Rattle.tree_crossings.specs.Strikes.{cell_crossings}
use Rattle.tree_crossings.proofs.StrikeLaws.{StruckTo}
use Rattle.tree_crossings.proofs.strike.Given as goal

abbrev pub invariant-loop-q : goal.invariant-loop-q
invariant-loop-q l = record {
  up_to : l.from ≤ l.end;
  struck : StruckTo (λ k. leb (cell_crossings l.layers l.stops l.at k) 2) l.initial.table l.from l.table;
}

abbrev pub decreases-loop-q : goal.decreases-loop-q
decreases-loop-q l = l.end - l.from
