-- `tree_rows::Figures::weigh_places` meets its contract. The loop's invariant: the places before p have their node's degree.
-- Assumes nothing.
use Rattle.std.proofs.Common.{◌≡◌, ℕ, ◌<◌}
use Rattle.arrays.specs.Lists.{entry}
use Rattle.tree_rows.specs.Making.{BesideDegrees}
use Rattle.tree_rows.proofs.Figures.weigh_places.Given as goal

abbrev pub invariant-loop-p : goal.invariant-loop-p
invariant-loop-p l =
    ((q : ℕ) → q < l.p → entry l.self.degrees q ≡ entry l.degrees (entry l.node q)) × BesideDegrees l.initial.self l.self
