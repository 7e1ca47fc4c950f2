-- `tree_sides::place_of` meets its contract. The loop's invariant: no place before p has the link.
-- Assumes nothing.
use Rattle.tree_sides.specs.Sides.{NoPlace}
use Rattle.tree_sides.proofs.place_of.Given as goal

abbrev pub invariant-loop-p : goal.invariant-loop-p
invariant-loop-p l = NoPlace l.p l.links l.link
