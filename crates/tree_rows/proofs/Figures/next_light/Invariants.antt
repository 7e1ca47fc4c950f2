-- `tree_rows::Figures::next_light` meets its contract. The loop's invariant: all pairs passed weigh more than the limit.
-- Assumes nothing.
use Rattle.tree_rows.specs.Reading.{Heavy}
use Rattle.tree_rows.proofs.Figures.next_light.Given as goal

abbrev pub invariant-loop-v : goal.invariant-loop-v
invariant-loop-v l = Heavy l.self l.nodes l.stops l.u l.from l.limit l.v
