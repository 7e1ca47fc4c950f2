-- `tree_rows::add_links` meets its contract. The loop's invariant: the links of the node's run up to the turn's are added.
-- Assumes nothing.
use Rattle.std.proofs.Common.{length}
use Rattle.arrays.specs.Lists.{entry}
use Rattle.tree_rows.proofs.RunLaws.{gives}
use Rattle.tree_rows.proofs.AddLaws.{Adding}
use Rattle.tree_rows.proofs.add_links.Given as goal

abbrev pub invariant-loop-k : goal.invariant-loop-k
invariant-loop-k l =
    Adding l.initial.tallies l.tallies (λ y i. gives l.links.firsts l.links.seconds l.links.weights l.p.place l.x y (entry l.k-items i)) l.k-index (length l.k-items)
