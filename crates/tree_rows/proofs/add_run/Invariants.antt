-- `tree_rows::add_run` meets its contract. The loop's invariant: the links of the places up to p are added.
-- Assumes nothing.
use Rattle.std.proofs.Common.{ℕ, ◌≤◌, List}
use Rattle.cuts.specs.Network.{Network, Tree}
use Rattle.tree_rows.specs.Rows.{Tallied}
use Rattle.tree_rows.specs.Making.{TreeHeld}
use Rattle.tree_rows.proofs.add_run.Given as goal

abbrev pub invariant-loop-at : goal.invariant-loop-at
invariant-loop-at l =
    (net : Network) (t : Tree) (by_place : List ℕ) (nodes first : ℕ) → TreeHeld net t l.links l.index l.p by_place nodes
    → first ≤ l.from → l.from ≤ l.to → l.to ≤ nodes → Tallied net l.p.place first l.from l.initial.tallies → Tallied net l.p.place first l.at l.tallies
