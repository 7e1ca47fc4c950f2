-- `search_tree::search_row` meets its contract. The loop's invariant: what is found is the first of what was reached up to the next column, or
-- of the whole row where there is none.
-- Assumes nothing.
use Rattle.std.proofs.Common.{◌≡◌, ℕ, ◌+◌, ◌<◌, ◌≤◌, List, MatchOption}
use Rattle.cuts.specs.Network.{Network, Tree}
use Rattle.cuts.specs.Candidate.{Candidate, fewer_nodes, ahead}
use Rattle.tree_rows.specs.declared.Figures.{Figures}
use Rattle.tree_rows.proofs.LoopLaws.{columns_left}
use Rattle.tree_rows.specs.Reading.{RowHeld}
use Rattle.search_order.specs.declared.Found.{Found}
use Rattle.search_order.specs.Visits.{Reached}
use Rattle.search_tree.proofs.search_row.Given as goal

-- where `before` was found in the rows behind u, `best` is the first of what was reached in row u up to the column v
abbrev pub UpTo : Figures → ℕ → List ℕ → List ℕ → ℕ → ℕ → Found → Found → ℕ → Type 0
UpTo figures nodes stops links tree u before best v =
    (net : Network) (t : Tree) (c : Candidate) (place node : List ℕ) → RowHeld net t place node stops links u figures → net.nodes ≡ nodes
    → Reached (ahead fewer_nodes) c net tree t links (u + 1) nodes before → Reached (ahead fewer_nodes) c net tree t links u v best

abbrev pub invariant-loop-next : goal.invariant-loop-next
invariant-loop-next l =
    let Best : ℕ → Type 0 = UpTo l.figures l.nodes l.stops l.links l.tree l.u l.initial.best l.best in
    MatchOption l.next (Best l.nodes) (λ v. (l.u ≤ v) × (v < l.nodes) × Best v)

abbrev pub decreases-loop-next : goal.decreases-loop-next
decreases-loop-next l = columns_left l.nodes l.next
