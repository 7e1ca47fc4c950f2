-- `search_ties::mark_row` meets its contract. The loop's invariant: the next column has a light pair, and of what was passed up to it the light
-- ones are marked; where there is none, those of the whole row.
-- Assumes nothing.
use Rattle.std.proofs.Common.{◌≡◌, ℕ, ◌+◌, ◌<◌, ◌≤◌, List, MatchOption}
use Rattle.cuts.specs.Network.{Network, Tree}
use Rattle.tree_rows.specs.declared.Figures.{Figures}
use Rattle.tree_rows.proofs.LoopLaws.{columns_left}
use Rattle.tree_rows.specs.Reading.{RowHeld}
use Rattle.search_ties.specs.Ties.{weight_of_places, InRows, LightMarked}
use Rattle.search_ties.proofs.mark_row.Given as goal

-- the pair with the column v weighs no more than the limit
abbrev pub LightAt : Figures → ℕ → List ℕ → ℕ → ℕ → ℕ → Type 0
LightAt figures nodes stops u limit v =
    (net : Network) (t : Tree) (place node links : List ℕ) → RowHeld net t place node stops links u figures → net.nodes ≡ nodes
    → weight_of_places net t links u v ≤ limit

-- where the light ones in row u up to its link alone are marked in `before`, those up to the column v are in `table`
abbrev pub UpTo : Figures → ℕ → List ℕ → List ℕ → ℕ → ℕ → List ℕ → List ℕ → ℕ → Type 0
UpTo figures nodes stops rank u limit before table v =
    (net : Network) (t : Tree) (place node links : List ℕ) → RowHeld net t place node stops links u figures → net.nodes ≡ nodes
    → LightMarked net t links rank (InRows nodes u (u + 1)) limit before → LightMarked net t links rank (InRows nodes u v) limit table

abbrev pub invariant-loop-next : goal.invariant-loop-next
invariant-loop-next l =
    let Marked : ℕ → Type 0 = UpTo l.figures l.nodes l.stops l.rank l.u l.limit l.initial.table l.table in
    MatchOption l.next (Marked l.nodes) (λ v. (l.u < v) × (v < l.nodes) × LightAt l.figures l.nodes l.stops l.u l.limit v × Marked v)

abbrev pub decreases-loop-next : goal.decreases-loop-next
decreases-loop-next l = columns_left l.nodes l.next
