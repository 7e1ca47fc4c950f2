-- Reading a row: the weights of the link at a place u with those behind it. Assumes nothing.
--   RowHeld net t pl node st l u figures    the figures have the row of u, a place behind the root's, of a light network and a tree
--   Behind st u v                           v is a place behind u, and st is stopped
--   RowAt st n u                            of n nodes, u is a place behind the root's, and st is stopped
--   ColumnAt st u v                         v is u or a place behind it, and st is stopped
--   RowFrom st n u from                     of n nodes, `from` is a place behind u or the end, and st is stopped
--   Heavy figures n st u from limit end     each place from `from` on and in front of `end` has a link that, with that at u, weighs more
--                                           than the limit, in every tree of n nodes whose row the figures have
--   NextLight figures n st u from limit r   r is the first place from `from` on whose link, with that at u, weighs no more than the limit
use Rattle.std.specs.Prelude.{◌≡◌, ℕ, ◌<◌, ◌≤◌, List}
use Rattle.cuts.specs.Network.{Network, Tree}
use Rattle.cuts.specs.Candidate.{weight_of}
use Rattle.cuts.specs.Limits.{most_nodes, Light}
use Rattle.arrays.specs.Kept.{Kept}
use Rattle.tree_places.specs.Places.{StopsKnown}
use Rattle.search_order.specs.Visits.{handle_at}
use Rattle.tree_rows.specs.declared.Figures.{Figures}
use Rattle.tree_rows.specs.Rows.{Row}

pub record RowHeld (net : Network) (t : Tree) (place node stops links : List ℕ) (u : ℕ) (figures : Figures) : Type 0 where
  pub light : Light net
  pub kept : Kept net t place node stops links
  pub row : Row net t place stops links u figures
  pub some : 0 < u

pub record Behind (stops : List ℕ) (u v : ℕ) : Type 0 where
  pub stops_in : StopsKnown stops
  pub before : u < v
  pub place_in : v < most_nodes

pub record RowAt (stops : List ℕ) (nodes u : ℕ) : Type 0 where
  pub few_nodes : nodes ≤ most_nodes
  pub stops_in : StopsKnown stops
  pub some : 0 < u
  pub inside : u < nodes

pub record ColumnAt (stops : List ℕ) (u v : ℕ) : Type 0 where
  pub stops_in : StopsKnown stops
  pub up : u ≤ v
  pub place_in : v < most_nodes

pub record RowFrom (stops : List ℕ) (nodes u from : ℕ) : Type 0 where
  pub few_nodes : nodes ≤ most_nodes
  pub stops_in : StopsKnown stops
  pub behind : u < from
  pub up_to : from ≤ nodes

abbrev pub Heavy : Figures → ℕ → List ℕ → ℕ → ℕ → ℕ → ℕ → Type 0
Heavy figures nodes stops u from limit end =
    (net : Network) (t : Tree) (place node links : List ℕ)
    → RowHeld net t place node stops links u figures → net.nodes ≡ nodes
    → (v : ℕ) → from ≤ v → v < end → limit < weight_of net t (handle_at links u v)

pub record NextLight (figures : Figures) (nodes : ℕ) (stops : List ℕ) (u from limit r : ℕ) : Type 0 where
  pub behind : from ≤ r
  pub inside : r < nodes
  pub heavy : Heavy figures nodes stops u from limit r
  pub light : (net : Network) (t : Tree) (place node links : List ℕ)
      → RowHeld net t place node stops links u figures → net.nodes ≡ nodes
      → weight_of net t (handle_at links u r) ≤ limit
