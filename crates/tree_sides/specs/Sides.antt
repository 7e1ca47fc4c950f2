-- Sides of one or two links of a tree, from the places and the stops that are kept of it. Assumes nothing.
--   InTree nodes p           p is a place behind the root's
--   OnePlace b u             the stops b are known, and u is a place
--   TwoPlaces b u v          the stops b are known, and u and v are places, u before v
--   EitherPlaces b u v       the stops b are known, and u and v are places
--   EitherCount b u v r      r is the number of nodes in the side of the links at the places u and v, in either order
--   SideCount b u v r        r is the number of nodes in the side of the links at the places u and v, of any tree kept with the stops b
--   StandsAt nodes l k p     p is a place behind the root's, and the links l have the link k there
--   NoPlace nodes l k        no place behind the root's has the link k, in the links l
use Rattle.std.specs.Prelude.{◌≡◌, ℕ, ◌<◌, List}
use Rattle.cuts.specs.Network.{Network, Tree}
use Rattle.cuts.specs.Limits.{most_nodes}
use Rattle.cuts.specs.Cut.{size}
use Rattle.cuts.specs.Candidate.{side_of}
use Rattle.arrays.specs.Lists.{entry}
use Rattle.arrays.specs.Kept.{Kept}
use Rattle.tree_places.specs.Places.{StopsKnown}
use Rattle.search_order.specs.Visits.{handle_at}

pub record InTree (nodes p : ℕ) : Type 0 where
  pub behind : 0 < p
  pub within : p < nodes

-- ---- counts

pub record OnePlace (stops : List ℕ) (u : ℕ) : Type 0 where
  pub stops_known : StopsKnown stops
  pub place : u < most_nodes

pub record TwoPlaces (stops : List ℕ) (u v : ℕ) : Type 0 where
  pub stops_known : StopsKnown stops
  pub rises : u < v
  pub place : v < most_nodes

abbrev pub SideCount : List ℕ → ℕ → ℕ → ℕ → Type 0
SideCount stops u v r =
    (net : Network) (t : Tree) (place node links : List ℕ) → Kept net t place node stops links → 0 < u → v < net.nodes
    → r ≡ size net (side_of net t (handle_at links u v))

pub record EitherPlaces (stops : List ℕ) (u v : ℕ) : Type 0 where
  pub stops_known : StopsKnown stops
  pub place : u < most_nodes
  pub other_place : v < most_nodes

abbrev pub EitherCount : List ℕ → ℕ → ℕ → ℕ → Type 0
EitherCount stops u v r =
    (net : Network) (t : Tree) (place node links : List ℕ) → Kept net t place node stops links → InTree net.nodes u → InTree net.nodes v
    → r ≡ size net (side_of net t (handle_at links u v))

-- ---- places

pub record StandsAt (nodes : ℕ) (links : List ℕ) (link p : ℕ) : Type 0 where
  pub behind : 0 < p
  pub within : p < nodes
  pub is : entry links p ≡ link

abbrev pub NoPlace : ℕ → List ℕ → ℕ → Type 0
NoPlace nodes links link = (p : ℕ) → StandsAt nodes links link p → ⊥
