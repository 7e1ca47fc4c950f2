-- Making a row: what it needs of the arrays, what they hold where it says something of a network and its tree, and what it leaves as it
-- was. Assumes nothing.
--   PlacesKnown nodes p                         of so many nodes, the places have such nodes, and the stops are known
--   Searchable links index p nodes              the links are listed by node, of which there are so many, the places have such nodes, and the
--                                               stops are known
--   LinksAddable links index x                  the links of a node x are listed
--   RunAddable links index p to                 the links of the nodes at all places are listed, and `to` does not exceed the most nodes
--   RowStartable nodes stops u                  there may be a place u and so many nodes, and the stops are known
--   RowTallyable links index p nodes u          there may be a place u, and links and places are searchable
--   RowSummable nodes stop u                    there may be a place u and so many nodes, and the stop does not exceed the most nodes
--   RowMakeable links index p nodes u           links and places are searchable, and u is a place behind the root's
--   TreeHeld net t links index p by_place nodes
--                                               the links are the network's, which has so many nodes, the index lists them, and p keeps its tree,
--                                               where `by_place` has the link at each place
--   RowStart net place stops u r f              r lies behind u and no later than u's stop, and f has the tally of the places between them
--   Summable net place degrees tallies stop nodes u
--                                               the degrees are the network's, and the tallies those of the places from u up to the stop
--   RowsHeld net t links index p by_place nodes u figures
--                                               what a loop over the rows keeps: the network and its tree are held, and the figures have the
--                                               degrees and the row of u
--   BesideDegrees before after                  `after` has the sums, the singles and the tallies of `before`
--   SumsMade degrees tallies nodes stop u sums  where the degrees and tallies are summable, the sums are made
use Rattle.std.specs.Prelude.{◌≡◌, ℕ, suc, ◌<◌, ◌≤◌, List}
use Rattle.cuts.specs.Network.{Tree, Network}
use Rattle.cuts.specs.Limits.{most_nodes, Light}
use Rattle.arrays.specs.Lists.{entry, Within}
use Rattle.arrays.specs.ByNode.{LinksListed, Indexed}
use Rattle.arrays.specs.Kept.{Kept}
use Rattle.arrays.specs.declared.Index.{Index}
use Rattle.arrays.specs.declared.Links.{Links}
use Rattle.tree_places.specs.declared.Places.{Places}
use Rattle.tree_rows.specs.declared.Figures.{Figures}
use Rattle.tree_rows.specs.Rows.{PlaceDegrees, Tallied, Summed, Row}
use Rattle.tree_places.specs.Places.{StopsKnown}

-- ---- what is needed

pub record PlacesKnown (nodes : ℕ) (p : Places) : Type 0 where
  pub nodes_known : Within p.node most_nodes nodes
  pub stops_known : StopsKnown p.stops

pub record Searchable (links : Links) (index : Index) (p : Places) (nodes : ℕ) : Type 0 where
  pub few_nodes : nodes ≤ most_nodes
  pub links_listed : LinksListed links index nodes
  pub nodes_in : Within p.node most_nodes nodes
  pub stops_in : StopsKnown p.stops

pub record LinksAddable (links : Links) (index : Index) (x : ℕ) : Type 0 where
  pub nodes : ℕ
  pub node_in : x < nodes
  pub links_listed : LinksListed links index nodes

pub record RunAddable (links : Links) (index : Index) (p : Places) (to : ℕ) : Type 0 where
  pub few_places : to ≤ most_nodes
  pub nodes : ℕ
  pub nodes_in : Within p.node most_nodes nodes
  pub links_listed : LinksListed links index nodes

pub record RowStartable (nodes : ℕ) (stops : List ℕ) (u : ℕ) : Type 0 where
  pub few_nodes : nodes ≤ most_nodes
  pub stops_in : StopsKnown stops
  pub place_in : u < most_nodes

pub record RowTallyable (links : Links) (index : Index) (p : Places) (nodes u : ℕ) : Type 0 where
  pub searchable : Searchable links index p nodes
  pub place_in : u < most_nodes

pub record RowSummable (nodes stop u : ℕ) : Type 0 where
  pub few_nodes : nodes ≤ most_nodes
  pub stop_in : stop ≤ most_nodes
  pub place_in : u < most_nodes

pub record RowMakeable (links : Links) (index : Index) (p : Places) (nodes u : ℕ) : Type 0 where
  pub searchable : Searchable links index p nodes
  pub some : 0 < u
  pub inside : u < nodes

-- ---- what is said of a network and its tree

pub record TreeHeld (net : Network) (t : Tree) (links : Links) (index : Index) (p : Places) (by_place : List ℕ) (nodes : ℕ) : Type 0 where
  pub count : ℕ
  pub indexed : Indexed net links index nodes count
  pub kept : Kept net t p.place p.node p.stops by_place

pub record RowStart (net : Network) (place stops : List ℕ) (u r : ℕ) (f : List ℕ) : Type 0 where
  pub behind : suc u ≤ r
  pub up_to : r ≤ entry stops u
  pub tallied : Tallied net place (suc u) r f

pub record Summable (net : Network) (place degrees tallies : List ℕ) (stop nodes u : ℕ) : Type 0 where
  pub light : Light net
  pub weighed : PlaceDegrees net place degrees
  pub tallied : Tallied net place u stop tallies
  pub above : u ≤ stop
  pub inside : stop ≤ nodes
  pub sized : net.nodes ≡ nodes

pub record RowsHeld (net : Network) (t : Tree) (links : Links) (index : Index) (p : Places) (by_place : List ℕ) (nodes u : ℕ) (figures : Figures) : Type 0 where
  pub tree_held : TreeHeld net t links index p by_place nodes
  pub degrees : PlaceDegrees net p.place figures.degrees
  pub row : Row net t p.place p.stops by_place u figures

-- ---- what is left

pub record BesideDegrees (before after : Figures) : Type 0 where
  pub sums : after.sums ≡ before.sums
  pub singles : after.singles ≡ before.singles
  pub tallies : after.tallies ≡ before.tallies

abbrev pub SumsMade : List ℕ → List ℕ → ℕ → ℕ → ℕ → List ℕ → Type 0
SumsMade degrees tallies nodes stop u sums =
    (net : Network) (place : List ℕ) → Summable net place degrees tallies stop nodes u → Summed net place u stop net.nodes sums
