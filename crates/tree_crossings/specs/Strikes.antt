-- Striking cells out of a tree's table, those whose sides cross few members of another tree, which are in layers.
-- Assumes nothing.
--   side_crossings layers stops single u v   how many members in the layers cross the side of the links at the places u and v, or of
--                                            that at u alone where `single` is set
--   cell_crossings layers stops at q         how many cross the side of the cell at bit q; `at` has the place of each rank
--   CellThere stops q                        the stops are known, and q is a bit of a table
--   CellsThere nodes stops                   so they are, and there are so many nodes, the root among them, no more than a sheet can have
--   Struck nodes layers stops at before after
--                                            `after` is `before` less the cells, of so many nodes, with sides that at most two cross
--   Strikable map nodes count links r        the map has members of so many known links for a tree of so many nodes; r has known stops
use Rattle.std.specs.Prelude.{ℕ, ◌-◌, ◌/◌, ◌%◌, ◌≤◌, ◌<◌, ◌≡◌, Bool, ◌&&◌, not, cond, List, eqb, leb, ltb}
use Rattle.cuts.specs.Limits.{most_nodes}
use Rattle.arrays.specs.Lists.{entry}
use Rattle.arrays.specs.Links.{ends_of}
use Rattle.arrays.specs.declared.Links.{Links}
use Rattle.sheet.specs.Bytes.{Bytes}
use Rattle.read_sheet.specs.TreesRead.{MapCounted}
use Rattle.tree_places.specs.Places.{StopsKnown}
use Rattle.tree_ranks.specs.declared.Ranked.{Ranked}
use Rattle.bit_table.specs.Bits.{bit_of}
use Rattle.bit_table.specs.Cells.{cells_end}
use Rattle.tree_crossings.specs.Layers.{odd_count}

unfoldable pub side_crossings : List ℕ → List ℕ → Bool → ℕ → ℕ → ℕ
side_crossings layers stops single u v =
    cond single (odd_count layers (entry stops u) u 0 0) (odd_count layers (entry stops u) u (entry stops v) v)

abbrev pub cell_crossings : List ℕ → List ℕ → List ℕ → ℕ → ℕ
cell_crossings layers stops at q =
    side_crossings layers stops (eqb (q / most_nodes) (q % most_nodes)) (entry at (q / most_nodes)) (entry at (q % most_nodes))

pub record CellThere (stops : List ℕ) (q : ℕ) : Type 0 where
  pub stops_known : StopsKnown stops
  pub cell : q < cells_end most_nodes

pub record CellsThere (nodes : ℕ) (stops : List ℕ) : Type 0 where
  pub some : 0 < nodes
  pub few_nodes : nodes ≤ most_nodes
  pub stops_known : StopsKnown stops

abbrev pub Struck : ℕ → List ℕ → List ℕ → List ℕ → List ℕ → List ℕ → Type 0
Struck nodes layers stops at before after =
    (k : ℕ) → bit_of after k
    ≡ (bit_of before k && not (ltb k (cells_end (nodes - 1)) && leb (cell_crossings layers stops at k) 2))

pub record Strikable (map : Bytes) (nodes count : ℕ) (links : Links) (r : Ranked) : Type 0 where
  pub counted : MapCounted map nodes count (ends_of links)
  pub stops_known : StopsKnown r.places.stops
