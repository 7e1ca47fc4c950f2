-- The candidates of a tree that weigh no more than a limit, marked in a table while its rows are gone through. Assumes nothing.
--   cell_of a b                                  the cell of two links of the ranks a and b, of one link where they are equal
--   IsCellOf a b q                               q is that cell, and the table has it
--   cell_at rk x y                               the cell of the links at two places, where rk has the rank at each place
--   weight_of_places net t l x y                 the weight of the links at two places as a candidate, where l has the link at each place
--   InRows n u v x y                             x and y are places but the root's of n, x no later than y, passed before row u, column v
--   LightMarked net t l rk P limit table         where l has the links and rk the ranks by place, the bits set are the cells of those pairs of
--                                                places P that weigh no more than the limit
--   Markable table links index r nodes           no bit of the table is set, and links and places of the ranked tree are searchable
use Rattle.std.specs.Prelude.{ℕ, ◌+◌, ◌*◌, ◌≤◌, ◌<◌, min, max, ◌≡◌, true, List, length, replicate}
use Rattle.cuts.specs.Network.{Network, Tree}
use Rattle.cuts.specs.Candidate.{weight_of}
use Rattle.cuts.specs.Limits.{most_nodes}
use Rattle.arrays.specs.Lists.{entry}
use Rattle.arrays.specs.declared.Index.{Index}
use Rattle.arrays.specs.declared.Links.{Links}
use Rattle.tree_ranks.specs.declared.Ranked.{Ranked}
use Rattle.tree_rows.specs.Making.{Searchable}
use Rattle.search_order.specs.Visits.{handle_at, passed}
use Rattle.bit_table.specs.Bits.{bit_of}
use Rattle.bit_table.specs.Cells.{cells_end}

abbrev pub cell_of : ℕ → ℕ → ℕ
cell_of a b = most_nodes * min a b + max a b

pub record IsCellOf (a b q : ℕ) : Type 0 where
  pub is : q ≡ cell_of a b
  pub inside : q < cells_end most_nodes

abbrev pub cell_at : List ℕ → ℕ → ℕ → ℕ
cell_at rank x y = cell_of (entry rank x) (entry rank y)

abbrev pub weight_of_places : Network → Tree → List ℕ → ℕ → ℕ → ℕ
weight_of_places net t links x y = weight_of net t (handle_at links x y)

abbrev pub InRows : ℕ → ℕ → ℕ → ℕ → ℕ → Type 0
InRows nodes u v x y = (0 < x) × (x ≤ y) × (y < nodes) × passed u v x y

pub record LightMarked (net : Network) (t : Tree) (links rank : List ℕ) (among : ℕ → ℕ → Type 0) (limit : ℕ)
    (table : List ℕ) : Type 0 where
  pub of : (q : ℕ) → bit_of table q ≡ true → (x : ℕ) × (y : ℕ) × among x y
      × (weight_of_places net t links x y ≤ limit) × (cell_at rank x y ≡ q)
  pub every : (x y : ℕ) → among x y → weight_of_places net t links x y ≤ limit
      → bit_of table (cell_at rank x y) ≡ true

pub record Markable (table : List ℕ) (links : Links) (index : Index) (r : Ranked) (nodes : ℕ) : Type 0 where
  pub clear : table ≡ replicate (length table) 0
  pub searchable : Searchable links index r.places nodes
