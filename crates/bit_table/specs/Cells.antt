-- A table of bits with one cell for each link of a tree and each pair of them, by rank: the member of rank r is the r-th by number, from 0.
-- Of 256 bits for each rank r, bit r is the cell of that member alone, and those behind it are the cells of its pairs with later members.
-- Assumes nothing.
--   table_length           the words of such a table
--   cells_end m            the cells of m members stand in front of it
--   is_cell m q            bit q is a cell of m members
--   cell_handle ms q       the handle whose cell bit q is, where ms are the members, rising
--   Tabled net t p table   of the tree t the bits set are the cells of those handles that pass the test p
use Rattle.std.specs.Prelude.{ℕ, ◌*◌, ◌/◌, ◌%◌, ◌≡◌, Bool, ◌&&◌, List, length, leb, ltb}
use Rattle.cuts.specs.Network.{Network, Tree}
use Rattle.cuts.specs.Candidate.{Handle, member_links}
use Rattle.cuts.specs.Limits.{most_nodes}
use Rattle.arrays.specs.Lists.{entry}
use Rattle.search_order.specs.Choice.{chosen}
use Rattle.bit_table.specs.Bits.{word_bits, bit_of}

abbrev pub table_length : ℕ
table_length = most_nodes * (most_nodes / word_bits)

abbrev pub cells_end : ℕ → ℕ
cells_end m = m * most_nodes

abbrev pub is_cell : ℕ → ℕ → Bool
is_cell m q = leb (q / most_nodes) (q % most_nodes) && ltb (q % most_nodes) m

abbrev pub cell_handle : List ℕ → ℕ → Handle
cell_handle ms q = chosen (entry ms (q / most_nodes)) (entry ms (q % most_nodes))

abbrev pub Tabled : Network → Tree → (Handle → Bool) → List ℕ → Type 0
Tabled net t p table = (q : ℕ) → bit_of table q ≡ (is_cell (length (member_links net t)) q && p (cell_handle (member_links net t) q))
