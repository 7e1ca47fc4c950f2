-- The slots of a pair sheet, which document 02 calls places: a row for each rank r, with a slot for each rank s below it (F-12).
-- Assumes nothing.
--   row_start r     where the row of rank r starts: the rows before it have 0, 1, .., r - 1 slots
--   pair_slot r s   the slot of the pair of the ranks s and r, s below r
--   pair_rows n f   f r s for all s < r < n, row by row
--   row_starts      where the rows of the ranks 0 to 254 start; a tree has at most 255 links
use Rattle.std.specs.Prelude.{ℕ, zero, suc, ◌+◌, ◌-◌, ◌*◌, ◌/◌, List, [], ◌++◌}
use Rattle.cuts.specs.Sums.{table}
use Rattle.cuts.specs.Limits.{most_nodes}

-- "r(r−1)/2"
abbrev pub row_start : ℕ → ℕ
row_start r = r * (r - 1) / 2

-- "place r(r−1)/2 + s"
abbrev pub pair_slot : ℕ → ℕ → ℕ
pair_slot r s = row_start r + s

unfoldable pub pair_rows : {A : Type 0} → ℕ → (ℕ → ℕ → A) → List A
unfolding table
pair_rows zero f = []
pair_rows (suc r) f = pair_rows r f ++ table r (λ s. f r s)

-- "Row starts for ranks 0 to 254 come from a constant table, and a small program prints that table from the formula": what the table has,
-- and the numbers that the program prints
unfoldable pub row_starts : List ℕ
unfolding table
row_starts = table (most_nodes - 1) row_start
