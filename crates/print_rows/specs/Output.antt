-- What the program `rows` prints (document 02, F-12: "a small program prints that table from the formula, one number a line").
-- Assumes nothing.
--   row_line x     the line of a number
--   row_lines xs   the numbers xs, a line each
--   output         what is printed: where the rows of the ranks 0 to 254 start
--   most_line      no line has more bytes: five digits and the line feed
--   most_output    no output has more bytes: a line for each rank
use Rattle.std.specs.Prelude.{ℕ, ◌*◌, List, [], ◌∷◌, ◌++◌}
use Rattle.print_text.specs.Decimal.{Text, decimal}
use Rattle.print_text.specs.Line.{line}
use Rattle.pairs.specs.Slots.{row_starts}

unfoldable pub row_line : ℕ → Text
unfolding decimal line
row_line x = line (decimal x) []

unfoldable pub row_lines : List ℕ → Text
unfolding row_line
row_lines [] = []
row_lines (x ∷ xs) = row_line x ++ row_lines xs

unfoldable pub output : Text
unfolding row_lines row_starts
output = row_lines row_starts

abbrev pub most_line : ℕ
most_line = 6

abbrev pub most_output : ℕ
most_output = 255 * most_line
