-- What the program `trunks` prints (request F-9: "prints each link's number and trunk number, a line a link, or the refusal as before").
-- Assumes nothing.
--   link_line k t     the line of link k with the trunk number t
--   lines_from k ts   the lines of the links from k on, whose trunk numbers are ts
--   output r          what is printed where r is what the crew's reader reads
--   most_line         no line has more bytes: four digits, a space, five digits and the line feed
--   most_output       no output has more bytes: a line for each link
use Rattle.std.specs.Prelude.{ℕ, suc, ◌*◌, List, [], ◌∷◌, ◌++◌}
use Rattle.cuts.specs.Limits.{most_links}
use Rattle.sheet.specs.Reading.{Reading, accepted, refused}
use Rattle.print_text.specs.Decimal.{Text, decimal}
use Rattle.print_text.specs.Line.{line, refused_line}

unfoldable pub link_line : ℕ → ℕ → Text
unfolding line
link_line k t = line (decimal k) (decimal t ∷ [])

unfoldable pub lines_from : ℕ → List ℕ → Text
unfolding link_line
lines_from k [] = []
lines_from k (t ∷ ts) = link_line k t ++ lines_from (suc k) ts

abbrev pub output : Reading (List ℕ) → Text
output (accepted ts rest) = lines_from 0 ts
output (refused n) = refused_line n

abbrev pub most_line : ℕ
most_line = 11

abbrev pub most_output : ℕ
most_output = most_links * most_line
