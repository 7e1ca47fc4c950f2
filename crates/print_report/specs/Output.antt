-- What the report program prints (document 01, "The report program"). Assumes nothing.
--   answer_word, side_word   the keywords
--   second_field h           the field of a handle's second link: a dash for a single link
--   answer_fields a          verdict, weight, floor, tree, first link, second link, nodes in the side
--   side_fields s            the nodes in a side, rising
--   answer_lines a           the two lines of an answer
--   output f r               what is printed where r is what the sheet gives in the format f
--   most_output              no output has more bytes
use Rattle.std.specs.Prelude.{ℕ, List, [], ◌∷◌, ◌++◌, map}
use Rattle.cuts.specs.Sums.{select}
use Rattle.cuts.specs.Network.{Network, flag}
use Rattle.cuts.specs.Cut.{Side}
use Rattle.cuts.specs.Limits.{most_nodes}
use Rattle.cuts.specs.Candidate.{Handle, one, two}
use Rattle.cuts.specs.Answer.{Answer, answer}
use Rattle.sheet.specs.Reading.{Reading, accepted, refused}
use Rattle.sheet.specs.Sheet.{Format}
use Rattle.sheet.specs.Areas.{first_link}
use Rattle.print_text.specs.Decimal.{Text, decimal}
use Rattle.print_text.specs.Line.{ascii, line, refused_line}

abbrev pub answer_word : Text
answer_word = ascii "answer"

abbrev pub side_word : Text
side_word = ascii "side"

abbrev pub second_field : Handle → Text
second_field (one e) = ascii "-"
second_field (two e f) = decimal f

abbrev pub answer_fields : Answer → List Text
answer_fields a =
    decimal a.verdict ∷ decimal a.best.weight ∷ decimal a.floor ∷ decimal a.best.tree
    ∷ decimal (first_link a.best.handle) ∷ second_field a.best.handle ∷ decimal a.best.count ∷ []

-- there are at most 256 nodes, and past its last node a side has no flag set
unfoldable pub side_fields : Side → List Text
unfolding select
side_fields s = map decimal (select most_nodes (flag s))

unfoldable pub answer_lines : Answer → Text
unfolding line side_fields
answer_lines a = line answer_word (answer_fields a) ++ line side_word (side_fields a.best.side)

abbrev pub output : Format → Reading Network → Text
output f (accepted net rest) = answer_lines (answer f.rules net)
output f (refused n) = refused_line n

-- 75 for the first line with each field of the report area at its largest, 919 for the second with all 256 nodes
abbrev pub most_output : ℕ
most_output = 994
