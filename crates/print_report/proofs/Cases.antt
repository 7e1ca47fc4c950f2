-- What is printed for document 01's starred networks and for refused sheets, proved of the definitions from the sheet's bytes on by
-- computing a table. Assumes nothing.
use mathlib.Core.Path.{◌≡◌, refl}
use mathlib.Core.List.{List, [], ◌∷◌, map}
use Rattle.cuts.specs.Answer.{answer}
use Rattle.sheet.specs.Sheet.{current, decode}
use Rattle.sheet.proofs.Cases.{starred}
use Rattle.print_text.specs.Decimal.{Text, decimal}
use Rattle.print_text.specs.Line.{ascii, refused_line}
use Rattle.print_report.specs.Output.{answer_lines, output}

-- A to H, H with each of its shares; C, D and F as request F-6 has them
starred_lines : List Text
starred_lines =
    ascii "answer 2 5 5 0 0 - 1\nside 1\n"
    ∷ ascii "answer 1 5 3 0 0 - 1\nside 1\n"
    ∷ ascii "answer 2 2 2 0 0 1 1\nside 1\n"
    ∷ ascii "answer 1 2 0 0 0 1 1\nside 1\n"
    ∷ ascii "answer 2 2 2 0 0 1 1\nside 1\n"
    ∷ ascii "answer 1 11 3 0 2 - 1\nside 3\n"
    ∷ ascii "answer 2 0 0 0 0 - 1\nside 1\n"
    ∷ ascii "answer 1 4 3 0 0 - 1\nside 1\n"
    ∷ ascii "answer 2 4 4 0 0 - 1\nside 1\n"
    ∷ ascii "answer 2 4 4 0 0 - 1\nside 1\n"
    ∷ ascii "answer 1 4 0 0 0 - 1\nside 1\n"
    ∷ []

starred_printed : map (λ c. output current (decode current c.sheet)) starred ≡ starred_lines
unfolding starred starred_lines decode answer decimal answer_lines
starred_printed = refl

-- no byte at all, and network H with a byte behind its tree
refused_printed : output current (decode current []) ≡ ascii "refused 3\n"
unfolding decode decimal refused_line
refused_printed = refl

longer_printed : output current (decode current (2 ∷ 0 ∷ 1 ∷ 0 ∷ 1 ∷ 7 ∷ 0 ∷ 0 ∷ 1 ∷ 0 ∷ 4 ∷ 0 ∷ 0 ∷ 0 ∷ 1 ∷ 0 ∷ 0 ∷ 0 ∷ 1 ∷ 0 ∷ [])) ≡ ascii "refused 16\n"
unfolding decode decimal refused_line
longer_printed = refl
