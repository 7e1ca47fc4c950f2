-- What is printed for sheets with trunk numbers, without them, and refused, proved of the definitions from the sheet's bytes on by computing
-- tables. Assumes nothing.
use mathlib.Core.Path.{◌≡◌, refl}
use mathlib.Core.List.{List, [], ◌∷◌, map}
use Rattle.sheet.specs.Sheet.{current}
use Rattle.sheet.specs.Trunks.{trunks}
use Rattle.sheet.proofs.Cases.{starred, trenches}
use Rattle.print_text.specs.Decimal.{Text, decimal}
use Rattle.print_text.specs.Line.{ascii, refused_line}
use Rattle.print_trunks.specs.Output.{lines_from, output}

-- network A with one trunk, H with two links more in two, E with one from link 1 on, A with none; bytes behind the tree, a field cut off
trench_lines : List Text
trench_lines =
    ascii "0 263\n1 263\n2 263\n"
    ∷ ascii "0 1\n1 65535\n2 65535\n"
    ∷ ascii "0 0\n1 5\n2 5\n"
    ∷ ascii "0 0\n1 0\n2 0\n"
    ∷ ascii "refused 16\n"
    ∷ ascii "refused 9\n"
    ∷ []

trenches_printed : map (λ c. output (trunks current c.sheet)) trenches ≡ trench_lines
unfolding trenches trench_lines trunks decimal lines_from refused_line
trenches_printed = refl

-- A to H, H with each of its shares: every link has trunk number 0
starred_lines : List Text
starred_lines =
    ascii "0 0\n1 0\n2 0\n"
    ∷ ascii "0 0\n1 0\n2 0\n"
    ∷ ascii "0 0\n1 0\n2 0\n3 0\n"
    ∷ ascii "0 0\n1 0\n2 0\n3 0\n"
    ∷ ascii "0 0\n1 0\n2 0\n"
    ∷ ascii "0 0\n1 0\n2 0\n3 0\n4 0\n"
    ∷ ascii "0 0\n"
    ∷ ascii "0 0\n"
    ∷ ascii "0 0\n"
    ∷ ascii "0 0\n"
    ∷ ascii "0 0\n"
    ∷ []

starred_printed : map (λ c. output (trunks current c.sheet)) starred ≡ starred_lines
unfolding starred starred_lines trunks decimal lines_from
starred_printed = refl
