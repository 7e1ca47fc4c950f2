-- Lines and numbers by cases, computed from the definitions. Assumes nothing.
use Prim.Native.Nat.{ℕ}
use mathlib.Core.Path.{◌≡◌, refl}
use mathlib.Core.List.{List, [], ◌∷◌, map}
use Rattle.print_text.specs.Decimal.{decimal}
use Rattle.print_text.specs.Line.{ascii, line}

-- the least and the largest number of one digit and of two, and the largest node
numbers : List ℕ
numbers = 0 ∷ 9 ∷ 10 ∷ 99 ∷ 255 ∷ []

numbers-line : line (ascii "numbers") (map decimal numbers) ≡ ascii "numbers 0 9 10 99 255\n"
unfolding numbers line decimal
numbers-line = refl

no-field_line : line (ascii "side") [] ≡ ascii "side\n"
unfolding line
no-field_line = refl
