-- The first lines and the last, by computing. Assumes nothing.
use mathlib.Core.Path.{◌≡◌, refl}
use lib.ListN.{take, drop}
use Rattle.pairs.specs.Slots.{row_starts}
use Rattle.print_text.specs.Line.{ascii}
use Rattle.print_rows.specs.Output.{row_lines}

first-lines : row_lines (take 7 row_starts) ≡ ascii "0\n0\n1\n3\n6\n10\n15\n"
unfolding row_lines row_starts
first-lines = refl

last-lines : row_lines (drop 253 row_starts) ≡ ascii "31878\n32131\n"
unfolding row_lines row_starts
last-lines = refl
