-- Pair sheets of small networks and refusals, and the ends of the table of row starts, by computing.
--   Asked        a sheet, a tree's number, an area, the number returned and the area afterwards
--   asked_of a    the same with the number and the area that the definitions give
--   asked        document 01's networks F and H, a star of four links, a network of six different weights with two trees, and links of the
--                largest weight; refusals and their order
-- Assumes nothing.
use Prim.Native.Nat.{ℕ}
use mathlib.Core.Path.{◌≡◌, refl}
use mathlib.Core.List.{List, [], ◌∷◌, ◌++◌, map}
use lib.ListN.{length, get_or, take}
use Rattle.cuts.specs.Network.{Network}
use Rattle.sheet.specs.Bytes.{Bytes}
use Rattle.sheet.specs.Reading.{Reading, number_of}
use Rattle.sheet.specs.Sheet.{current}
use Rattle.sheet.proofs.Cases.{header, link, tree}
use Rattle.pairs.specs.Slots.{row_start, row_starts}
use Rattle.pairs.specs.Pairs.{pair_weights}
use Rattle.pairs.specs.PairsWritten.{pair_reading, weights_left}

-- ---- sheets

-- document 01's network F
abbrev case_f : Bytes
case_f = header 4 5 1 ++ link 0 1 1 ++ link 1 2 1 ++ link 2 3 1 ++ link 0 2 10 ++ link 1 3 10 ++ tree 1 7

-- document 01's network H
abbrev bridge : Bytes
bridge = header 2 1 1 ++ link 0 1 4 ++ tree 1 1

-- links of the weights 1, 2, 4 and 8 at the root, and one of weight 16 between two of the other nodes
abbrev star : Bytes
star = header 5 5 1 ++ link 0 1 1 ++ link 0 2 2 ++ link 0 3 4 ++ link 0 4 8 ++ link 1 2 16 ++ tree 1 15

-- all links between four nodes, with the trees of the links 0, 2 and 3, and of the links 0, 3 and 4
abbrev square : Bytes
square = header 4 6 2 ++ link 0 1 1 ++ link 1 2 2 ++ link 2 3 3 ++ link 3 0 4 ++ link 0 2 5 ++ link 1 3 6 ++ tree 1 13 ++ tree 1 25

-- two links of the largest weight at the root; the second inherits it
abbrev heavy : Bytes
heavy = header 3 2 1 ++ (7 ∷ 0 ∷ 0 ∷ 1 ∷ 0 ∷ 255 ∷ 255 ∷ 255 ∷ 255 ∷ []) ++ (2 ∷ 2 ∷ 0 ∷ []) ++ tree 1 3

-- ---- pair sheets and refusals

record Asked : Type 0 where
  sheet : Bytes
  tree : ℕ
  before : List ℕ
  number : ℕ
  after : List ℕ

abbrev asks : Bytes → ℕ → List ℕ → ℕ → List ℕ → Asked
asks bs t old n new = record { sheet = bs; tree = t; before = old; number = n; after = new }

asked_of : Asked → Asked
unfolding pair_reading pair_weights
asked_of a =
    let r : Reading Network = pair_reading current a.sheet a.tree a.before in
    asks a.sheet a.tree a.before (number_of r) (weights_left a.tree a.before r)

asked : List Asked
asked =
    -- the sides {1}, {1, 2} and {2}
    asks case_f 0 (9 ∷ 9 ∷ 9 ∷ []) 0 (12 ∷ 22 ∷ 12 ∷ [])
    -- the pairs of the ranks 0 and 1; 0 and 2, 1 and 2; 0 and 3, 1 and 3, 2 and 3; and two numbers more
    ∷ asks star 0 (9 ∷ 9 ∷ 9 ∷ 9 ∷ 9 ∷ 9 ∷ 9 ∷ 7 ∷ []) 0 (3 ∷ 21 ∷ 22 ∷ 25 ∷ 26 ∷ 12 ∷ 9 ∷ 7 ∷ [])
    -- the sides {1, 2}, {1, 2, 3} and {3}; {1, 3}, {1, 2} and {2, 3}
    ∷ asks square 0 (0 ∷ 0 ∷ 0 ∷ []) 0 (15 ∷ 10 ∷ 13 ∷ [])
    ∷ asks square 1 (0 ∷ 0 ∷ 0 ∷ []) 0 (10 ∷ 15 ∷ 17 ∷ [])
    -- more than four bytes
    ∷ asks heavy 0 (0 ∷ []) 0 (8_589_934_590 ∷ [])
    -- a single link has no pair
    ∷ asks bridge 0 [] 0 []
    ∷ asks bridge 0 (5 ∷ []) 0 (5 ∷ [])
    -- 23 comes before 24, and the sheet's refusals come before both
    ∷ asks square 2 (0 ∷ 0 ∷ 0 ∷ []) 23 (0 ∷ 0 ∷ 0 ∷ [])
    ∷ asks square 4_294_967_295 (1 ∷ []) 23 (1 ∷ [])
    ∷ asks bridge 1 [] 23 []
    ∷ asks star 1 [] 23 []
    ∷ asks square 1 (6 ∷ 7 ∷ []) 24 (6 ∷ 7 ∷ [])
    ∷ asks star 0 (1 ∷ 2 ∷ 3 ∷ 4 ∷ 5 ∷ []) 24 (1 ∷ 2 ∷ 3 ∷ 4 ∷ 5 ∷ [])
    ∷ asks (square ++ 0 ∷ []) 2 [] 16 []
    ∷ asks [] 0 (8 ∷ []) 3 (8 ∷ [])
    ∷ []

asked-written : map asked_of asked ≡ asked
unfolding asked asked_of
asked-written = refl

-- ---- row starts

row_starts-ends : length row_starts ∷ get_or row_starts 253 0 ∷ get_or row_starts 254 0 ∷ take 6 row_starts ≡ 255 ∷ 31878 ∷ 32131 ∷ 0 ∷ 0 ∷ 1 ∷ 3 ∷ 6 ∷ 10 ∷ []
unfolding row_starts
row_starts-ends = refl

-- a tree of 255 links has as many pairs
most-pairs : row_start 255 ≡ 32385
most-pairs = refl
