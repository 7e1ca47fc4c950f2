-- Figures and refusals for document 01's networks A, C, F and H, for two parallel links, for links of weight 0 and the largest, and at the
-- edges, by computing a table.
--   Asked        a sheet, a link, a wanted weight, the number returned and the figure
--   asked_of a    the same with the number and the figure that the definitions give
--   asked        figures up to the least of the sides that do not separate the ends, and one more; up to the largest weight, and one more;
--                refusals and their order
-- Assumes nothing.
use Prim.Native.Nat.{ℕ}
use mathlib.Core.Path.{◌≡◌, refl}
use mathlib.Core.List.{List, [], ◌∷◌, ◌++◌, map}
use Rattle.sheet.specs.Bytes.{Bytes}
use Rattle.sheet.specs.Reading.{Reading, number_of}
use Rattle.sheet.specs.Sheet.{current}
use Rattle.sheet.proofs.Cases.{header, link, tree, ring}
use Rattle.thickness.specs.ThicknessTold.{thickness_reading, figure_left}

-- ---- sheets of few nodes with one tree

-- document 01's network A
abbrev case_a : Bytes
case_a = header 3 3 1 ++ link 0 1 3 ++ link 1 2 2 ++ link 0 2 4 ++ tree 2 5

-- document 01's network C
abbrev case_c : Bytes
case_c = ring 1 ++ tree 1 7

-- document 01's network F
abbrev case_f : Bytes
case_f = header 4 5 1 ++ link 0 1 1 ++ link 1 2 1 ++ link 2 3 1 ++ link 0 2 10 ++ link 1 3 10 ++ tree 1 7

-- a single link
abbrev bridge : Bytes
bridge = header 2 1 1 ++ link 0 1 4 ++ tree 1 1

-- two parallel links of weight 9, the first in the tree
abbrev parallel : Bytes
parallel = header 2 2 1 ++ link 0 1 9 ++ link 0 1 9 ++ tree 1 1

-- network A with a first link of weight 0, which both others inherit
abbrev idle : Bytes
idle = header 3 3 1 ++ link 0 1 0 ++ (3 ∷ 1 ∷ 0 ∷ 2 ∷ 0 ∷ []) ++ (3 ∷ 0 ∷ 0 ∷ 2 ∷ 0 ∷ []) ++ tree 2 5

-- ---- figures and refusals

record Asked : Type 0 where
  sheet : Bytes
  link : ℕ
  wanted : ℕ
  number : ℕ
  figure : ℕ

abbrev asks : Bytes → ℕ → ℕ → ℕ → ℕ → Asked
asks bs k w n x = record { sheet = bs; link = k; wanted = w; number = n; figure = x }

asked_of : Asked → Asked
unfolding thickness_reading
asked_of a =
    let r : Reading ℕ = thickness_reading current a.sheet a.link a.wanted in
    asks a.sheet a.link a.wanted (number_of r) (figure_left r)

asked : List Asked
asked =
    -- A's first link weighs 3: side {1} weighs 2 more than it, side {2} weighs 6 whatever it weighs
    asks case_a 0 0 0 0
    ∷ asks case_a 0 2 0 0
    ∷ asks case_a 0 3 0 1
    ∷ asks case_a 0 5 0 3
    ∷ asks case_a 0 6 0 4
    ∷ asks case_a 0 7 20 0
    ∷ asks case_a 0 4_294_967_301 20 0
    ∷ asks case_a 0 18_446_744_073_709_551_615 20 0
    -- in a ring of equal links one more on a single link does not help
    ∷ asks case_c 0 2 0 1
    ∷ asks case_c 0 3 20 0
    -- F: side {1, 3} weighs 3, and no tree shows it
    ∷ asks case_f 2 10 0 0
    ∷ asks case_f 2 11 0 1
    ∷ asks case_f 2 12 20 0
    -- no side leaves the ends of a single link together
    ∷ asks bridge 0 4_294_967_295 0 4_294_967_295
    ∷ asks bridge 0 4_294_967_296 20 0
    -- a link outside the tree
    ∷ asks parallel 1 9 0 0
    ∷ asks parallel 1 4_294_967_304 0 4_294_967_295
    ∷ asks parallel 1 4_294_967_305 20 0
    -- the links behind the first took its weight over, and keep it: each other side weighs 0
    ∷ asks idle 0 0 0 0
    ∷ asks idle 0 1 20 0
    -- 18 comes before 20, and the sheet's refusals come before both
    ∷ asks case_a 3 18_446_744_073_709_551_615 18 0
    ∷ asks case_a 3 0 18 0
    ∷ asks case_a 4_294_967_295 0 18 0
    ∷ asks (case_a ++ 0 ∷ []) 3 0 16 0
    ∷ asks [] 0 7 3 0
    ∷ []

asked-answered : map asked_of asked ≡ asked
unfolding asked asked_of
asked-answered = refl
