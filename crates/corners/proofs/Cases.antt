-- Tables and refusals for two sides of small networks, by computing two tables.
--   Given          a sheet, two maps, the number returned and the table
--   given_of g      the same with the number and the table that the definitions give
--   givens         sides that cross, on document 01's ring and on a network of six different weights, and each other's corners swapped;
--                  sides of which one holds the other, sides apart, equal sides, links of weight 0; refusals and their order
--   Crossed        a network, two sides, the weight reported of the network, what each side weighs, and what each of their corners weighs
--   crossed_of c    the same with the weights that the definitions give
--   crossed        lightest sides that cross, lightest sides that do not, and sides that are lightest only of those that a tree shows
-- Assumes nothing.
use Prim.Native.Nat.{ℕ}
use mathlib.Core.Path.{◌≡◌, refl}
use mathlib.Core.Bool.{true, false}
use mathlib.Core.List.{List, [], ◌∷◌, ◌++◌, map}
use lib.ListN.{replicate}
use Rattle.cuts.specs.Sums.{table}
use Rattle.cuts.specs.Network.{Link, Network}
use Rattle.cuts.specs.Cut.{Side, cut_weight}
use Rattle.cuts.specs.Answer.{reported}
use Rattle.sheet.specs.Bytes.{Bytes}
use Rattle.sheet.specs.Reading.{Reading, number_of}
use Rattle.sheet.specs.Sheet.{current}
use Rattle.sheet.specs.Areas.{side_read}
use Rattle.sheet.proofs.Cases.{header, link, tree, ring}
use Rattle.corners.specs.Corners.{corner_side, corner_table}
use Rattle.corners.specs.CornersTold.{corner_reading, no_table, table_left, table_read}

-- ---- sheets of few nodes with one tree, and maps of few nodes

-- document 01's network C
abbrev case_c : Bytes
case_c = ring 1 ++ tree 1 7

-- all links between four nodes, of six different weights
abbrev square : Bytes
square = header 4 6 1 ++ link 0 1 1 ++ link 1 2 2 ++ link 2 3 3 ++ link 3 0 4 ++ link 0 2 5 ++ link 1 3 6 ++ tree 1 7

-- two links of weight 0, one beside a link of weight 3
abbrev idle : Bytes
idle = header 3 3 1 ++ link 0 1 0 ++ link 0 2 3 ++ link 2 0 0 ++ tree 1 3

-- the 32 bytes of a map whose first byte is b
abbrev nodes : ℕ → Bytes
nodes b = b ∷ replicate 31 0

-- ---- tables and refusals

record Given : Type 0 where
  sheet : Bytes
  first : Bytes
  second : Bytes
  number : ℕ
  corners : List (List ℕ)

abbrev gives : Bytes → Bytes → Bytes → ℕ → List (List ℕ) → Given
gives bs r s n t = record { sheet = bs; first = r; second = s; number = n; corners = t }

given_of : Given → Given
unfolding corner_reading side_read corner_table
given_of g =
    let r : Reading Network = corner_reading current g.sheet g.first g.second in
    gives g.sheet g.first g.second (number_of r) (table_left g.first g.second r)

-- {1, 2} and {2, 3} of the square
abbrev crossing : List (List ℕ)
crossing = (0 ∷ 2 ∷ 3 ∷ 5 ∷ []) ∷ (2 ∷ 0 ∷ 6 ∷ 1 ∷ []) ∷ (3 ∷ 6 ∷ 0 ∷ 4 ∷ []) ∷ (5 ∷ 1 ∷ 4 ∷ 0 ∷ []) ∷ []

givens : List Given
givens =
    gives case_c (nodes 6) (nodes 12) 0 ((0 ∷ 1 ∷ 1 ∷ 0 ∷ []) ∷ (1 ∷ 0 ∷ 0 ∷ 1 ∷ []) ∷ (1 ∷ 0 ∷ 0 ∷ 1 ∷ []) ∷ (0 ∷ 1 ∷ 1 ∷ 0 ∷ []) ∷ [])
    ∷ gives square (nodes 6) (nodes 12) 0 crossing
    ∷ gives square (nodes 12) (nodes 6) 0 ((0 ∷ 3 ∷ 2 ∷ 5 ∷ []) ∷ (3 ∷ 0 ∷ 6 ∷ 4 ∷ []) ∷ (2 ∷ 6 ∷ 0 ∷ 1 ∷ []) ∷ (5 ∷ 4 ∷ 1 ∷ 0 ∷ []) ∷ [])
    -- {1, 2} holds {2}; {1} and {3} are apart; equal sides
    ∷ gives square (nodes 6) (nodes 4) 0 ((0 ∷ 2 ∷ 0 ∷ 8 ∷ []) ∷ (2 ∷ 0 ∷ 0 ∷ 7 ∷ []) ∷ (0 ∷ 0 ∷ 0 ∷ 0 ∷ []) ∷ (8 ∷ 7 ∷ 0 ∷ 0 ∷ []) ∷ [])
    ∷ gives square (nodes 2) (nodes 8) 0 ((0 ∷ 0 ∷ 0 ∷ 0 ∷ []) ∷ (0 ∷ 0 ∷ 6 ∷ 3 ∷ []) ∷ (0 ∷ 6 ∷ 0 ∷ 7 ∷ []) ∷ (0 ∷ 3 ∷ 7 ∷ 0 ∷ []) ∷ [])
    ∷ gives square (nodes 6) (nodes 6) 0 ((0 ∷ 0 ∷ 0 ∷ 15 ∷ []) ∷ (0 ∷ 0 ∷ 0 ∷ 0 ∷ []) ∷ (0 ∷ 0 ∷ 0 ∷ 0 ∷ []) ∷ (15 ∷ 0 ∷ 0 ∷ 0 ∷ []) ∷ [])
    ∷ gives idle (nodes 2) (nodes 4) 0 ((0 ∷ 0 ∷ 0 ∷ 0 ∷ []) ∷ (0 ∷ 0 ∷ 0 ∷ 0 ∷ []) ∷ (0 ∷ 0 ∷ 0 ∷ 3 ∷ []) ∷ (0 ∷ 0 ∷ 3 ∷ 0 ∷ []) ∷ [])
    -- what stands behind 32 bytes is not read
    ∷ gives square (nodes 6 ++ 255 ∷ []) (nodes 12 ++ 1 ∷ 7 ∷ []) 0 crossing
    -- 31 bytes, also where there is no sheet; no sheet
    ∷ gives [] (6 ∷ replicate 30 0) (nodes 12) 1 no_table
    ∷ gives case_c (nodes 6) (replicate 31 0) 1 no_table
    ∷ gives [] (nodes 0) (nodes 12) 3 no_table
    -- an empty side, node 0 inside, a bit from the node count up, the last bit; and after the sheet's refusals
    ∷ gives case_c (nodes 0) (nodes 12) 21 no_table
    ∷ gives case_c (nodes 6) (nodes 0) 21 no_table
    ∷ gives case_c (nodes 7) (nodes 12) 21 no_table
    ∷ gives case_c (nodes 6) (nodes 28) 21 no_table
    ∷ gives case_c (6 ∷ replicate 30 0 ++ 128 ∷ []) (nodes 12) 21 no_table
    ∷ gives (case_c ++ 0 ∷ []) (nodes 0) (nodes 12) 16 no_table
    ∷ []

givens-told : map given_of givens ≡ givens
unfolding givens given_of
givens-told = refl

-- rows one behind the other
crossing-read : table_read (0 ∷ 2 ∷ 3 ∷ 5 ∷ 2 ∷ 0 ∷ 6 ∷ 1 ∷ 3 ∷ 6 ∷ 0 ∷ 4 ∷ 5 ∷ 1 ∷ 4 ∷ 0 ∷ []) ≡ crossing
unfolding table_read
crossing-read = refl

-- ---- what corners weigh

record Crossed : Type 0 where
  network : Network
  first : Side
  second : Side
  weight : ℕ
  sides : List ℕ
  corners : List ℕ

abbrev crosses : Network → Side → Side → ℕ → List ℕ → List ℕ → Crossed
crosses net r s w ws cs = record { network = net; first = r; second = s; weight = w; sides = ws; corners = cs }

abbrev joined : ℕ → ℕ → ℕ → Link
joined x y w = record { first = x; second = y; weight = w }

-- a ring of six nodes, and the tree of all its links but the last
abbrev six : Network
six = record {
  nodes = 6;
  links = joined 0 1 1 ∷ joined 1 2 1 ∷ joined 2 3 1 ∷ joined 3 4 1 ∷ joined 4 5 1 ∷ joined 5 0 1 ∷ [];
  trees = record { share = 1; members = true ∷ true ∷ true ∷ true ∷ true ∷ false ∷ [] } ∷ [];
}

-- {1, 2, 3, 4} weighs 0 and crosses three of the tree's links, which are the first four
abbrev hidden : Network
hidden = record {
  nodes = 5;
  links = joined 0 1 0 ∷ joined 1 2 1 ∷ joined 0 3 0 ∷ joined 0 4 0 ∷ joined 1 4 1 ∷ joined 2 3 1 ∷ [];
  trees = record { share = 1; members = true ∷ true ∷ true ∷ true ∷ false ∷ false ∷ [] } ∷ [];
}

crossed_of : Crossed → Crossed
unfolding reported cut_weight corner_side table
crossed_of c =
    let net : Network = c.network in
    crosses net c.first c.second (reported current.rules.key net).weight (cut_weight net c.first ∷ cut_weight net c.second ∷ [])
    (table 4 (λ i. cut_weight net (corner_side net c.first c.second i)))

crossed : List Crossed
crossed =
    -- {1, 2, 3} and {3, 4}: each corner is a lightest side too
    crosses six (false ∷ true ∷ true ∷ true ∷ false ∷ false ∷ []) (false ∷ false ∷ false ∷ true ∷ true ∷ false ∷ []) 2 (2 ∷ 2 ∷ []) (2 ∷ 2 ∷ 2 ∷ 2 ∷ [])
    -- {1, 2} and {4}: no node is in both, and what is in neither weighs more
    ∷ crosses six (false ∷ true ∷ true ∷ false ∷ false ∷ false ∷ []) (false ∷ false ∷ false ∷ false ∷ true ∷ false ∷ []) 2 (2 ∷ 2 ∷ []) (0 ∷ 2 ∷ 2 ∷ 4 ∷ [])
    -- {2, 3} and {1, 2, 4}: lightest of the sides that the tree shows, but not of all; a corner weighs more, and one less
    ∷ crosses hidden (false ∷ false ∷ true ∷ true ∷ false ∷ []) (false ∷ true ∷ true ∷ false ∷ true ∷ []) 1 (1 ∷ 1 ∷ []) (2 ∷ 1 ∷ 1 ∷ 0 ∷ [])
    ∷ []

crossed-weighed : map crossed_of crossed ≡ crossed
unfolding crossed crossed_of
crossed-weighed = refl
