-- Document 01's "Networks to try" and what else its words pin down, proved of the definitions together by computing tables.
--   Lines            the numbers of an answer line, with 65535 for `-`, and the nodes of a side line
--   Case             a sheet and its lines: of units already sold, and in force
--   starred          the starred networks A to H, H with each of its shares
--   others           network I, inherited fields, maps of a full byte and of two, and the largest numbers
--   heavier          sheets with weights past document 01's limit
--   in_areas f bs     what both areas of the format f hold after the sheet bs, read back from their bytes
--   overloading      sheets whose trees load a link past its weight together, and their lines by document 01's rule for the floor and in force
--   Layout           a sheet and the bytes of both areas
--   layouts          the bytes of both areas for A, E and F in document 01's format, in areas of 33 and 18 bytes that were full of nines
--   wide_layouts      those for E, F and two sheets with heavier links in the format in force, the report area of 26 bytes
--   laid_out f n bs   the sheet bs and the bytes of areas of 33 and n bytes, full of nines, after it in the format f
--   Trunked          a sheet, the trunk numbers of its links, and the sheet without them
--   trenches         sheets with trunk numbers
--   read bs          the sheet bs, the trunk numbers read from it, or the refusal, and the sheet without them
--   Numbered         a sheet and its return numbers: of units already sold, by document 01's format and by that of F-3, and in force
--   numbers          0 for an accepted sheet; sheets with one fault, then sheets with two, of which the first in the list counts
--   numbered bs      the sheet bs and its return numbers
-- Assumes nothing.
use Prim.Native.Nat.{ℕ}
use mathlib.Core.Path.{◌≡◌, refl}
use mathlib.Core.List.{List, [], ◌∷◌, ◌++◌, map}
use lib.ListN.{take, replicate}
use Rattle.cuts.specs.Sums.{select}
use Rattle.cuts.specs.Network.{Network, flag}
use Rattle.cuts.specs.Answer.{Answer, answer}
use Rattle.sheet.specs.Bytes.{Bytes}
use Rattle.sheet.specs.Reading.{accepted, refused, number_of}
use Rattle.sheet.specs.Sheet.{Format, base, wide, tolerant, trunked, current, decode, sheet_most}
use Rattle.sheet.specs.Trunks.{trunks}
use Rattle.sheet.proofs.Plain.{plain}
use Rattle.sheet.specs.Areas.{side_bytes, report_bytes, side_after, report_after, answer_read, first_link, second_link}

-- ---- sheets of small numbers: a header, link records with all fields, without and with a trunk number, and a tree record with a map of
-- one byte

abbrev pub header : ℕ → ℕ → ℕ → Bytes
header n m t = n ∷ 0 ∷ m ∷ 0 ∷ t ∷ []

abbrev pub link : ℕ → ℕ → ℕ → Bytes
link x y w = 7 ∷ x ∷ 0 ∷ y ∷ 0 ∷ w ∷ 0 ∷ 0 ∷ 0 ∷ []

abbrev trunk_link : ℕ → ℕ → ℕ → ℕ → Bytes
trunk_link x y w t = 15 ∷ x ∷ 0 ∷ y ∷ 0 ∷ w ∷ 0 ∷ 0 ∷ 0 ∷ t ∷ 0 ∷ []

abbrev pub tree : ℕ → ℕ → Bytes
tree share members = share ∷ 0 ∷ 0 ∷ 0 ∷ members ∷ []

-- the third link inherits the second end of the second
abbrev triangle : Bytes
triangle = header 3 3 1 ++ link 0 1 3 ++ link 1 2 2 ++ 5 ∷ 0 ∷ 0 ∷ 4 ∷ 0 ∷ 0 ∷ 0 ∷ []

abbrev pub ring : ℕ → Bytes
ring trees = header 4 4 trees ++ link 0 1 1 ++ link 1 2 1 ++ link 2 3 1 ++ link 3 0 1

abbrev thick_ring : Bytes
thick_ring = header 3 3 1 ++ link 0 1 1 ++ link 1 2 1 ++ link 0 2 10

abbrev ladder : ℕ → Bytes
ladder trees = header 4 5 trees ++ link 0 1 1 ++ link 1 2 1 ++ link 2 3 1 ++ link 0 2 10 ++ link 1 3 10

abbrev bridges : ℕ → ℕ → Bytes
bridges w trees = header 2 1 trees ++ link 0 1 w

abbrev bridge : ℕ → Bytes
bridge w = bridges w 1

-- links 1-0:2, 1-2:2 and 1-2:2, of which the second has only its second end and the third no field
abbrev inherited : Bytes
inherited = header 3 3 1 ++ link 1 0 2 ++ 2 ∷ 2 ∷ 0 ∷ 0 ∷ []

-- m parallel links of weight 1
abbrev parallel : ℕ → Bytes → Bytes
parallel m rest = header 2 m 1 ++ link 0 1 1 ++ rest

-- two parallel links of weight 9
abbrev parallel_nines : ℕ → Bytes
parallel_nines trees = header 2 2 trees ++ link 0 1 9 ++ link 0 1 9

-- a link of weight 1,000,001 between x and y
abbrev heavy : ℕ → ℕ → Bytes
heavy x y = 7 ∷ x ∷ 0 ∷ y ∷ 0 ∷ 65 ∷ 66 ∷ 15 ∷ 0 ∷ []

-- the largest number of four bytes, and two links of that weight
abbrev largest : Bytes
largest = 255 ∷ 255 ∷ 255 ∷ 255 ∷ []

abbrev largest_pair : ℕ → Bytes
largest_pair trees = header 2 2 trees ++ 7 ∷ 0 ∷ 0 ∷ 1 ∷ 0 ∷ largest ++ 0 ∷ []

-- three of four nodes joined by links 0 to 2
abbrev split : ℕ → Bytes
split trees = header 4 4 trees ++ link 0 1 1 ++ link 0 1 1 ++ link 1 2 1 ++ link 2 3 1

-- ---- accepted

record Lines : Type 0 where
  numbers : List ℕ
  nodes : List ℕ

abbrev lines : List ℕ → List ℕ → Lines
lines ns nodes = record { numbers = ns; nodes = nodes }

pub record Case : Type 0 where
  pub sheet : Bytes
  sold : Lines
  now : Lines

abbrev changes : Bytes → Lines → Lines → Case
changes bs sold now = record { sheet = bs; sold = sold; now = now }

abbrev gives : Bytes → List ℕ → List ℕ → Case
gives bs ns nodes = changes bs (lines ns nodes) (lines ns nodes)

unfoldable pub starred : List Case
starred =
    -- A: a triangle, whole
    gives (triangle ++ tree 2 5) (2 ∷ 5 ∷ 5 ∷ 0 ∷ 0 ∷ 65535 ∷ 1 ∷ []) (1 ∷ [])
    -- B: the triangle with share 1
    ∷ gives (triangle ++ tree 1 5) (1 ∷ 5 ∷ 3 ∷ 0 ∷ 0 ∷ 65535 ∷ 1 ∷ []) (1 ∷ [])
    -- C: a ring, share 1. F-6: "C to `answer 2 2 2 0 0 1 1`, `side 1`"
    ∷ changes (ring 1 ++ tree 1 7) (lines (2 ∷ 2 ∷ 2 ∷ 0 ∷ 0 ∷ 65535 ∷ 3 ∷ []) (1 ∷ 2 ∷ 3 ∷ [])) (lines (2 ∷ 2 ∷ 2 ∷ 0 ∷ 0 ∷ 1 ∷ 1 ∷ []) (1 ∷ []))
    -- D: the ring with share 0. "D to `answer 1 2 0 0 0 1 1`, `side 1`"
    ∷ changes (ring 1 ++ tree 0 7) (lines (1 ∷ 2 ∷ 0 ∷ 0 ∷ 0 ∷ 65535 ∷ 3 ∷ []) (1 ∷ 2 ∷ 3 ∷ [])) (lines (1 ∷ 2 ∷ 0 ∷ 0 ∷ 0 ∷ 1 ∷ 1 ∷ []) (1 ∷ []))
    -- E: a ring whose lightest cut crosses two tree links
    ∷ gives (thick_ring ++ tree 1 3) (2 ∷ 2 ∷ 2 ∷ 0 ∷ 0 ∷ 1 ∷ 1 ∷ []) (1 ∷ [])
    -- F: a lighter side, of nodes 1 and 3, crosses three tree links. "F to `answer 1 11 3 0 2 - 1`, `side 3`"
    ∷ changes (ladder 1 ++ tree 1 7) (lines (1 ∷ 11 ∷ 3 ∷ 0 ∷ 0 ∷ 65535 ∷ 3 ∷ []) (1 ∷ 2 ∷ 3 ∷ [])) (lines (1 ∷ 11 ∷ 3 ∷ 0 ∷ 2 ∷ 65535 ∷ 1 ∷ []) (3 ∷ []))
    -- G: a link of weight 0
    ∷ gives (bridge 0 ++ tree 7 1) (2 ∷ 0 ∷ 0 ∷ 0 ∷ 0 ∷ 65535 ∷ 1 ∷ []) (1 ∷ [])
    -- H: a link of weight 4, share 1
    ∷ gives (bridge 4 ++ tree 1 1) (1 ∷ 4 ∷ 3 ∷ 0 ∷ 0 ∷ 65535 ∷ 1 ∷ []) (1 ∷ [])
    -- H: share 2
    ∷ gives (bridge 4 ++ tree 2 1) (2 ∷ 4 ∷ 4 ∷ 0 ∷ 0 ∷ 65535 ∷ 1 ∷ []) (1 ∷ [])
    -- H: share 4
    ∷ gives (bridge 4 ++ tree 4 1) (2 ∷ 4 ∷ 4 ∷ 0 ∷ 0 ∷ 65535 ∷ 1 ∷ []) (1 ∷ [])
    -- H: share 5, more than the link carries
    ∷ gives (bridge 4 ++ tree 5 1) (1 ∷ 4 ∷ 0 ∷ 0 ∷ 0 ∷ 65535 ∷ 1 ∷ []) (1 ∷ [])
    ∷ []

others : List Case
others =
    -- I: the ring with a second tree, both shares 0. "I to links 0 and 1, side {1}"
    changes (ring 2 ++ tree 0 7 ++ tree 0 14) (lines (1 ∷ 2 ∷ 0 ∷ 0 ∷ 0 ∷ 65535 ∷ 3 ∷ []) (1 ∷ 2 ∷ 3 ∷ [])) (lines (1 ∷ 2 ∷ 0 ∷ 0 ∷ 0 ∷ 1 ∷ 1 ∷ []) (1 ∷ []))
    ∷ gives (inherited ++ tree 0 3) (1 ∷ 2 ∷ 0 ∷ 0 ∷ 0 ∷ 65535 ∷ 2 ∷ []) (1 ∷ 2 ∷ [])
    -- eight links with link 7 in the tree, and nine with link 8
    ∷ gives (parallel 8 (replicate 7 0) ++ tree 0 128) (1 ∷ 8 ∷ 0 ∷ 0 ∷ 7 ∷ 65535 ∷ 1 ∷ []) (1 ∷ [])
    ∷ gives (parallel 9 (replicate 8 0) ++ tree 0 0 ++ 1 ∷ []) (1 ∷ 9 ∷ 0 ∷ 0 ∷ 8 ∷ 65535 ∷ 1 ∷ []) (1 ∷ [])
    -- a share of 16,777,217, more than the link carries
    ∷ gives (bridge 4 ++ 1 ∷ 0 ∷ 0 ∷ 1 ∷ 1 ∷ []) (1 ∷ 4 ∷ 0 ∷ 0 ∷ 0 ∷ 65535 ∷ 1 ∷ []) (1 ∷ [])
    -- weight 1,000,000
    ∷ gives (header 2 1 1 ++ 7 ∷ 0 ∷ 0 ∷ 1 ∷ 0 ∷ 64 ∷ 66 ∷ 15 ∷ 0 ∷ tree 0 1) (1 ∷ 1000000 ∷ 0 ∷ 0 ∷ 0 ∷ 65535 ∷ 1 ∷ []) (1 ∷ [])
    ∷ []

heavier : List Case
heavier =
    -- weight 1,000,001
    gives (header 2 1 1 ++ heavy 0 1 ++ tree 1 1) (1 ∷ 1000001 ∷ 3 ∷ 0 ∷ 0 ∷ 65535 ∷ 1 ∷ []) (1 ∷ [])
    -- two links of the largest weight, and a tree of the largest share
    ∷ gives (largest_pair 1 ++ largest ++ 1 ∷ []) (2 ∷ 8589934590 ∷ 8589934590 ∷ 0 ∷ 0 ∷ 65535 ∷ 1 ∷ []) (1 ∷ [])
    ∷ []

abbrev lines_of : Network → Answer → Lines
lines_of net a =
    lines
    (a.verdict ∷ a.best.weight ∷ a.floor ∷ a.best.tree ∷ first_link a.best.handle ∷ second_link a.best.handle
    ∷ a.best.count ∷ [])
    (select net.nodes (flag a.best.side))

in_areas : Format → Bytes → Lines
unfolding decode answer answer_read side_bytes report_bytes select
in_areas f bs =
    elim (decode f bs) [ accepted net rest ↦ lines_of net (answer_read f net.nodes (side_after f net []) (report_after f net [])) | refused n ↦ lines (n ∷ []) [] ]

sold-reported : map (λ c. in_areas base c.sheet) (starred ++ others) ≡ map (λ c. c.sold) (starred ++ others)
unfolding starred others in_areas
sold-reported = refl

trunked-reported : map (λ c. in_areas trunked c.sheet) (starred ++ others ++ heavier) ≡ map (λ c. c.sold) (starred ++ others ++ heavier)
unfolding starred others heavier in_areas
trunked-reported = refl

current-reported : map (λ c. in_areas current c.sheet) (starred ++ others ++ heavier) ≡ map (λ c. c.now) (starred ++ others ++ heavier)
unfolding starred others heavier in_areas
current-reported = refl

-- ---- the trees that count

overloading : List Case
overloading =
    -- F-3: "With 0-1:4 and two trees of shares 2 and 3 the floor rises from 0 to 4 and the verdict from 1 to 2"
    changes (bridges 4 2 ++ tree 2 1 ++ tree 3 1) (lines (1 ∷ 4 ∷ 0 ∷ 0 ∷ 0 ∷ 65535 ∷ 1 ∷ []) (1 ∷ [])) (lines (2 ∷ 4 ∷ 4 ∷ 0 ∷ 0 ∷ 65535 ∷ 1 ∷ []) (1 ∷ []))
    -- the first tree overloads the link, and no later one counts
    ∷ changes (bridges 4 2 ++ tree 5 1 ++ tree 1 1) (lines (1 ∷ 4 ∷ 0 ∷ 0 ∷ 0 ∷ 65535 ∷ 1 ∷ []) (1 ∷ [])) (lines (1 ∷ 4 ∷ 0 ∷ 0 ∷ 0 ∷ 65535 ∷ 1 ∷ []) (1 ∷ []))
    -- of two links of weight 9 the first is loaded with 1 and then with 9 more; behind that stand a share of 0 and a tree of the
    -- second link, which alone would fit
    ∷ changes (parallel_nines 4 ++ tree 1 1 ++ tree 9 1 ++ tree 0 1 ++ tree 9 2) (lines (1 ∷ 18 ∷ 0 ∷ 0 ∷ 0 ∷ 65535 ∷ 1 ∷ []) (1 ∷ [])) (lines (1 ∷ 18 ∷ 3 ∷ 0 ∷ 0 ∷ 65535 ∷ 1 ∷ []) (1 ∷ []))
    -- loads of 1 and 8, which are the weight, and then of 1 more
    ∷ changes (parallel_nines 3 ++ tree 1 1 ++ tree 8 1 ++ tree 1 1) (lines (1 ∷ 18 ∷ 0 ∷ 0 ∷ 0 ∷ 65535 ∷ 1 ∷ []) (1 ∷ [])) (lines (2 ∷ 18 ∷ 18 ∷ 0 ∷ 0 ∷ 65535 ∷ 1 ∷ []) (1 ∷ []))
    -- two links of the largest weight, and two trees of the largest share over one of them
    ∷ changes (largest_pair 2 ++ largest ++ 1 ∷ largest ++ 1 ∷ []) (lines (1 ∷ 8589934590 ∷ 0 ∷ 0 ∷ 0 ∷ 65535 ∷ 1 ∷ []) (1 ∷ [])) (lines (2 ∷ 8589934590 ∷ 8589934590 ∷ 0 ∷ 0 ∷ 65535 ∷ 1 ∷ []) (1 ∷ []))
    -- F with a second tree, which does not count and is searched: below its link 1 lie nodes 1 and 3
    ∷ changes (ladder 2 ++ tree 1 7 ++ tree 9 26) (lines (1 ∷ 3 ∷ 0 ∷ 1 ∷ 1 ∷ 65535 ∷ 2 ∷ []) (1 ∷ 3 ∷ [])) (lines (2 ∷ 3 ∷ 3 ∷ 1 ∷ 1 ∷ 65535 ∷ 2 ∷ []) (1 ∷ 3 ∷ []))
    ∷ []

overloading-sold : map (λ c. in_areas wide c.sheet) overloading ≡ map (λ c. c.sold) overloading
unfolding overloading in_areas
overloading-sold = refl

overloading-reported : map (λ c. in_areas current c.sheet) overloading ≡ map (λ c. c.now) overloading
unfolding overloading in_areas
overloading-reported = refl

-- ---- the bytes of the areas

record Layout : Type 0 where
  sheet : Bytes
  side : Bytes
  report : Bytes

abbrev lays : Bytes → Bytes → Bytes → Layout
lays bs side report = record { sheet = bs; side = side; report = report }

layouts : List Layout
layouts =
    lays (triangle ++ tree 2 5) (2 ∷ replicate 31 0 ++ 9 ∷ []) (2 ∷ 0 ∷ 1 ∷ 0 ∷ 0 ∷ 0 ∷ 255 ∷ 255 ∷ 5 ∷ 0 ∷ 0 ∷ 0 ∷ 5 ∷ 0 ∷ 0 ∷ 0 ∷ 9 ∷ 9 ∷ [])
    ∷ lays (thick_ring ++ tree 1 3) (2 ∷ replicate 31 0 ++ 9 ∷ []) (2 ∷ 0 ∷ 1 ∷ 0 ∷ 0 ∷ 0 ∷ 1 ∷ 0 ∷ 2 ∷ 0 ∷ 0 ∷ 0 ∷ 2 ∷ 0 ∷ 0 ∷ 0 ∷ 9 ∷ 9 ∷ [])
    ∷ lays (ladder 1 ++ tree 1 7) (14 ∷ replicate 31 0 ++ 9 ∷ []) (1 ∷ 0 ∷ 3 ∷ 0 ∷ 0 ∷ 0 ∷ 255 ∷ 255 ∷ 11 ∷ 0 ∷ 0 ∷ 0 ∷ 3 ∷ 0 ∷ 0 ∷ 0 ∷ 9 ∷ 9 ∷ [])
    ∷ []

wide_layouts : List Layout
wide_layouts =
    lays (thick_ring ++ tree 1 3) (2 ∷ replicate 31 0 ++ 9 ∷ [])
    (2 ∷ 0 ∷ 1 ∷ 0 ∷ 0 ∷ 0 ∷ 1 ∷ 0 ∷ 2 ∷ 0 ∷ 0 ∷ 0 ∷ 0 ∷ 0 ∷ 0 ∷ 0 ∷ 2 ∷ 0 ∷ 0 ∷ 0 ∷ 0 ∷ 0 ∷ 0 ∷ 0 ∷ 9 ∷ 9 ∷ [])
    ∷ lays (ladder 1 ++ tree 1 7) (8 ∷ replicate 31 0 ++ 9 ∷ [])
    (1 ∷ 0 ∷ 1 ∷ 0 ∷ 2 ∷ 0 ∷ 255 ∷ 255 ∷ 11 ∷ 0 ∷ 0 ∷ 0 ∷ 0 ∷ 0 ∷ 0 ∷ 0 ∷ 3 ∷ 0 ∷ 0 ∷ 0 ∷ 0 ∷ 0 ∷ 0 ∷ 0 ∷ 9 ∷ 9 ∷ [])
    ∷ lays (header 2 1 1 ++ heavy 0 1 ++ tree 1 1) (2 ∷ replicate 31 0 ++ 9 ∷ [])
    (1 ∷ 0 ∷ 1 ∷ 0 ∷ 0 ∷ 0 ∷ 255 ∷ 255 ∷ 65 ∷ 66 ∷ 15 ∷ 0 ∷ 0 ∷ 0 ∷ 0 ∷ 0 ∷ 3 ∷ 0 ∷ 0 ∷ 0 ∷ 0 ∷ 0 ∷ 0 ∷ 0 ∷ 9 ∷ 9 ∷ [])
    -- a weight of 8,589,934,590, 2^33 - 2, and a floor of 6,442,450,944, 2^32 + 2^31
    ∷ lays (largest_pair 1 ++ 0 ∷ 0 ∷ 0 ∷ 128 ∷ 1 ∷ []) (2 ∷ replicate 31 0 ++ 9 ∷ [])
    (1 ∷ 0 ∷ 1 ∷ 0 ∷ 0 ∷ 0 ∷ 255 ∷ 255 ∷ 254 ∷ 255 ∷ 255 ∷ 255 ∷ 1 ∷ 0 ∷ 0 ∷ 0 ∷ 0 ∷ 0 ∷ 0 ∷ 128 ∷ 1 ∷ 0 ∷ 0 ∷ 0 ∷ 9 ∷ 9 ∷ [])
    ∷ []

laid_out : Format → ℕ → Bytes → Layout
unfolding decode answer side_bytes report_bytes
laid_out f n bs = elim (decode f bs) [ accepted net rest ↦ lays bs (side_after f net (replicate 33 9)) (report_after f net (replicate n 9)) | refused n ↦ lays bs [] [] ]

layouts-written : map (λ l. laid_out base 18 l.sheet) layouts ≡ layouts
unfolding layouts laid_out
layouts-written = refl

wide_layouts-written : map (λ l. laid_out current 26 l.sheet) wide_layouts ≡ wide_layouts
unfolding wide_layouts laid_out
wide_layouts-written = refl

-- ---- trunk numbers

pub record Trunked : Type 0 where
  pub sheet : Bytes
  numbers : List ℕ
  without : Bytes

abbrev carries : Bytes → List ℕ → Bytes → Trunked
carries bs ns without = record { sheet = bs; numbers = ns; without = without }

unfoldable pub trenches : List Trunked
trenches =
    -- A with trunk 263 from link 0 on
    carries (header 3 3 1 ++ 15 ∷ 0 ∷ 0 ∷ 1 ∷ 0 ∷ 3 ∷ 0 ∷ 0 ∷ 0 ∷ 7 ∷ 1 ∷ link 1 2 2 ++ 5 ∷ 0 ∷ 0 ∷ 4 ∷ 0 ∷ 0 ∷ 0 ∷ tree 2 5)
    (263 ∷ 263 ∷ 263 ∷ []) (triangle ++ tree 2 5)
    -- H with two links more in its trench: trunks 1 and 65,535, the last with no field
    ∷ carries (header 2 3 1 ++ trunk_link 0 1 4 1 ++ 8 ∷ 255 ∷ 255 ∷ 0 ∷ tree 1 1)
    (1 ∷ 65535 ∷ 65535 ∷ []) (header 2 3 1 ++ link 0 1 4 ++ 0 ∷ 0 ∷ tree 1 1)
    -- E with trunk 5 from link 1 on
    ∷ carries (header 3 3 1 ++ link 0 1 1 ++ trunk_link 1 2 1 5 ++ link 0 2 10 ++ tree 1 3)
    (0 ∷ 5 ∷ 5 ∷ []) (thick_ring ++ tree 1 3)
    -- A as it was
    ∷ carries (triangle ++ tree 2 5) (0 ∷ 0 ∷ 0 ∷ []) (triangle ++ tree 2 5)
    -- refused: a byte behind the tree, and a trunk number of which one byte is there
    ∷ carries (header 2 1 1 ++ trunk_link 0 1 4 5 ++ tree 1 1 ++ 0 ∷ []) (16 ∷ []) (bridge 4 ++ tree 1 1 ++ 0 ∷ [])
    ∷ carries (header 2 1 1 ++ 15 ∷ 0 ∷ 0 ∷ 1 ∷ 0 ∷ 4 ∷ 0 ∷ 0 ∷ 0 ∷ 5 ∷ []) (9 ∷ []) (bridge 4)
    ∷ []

read : Bytes → Trunked
unfolding trunks plain
read bs = carries bs (elim (trunks current bs) [ accepted ns rest ↦ ns | refused n ↦ n ∷ [] ]) (plain bs)

trenches-read : map (λ c. read c.sheet) trenches ≡ trenches
unfolding trenches read
trenches-read = refl

-- both areas, or the refusal, are those of the sheet without them, but where a trunk number is cut off
trenches-reported : map (λ c. (in_areas current c.sheet).numbers) trenches
    ≡ map (λ c. (in_areas current c.without).numbers) (take 5 trenches) ++ (9 ∷ []) ∷ []
unfolding trenches in_areas
trenches-reported = refl

trenches_as_before : map (λ c. (in_areas current c.without).numbers) trenches ≡ map (λ c. (in_areas tolerant c.without).numbers) trenches
unfolding trenches in_areas
trenches_as_before = refl

-- ---- return numbers

record Numbered : Type 0 where
  sheet : Bytes
  sold : ℕ
  before : ℕ
  number : ℕ

abbrev returns_each : ℕ → ℕ → ℕ → Bytes → Numbered
returns_each l m n bs = record { sheet = bs; sold = l; before = m; number = n }

abbrev returns : ℕ → Bytes → Numbered
returns n bs = returns_each n n n bs

numbers : List Numbered
numbers =
    returns 0 (triangle ++ tree 2 5)
    ∷ returns 3 (2 ∷ 0 ∷ 1 ∷ 0 ∷ [])
    -- 1 and 257 nodes
    ∷ returns 4 (header 1 1 1 ++ link 0 1 4 ++ tree 1 1)
    ∷ returns 4 (1 ∷ 1 ∷ 1 ∷ 0 ∷ 1 ∷ [])
    -- three nodes with 1 link, and 2,049 links
    ∷ returns 5 (header 3 1 1 ++ link 0 1 4 ++ tree 1 1)
    ∷ returns 5 (2 ∷ 0 ∷ 1 ∷ 8 ∷ 1 ∷ [])
    -- 0 and 33 trees
    ∷ returns 6 (header 2 1 0 ++ link 0 1 4)
    ∷ returns 6 (header 2 1 33 ++ link 0 1 4 ++ tree 1 1)
    ∷ returns 7 (header 2 1 1)
    -- link 0 without its weight, and with a trunk number in its place; a map byte of 16
    ∷ returns 8 (header 2 1 1 ++ 3 ∷ 0 ∷ 0 ∷ 1 ∷ 0 ∷ [])
    ∷ returns 8 (header 2 1 1 ++ 11 ∷ 0 ∷ 0 ∷ 1 ∷ 0 ∷ 5 ∷ 0 ∷ tree 1 1)
    ∷ returns 8 (header 2 2 1 ++ link 0 1 4 ++ 16 ∷ tree 1 1)
    ∷ returns 9 (header 2 1 1 ++ 7 ∷ 0 ∷ 0 ∷ 1 ∷ 0 ∷ 4 ∷ 0 ∷ 0 ∷ [])
    -- an end outside, and both ends equal
    ∷ returns 10 (header 2 1 1 ++ link 0 2 4 ++ tree 1 1)
    ∷ returns 10 (header 2 1 1 ++ link 1 1 4 ++ tree 1 1)
    -- refused by 11, and in the formats since F-2 accepted, or refused by a later check
    ∷ returns_each 11 0 0 (header 2 1 1 ++ heavy 0 1 ++ tree 1 1)
    ∷ returns_each 11 12 12 (header 2 1 1 ++ heavy 0 1)
    -- a whole trunk number, of link 0 and of link 1, and one of which the sheet's end leaves two bytes, one and none
    ∷ returns_each 8 8 0 (header 2 1 1 ++ trunk_link 0 1 4 5 ++ tree 1 1)
    ∷ returns_each 8 8 0 (header 2 2 1 ++ link 0 1 4 ++ 8 ∷ 5 ∷ 0 ∷ tree 1 1)
    ∷ returns_each 8 8 12 (header 2 2 1 ++ link 0 1 4 ++ 8 ∷ 5 ∷ 0 ∷ [])
    ∷ returns_each 8 8 9 (header 2 2 1 ++ link 0 1 4 ++ 8 ∷ 5 ∷ [])
    ∷ returns_each 8 8 9 (header 2 2 1 ++ link 0 1 4 ++ 8 ∷ [])
    -- a weight past document 01's limit in front of it; ends of which one is outside
    ∷ returns_each 11 8 0 (header 2 2 1 ++ heavy 0 1 ++ 8 ∷ 5 ∷ 0 ∷ tree 1 1)
    ∷ returns_each 8 8 10 (header 2 1 1 ++ trunk_link 0 2 4 5 ++ tree 1 1)
    ∷ returns_each 8 8 16 (header 2 1 1 ++ trunk_link 0 1 4 5 ++ tree 1 1 ++ 0 ∷ [])
    ∷ returns 12 (bridge 4 ++ 1 ∷ 0 ∷ 0 ∷ 0 ∷ [])
    -- a bit past the link count; all four links in the tree
    ∷ returns 13 (triangle ++ tree 2 9)
    ∷ returns 14 (ring 1 ++ tree 1 15)
    -- three links in the tree, two of them parallel
    ∷ returns 15 (split 1 ++ tree 1 7)
    ∷ returns 16 (triangle ++ tree 2 5 ++ 0 ∷ [])
    -- two faults in the header
    ∷ returns 4 (header 1 0 0)
    ∷ returns 5 (header 3 1 0)
    ∷ returns 6 (header 2 1 0)
    -- in a link: 8 and 9, 9 and 10, 10 and 11
    ∷ returns 8 (header 2 1 1 ++ 255 ∷ [])
    ∷ returns 9 (header 2 1 1 ++ 7 ∷ 1 ∷ 0 ∷ 1 ∷ 0 ∷ 4 ∷ [])
    ∷ returns 10 (header 2 1 1 ++ heavy 1 1)
    -- in two links, and in a link and a tree
    ∷ returns_each 11 8 8 (header 2 2 1 ++ heavy 0 1 ++ 16 ∷ [])
    ∷ returns 10 (header 2 2 1 ++ link 1 1 4 ++ 8 ∷ 5 ∷ 0 ∷ tree 1 1)
    ∷ returns 10 (header 2 1 1 ++ link 0 2 4 ++ tree 1 3)
    -- in a tree: 13 and 14, 14 and 15
    ∷ returns 13 (triangle ++ tree 2 13)
    ∷ returns 14 (ring 1 ++ tree 1 1)
    -- in two trees, and behind the last
    ∷ returns 15 (split 2 ++ tree 1 7)
    ∷ returns 15 (split 1 ++ tree 1 7 ++ 0 ∷ [])
    ∷ []

numbered : Bytes → Numbered
unfolding decode
numbered bs = returns_each (number_of (decode base bs)) (number_of (decode tolerant bs)) (number_of (decode current bs)) bs

numbers_returned : map (λ r. numbered r.sheet) numbers ≡ numbers
unfolding numbers numbered
numbers_returned = refl

-- ---- the longest sheets: document 01, "The longest sheet has 26,757 bytes"; F-9, "The longest sheet now has 30,853 bytes"

longest : map (λ f. sheet_most f 2048 32) (base ∷ wide ∷ tolerant ∷ current ∷ []) ≡ 26757 ∷ 26757 ∷ 26757 ∷ 30853 ∷ []
unfolding sheet_most
longest = refl
