-- The area of a list of sides, and the reading that a list asks (document 02, F-5), by the format. Assumes nothing.
--   list_bytes ss               the bytes of the sides ss, those of a side area each, one side behind the other
--   sides_read nodes k area     the first k sides that stand in such an area
--   area_length k net           the bytes that the list of the network takes, in the order of the key k
--   fitting f area net rest     the network, or refusal 19 where the area cannot hold its list
--   list_reading f sheet area   the network of the sheet, or the first refusal: the sheet's, or 19
--   sides_left f old r          an area that held `old`, where r was read: the list is written to its front if a network was
--   count_left f r              the number of sides written, 0 after a refusal
use Rattle.std.specs.Prelude.{ℕ, ◌*◌, List, [], ◌∷◌, ◌++◌, length, drop, ltb}
use Rattle.cuts.specs.Sums.{table}
use Rattle.cuts.specs.Network.{Network}
use Rattle.cuts.specs.Cut.{Side}
use Rattle.cuts.specs.Candidate.{Key}
use Rattle.sheet.specs.Bytes.{Bytes}
use Rattle.sheet.specs.Reading.{check, first_failing, Reading, accepted, refused, unless, and_then}
use Rattle.sheet.specs.Sheet.{Format, decode}
use Rattle.sheet.specs.Areas.{side_length, side_bytes, side_read, written}
use Rattle.listing.specs.Listing.{listed}

unfoldable pub list_bytes : List Side → Bytes
unfolding side_bytes
list_bytes [] = []
list_bytes (s ∷ ss) = side_bytes s ++ list_bytes ss

unfoldable pub sides_read : ℕ → ℕ → Bytes → List Side
unfolding table side_read
sides_read nodes k area = table k (λ i. side_read nodes (drop (side_length * i) area))

abbrev pub area_length : Key → Network → ℕ
area_length key net = side_length * length (listed key net)

unfoldable pub fitting : Format → Bytes → Network → Bytes → Reading Network
unfolding first_failing listed
fitting f area net rest =
    unless (first_failing (check 19 (ltb (length area) (area_length f.rules.key net)) ∷ [])) (accepted net rest)

-- "19 is returned, after every refusal of the sheet"
unfoldable pub list_reading : Format → Bytes → Bytes → Reading Network
unfolding decode fitting
list_reading f sheet area = and_then (decode f sheet) (fitting f area)

abbrev pub sides_left : Format → Bytes → Reading Network → Bytes
sides_left f old (accepted net rest) = written (list_bytes (listed f.rules.key net)) old
sides_left f old (refused n) = old

abbrev pub count_left : Format → Reading Network → ℕ
count_left f (accepted net rest) = length (listed f.rules.key net)
count_left f (refused n) = 0
