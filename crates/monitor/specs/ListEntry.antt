-- What the entry for the list returns and leaves in the area, for every sheet and every area, by the format (document 02, F-5 and
-- F-14). Assumes nothing.
--   SidesListed f ..   all that the entry promises, where the area held `sides`, holds sides' afterwards, `count` is the
--                      number of sides that it answers, and n is returned
use Rattle.std.specs.Prelude.{ℕ, ◌≡◌, []}
use Rattle.cuts.specs.Network.{Network}
use Rattle.sheet.specs.Bytes.{Bytes}
use Rattle.sheet.specs.Reading.{accepted, number_of}
use Rattle.sheet.specs.Sheet.{Format, decode}
use Rattle.listing.specs.Listing.{OwedList}
use Rattle.listing.specs.ListArea.{list_reading, sides_left, count_left, sides_read}

pub record SidesListed (f : Format) (sheet sides sides' : Bytes) (count n : ℕ) : Type 0 where
  -- each refusal of the sheet, then 19
  pub number : n ≡ number_of (list_reading f sheet sides)
  -- "The answer carries the number of sides beside the return number, 0 when refused"
  pub count_is : count ≡ count_left f (list_reading f sheet sides)
  -- "If the area cannot hold them all, nothing is written"; "Bytes past the last side are untouched"
  pub sides_is : sides' ≡ sides_left f sides (list_reading f sheet sides)
  -- what is owed of the list, of the network that the sheet gives and of the sides that are read back from the area
  pub owed : n ≡ 0 → (net : Network) × (decode f sheet ≡ accepted net []) × OwedList f.rules net (sides_read net.nodes count sides')
