-- What a list leaves in the area, and the number of sides that it answers. Assumes nothing.
--   ListLeft f r sides sides' k n   where r was read: n is its number, k the number of sides written, and the area, which held `sides`, holds
--                                   sides': the list if a network was read, else what it held
use Rattle.std.specs.Prelude.{ℕ, ◌≡◌}
use Rattle.cuts.specs.Network.{Network}
use Rattle.sheet.specs.Bytes.{Bytes}
use Rattle.sheet.specs.Reading.{Reading, number_of}
use Rattle.sheet.specs.Sheet.{Format}
use Rattle.listing.specs.ListArea.{sides_left, count_left}

pub record ListLeft (f : Format) (r : Reading Network) (sides sides' : Bytes) (count n : ℕ) : Type 0 where
  pub number : n ≡ number_of r
  pub count_is : count ≡ count_left f r
  pub sides_is : sides' ≡ sides_left f sides r
