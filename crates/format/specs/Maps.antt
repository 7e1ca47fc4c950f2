-- The members of a link map, listed. Assumes nothing.
--   MembersFit map m ms        the map has a bit for each of m links, and ms has room for those whose bits are set, and one number more
--   MembersListed map m ms r   of m links there are r whose bits are set, and they are the first r numbers of ms, rising
use Rattle.std.specs.Prelude.{ℕ, ◌*◌, ◌≤◌, ◌<◌, ◌≡◌, List, length, take}
use Rattle.cuts.specs.Limits.{most_links}
use Rattle.cuts.specs.Sums.{count_to, select}
use Rattle.sheet.specs.Bytes.{Bytes, map_bit}

pub record MembersFit (map : Bytes) (links : ℕ) (members : List ℕ) : Type 0 where
  pub whole : links ≤ 8 * length map
  pub few : links ≤ most_links
  pub room : count_to links (map_bit map) < length members

pub record MembersListed (map : Bytes) (links : ℕ) (members : List ℕ) (count : ℕ) : Type 0 where
  pub counted : count ≡ count_to links (map_bit map)
  pub listed : take count members ≡ select links (map_bit map)
