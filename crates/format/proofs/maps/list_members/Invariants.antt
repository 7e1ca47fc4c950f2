-- `maps::list_members` meets its contract. The loop's invariant: of the links below k those whose bits are set are listed, and `found` is
-- their number; link k is written behind them, and kept where its bit is set. Assumes nothing.
use Prim.Native.Nat.{ℕ, ◌*◌, ◌≤◌, ◌<◌}
use mathlib.Core.Path.{◌≡◌}
use mathlib.Core.List.{List}
use lib.ListN.{length, take}
use Rattle.cuts.specs.Sums.{count_to, select}
use Rattle.sheet.specs.Bytes.{Bytes, map_bit}
use Rattle.format.proofs.maps.list_members.Given as goal

-- after k bits: what is listed, and what the caller ensured
pub record Listing (map : Bytes) (links room : ℕ) (members : List ℕ) (found k : ℕ) : Type 0 where
  pub counted : found ≡ count_to k (map_bit map)
  pub listed : take found members ≡ select k (map_bit map)
  pub sized : length members ≡ room
  pub free : found < room
  pub few : found ≤ k
  pub within : k ≤ links
  pub held : links ≤ 8 * length map
  pub most : links ≤ 2048
  pub fits : count_to links (map_bit map) < room

abbrev pub invariant-loop-k : goal.invariant-loop-k
invariant-loop-k l = Listing l.map l.links (length l.initial.members) l.members l.found l.k
