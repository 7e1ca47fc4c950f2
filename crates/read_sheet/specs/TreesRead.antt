-- Tree records: where they stand, and what reading them asks and answers. Assumes nothing.
--   PositionFits at links tree   the record of this tree, of records for so many links from position `at` on, stands at a number of eight
--                                bytes
--   RecordWhole s p m            a whole tree record, for m links, stands at p
--   LinksKnown n m es            the links 0, .., m - 1 have their ends, in es, at nodes; of these there are n, the root among them; a sheet
--                                can have so many of both
--   MapSized map n m             the map has the bytes of a map for m links, which a sheet can have, and one of the n nodes is the root
--   MapCounted map n m es        so has a map for known links, with as many ones as a tree of n nodes has members
--   TreesAhead s p n m es        p is a position of s, where tree records for known links may stand
--   TreeRead s p n m es r        r says what the record at p is read as, for every network that es holds
--   TreesRead s p n m k es r     r says the same of k records from p on
use Rattle.std.specs.Prelude.{ℕ, ◌+◌, ◌-◌, ◌≤◌, ◌<◌, ◌≡◌, List, [], length, drop, Result}
use Rattle.cuts.specs.Sums.{count_to}
use Rattle.cuts.specs.Limits.{most_nodes, most_links}
use Rattle.cuts.specs.Network.{Network, link_count}
use Rattle.arrays.specs.Links.{first_ends, second_ends, EndsKnown, Held}
use Rattle.arrays.specs.Records.{trees_from, record_at}
use Rattle.sheet.specs.Bytes.{Bytes, map_bit}
use Rattle.sheet.specs.Reading.{records}
use Rattle.sheet.specs.Sheet.{map_length, tree_length, tree_in, tree_record}
use Rattle.format.specs.Numbers.{eight_bytes}
use Rattle.format.specs.Steps.{step_says, EndsAt}
use Rattle.format.specs.declared.refusals.Refusal.{Refusal}

pub record PositionFits (at links tree : ℕ) : Type 0 where
  pub few_links : links ≤ most_links
  pub fits : record_at links at tree < eight_bytes

pub record RecordWhole (s : Bytes) (at links : ℕ) : Type 0 where
  pub few_links : links ≤ most_links
  pub inside : at + tree_length links ≤ length s

pub record LinksKnown (nodes links : ℕ) (ends : List (List ℕ)) : Type 0 where
  pub some : 0 < nodes
  pub few_nodes : nodes ≤ most_nodes
  pub few_links : links ≤ most_links
  pub known : EndsKnown ends nodes links

pub record MapSized (map : Bytes) (nodes links : ℕ) : Type 0 where
  pub sized : length map ≡ map_length links
  pub some : 0 < nodes
  pub few_links : links ≤ most_links

pub record MapCounted (map : Bytes) (nodes links : ℕ) (ends : List (List ℕ)) : Type 0 where
  pub sized : length map ≡ map_length links
  pub counted : count_to links (map_bit map) ≡ nodes - 1
  pub links_known : LinksKnown nodes links ends

pub record TreesAhead (s : Bytes) (at nodes links : ℕ) (ends : List (List ℕ)) : Type 0 where
  pub inside : at ≤ length s
  pub links_known : LinksKnown nodes links ends

pub record TreeRead (s : Bytes) (at nodes links : ℕ) (ends : List (List ℕ)) (r : Result ℕ Refusal) : Type 0 where
  pub says : (net : Network) → Held net (first_ends ends) (second_ends ends) nodes → link_count net ≡ links
      → step_says (tree_in net (drop at s)) s r ≡ tree_record net (drop at s)
  pub ends_at : EndsAt (at + tree_length links) s r

pub record TreesRead (s : Bytes) (from nodes links trees : ℕ) (ends : List (List ℕ)) (r : Result ℕ Refusal) : Type 0 where
  pub says : (net : Network) → Held net (first_ends ends) (second_ends ends) nodes → link_count net ≡ links
      → step_says (trees_from net trees (drop from s)) s r ≡ records (λ _. tree_record net) trees [] (drop from s)
  pub ends_at : EndsAt (record_at links from trees) s r
