-- What the answers and arrays of this crate's functions say, case by case: the link read and the bytes behind it, or the refusal's
-- number. Assumes nothing.
--   fields_say r                            the refusal number of a map byte and the bytes of the fields behind it, as r says them
--   fields_of f m                           the same of the map byte m, by the definition of the format f
--   link_of l                               the link that the struct holds
--   link_says s r                           what r says where it answers to reading a link from s
--   LinkInside s r                          the position behind the link lies in s
--   RecordEnds f start s at r               r says where the link record at position `at` of s ends, or the number of the first check of its shape
--                                           that fails; `start`: it is link 0's
--   LinkRead f nodes start before s at r    r says what the link record at position `at` of s is read as, where `before` is the link before it
--   LinksReadable s from nodes count        `count` links of so many nodes, from position `from` of s on, can be read
--   LinksRead f s from nodes count ends weights r
--                                           they are in the arrays, or r says the refusal
--   LinksThere f s from count               `count` link records stand from position `from` of s on, and all are read in the format f
--   TrunksReadable f s from count numbers   so it is, and `numbers` has room for their trunk numbers
use Rattle.std.specs.Prelude.{ℕ, ◌+◌, ◌^◌, ◌≤◌, ◌≡◌, Bool, cond, List, [], length, drop, leb, Option, Some, None, Result, Ok, Err}
use Rattle.cuts.specs.Network.{Link}
use Rattle.cuts.specs.Limits.{most_nodes, most_links}
use Rattle.arrays.specs.Links.{LinkArrays, first_ends, second_ends, links_of}
use Rattle.sheet.specs.Bytes.{Bytes}
use Rattle.sheet.specs.Reading.{Reading, accepted, refused, first_failing, records}
use Rattle.sheet.specs.Sheet.{Format, field_start, record_length, shape_checks, link_record, next_link}
use Rattle.format.specs.Refusals.{refusal_number}
use Rattle.format.specs.Steps.{step_number, step_says, EndsAt, Inside}
use Rattle.format.specs.declared.refusals.Refusal.{Refusal}
use Rattle.read_links.specs.declared.Link as link

abbrev pub link_of : link.Link → Link
link_of l = record { first = l.first; second = l.second; weight = l.weight }

abbrev pub fields_say : Option ℕ → ℕ × ℕ
fields_say (Some n) = (0, n)
fields_say None = (8, 0)

abbrev pub fields_of : Format → ℕ → ℕ × ℕ
fields_of f m = cond (leb (2 ^ length f.widths) m) (8, 0) (0, field_start f m (length f.widths))

abbrev pub link_says : Bytes → Result (link.Link × ℕ) Refusal → Reading Link
link_says s (Ok (l, end)) = accepted (link_of l) (drop end s)
link_says s (Err refusal) = refused (refusal_number refusal)

abbrev pub LinkInside : Bytes → Result (link.Link × ℕ) Refusal → Type 0
LinkInside s (Ok (l, end)) = end ≤ length s
LinkInside s (Err refusal) = Unit {0}

pub record RecordEnds (f : Format) (start : Bool) (s : Bytes) (at : ℕ) (r : Result ℕ Refusal) : Type 0 where
  pub number : step_number r ≡ first_failing (shape_checks f start (drop at s))
  pub ends_at : EndsAt (at + record_length f (drop at s)) s r

pub record LinkRead (f : Format) (nodes : ℕ) (start : Bool) (before : Link) (s : Bytes) (at : ℕ) (r : Result (link.Link × ℕ) Refusal) : Type 0 where
  pub says : link_says s r ≡ link_record f nodes start before (drop at s)
  pub inside : LinkInside s r

pub record LinksReadable (s : Bytes) (from nodes count : ℕ) : Type 0 where
  pub inside : from ≤ length s
  pub few_nodes : nodes ≤ most_nodes
  pub few_links : count ≤ most_links

pub record LinksRead (f : Format) (s : Bytes) (from nodes count : ℕ) (ends : List (List ℕ)) (weights : List ℕ) (r : Result ℕ Refusal) : Type 0 where
  pub says : step_says (links_of count (first_ends ends) (second_ends ends) weights) s r ≡ records (next_link f nodes) count [] (drop from s)
  pub inside : Inside s r
  pub arrays : LinkArrays ends weights

pub record LinksThere (f : Format) (s : Bytes) (from count : ℕ) : Type 0 where
  pub nodes : ℕ
  pub links : List Link
  pub rest : Bytes
  pub are_read : records (next_link f nodes) count [] (drop from s) ≡ accepted links rest

pub record TrunksReadable (f : Format) (s : Bytes) (from count : ℕ) (numbers : List ℕ) : Type 0 where
  pub inside : from ≤ length s
  pub there : LinksThere f s from count
  pub room : count ≤ length numbers
