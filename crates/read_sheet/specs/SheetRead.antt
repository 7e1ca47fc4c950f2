-- What the answer to reading a sheet says, case by case: the network that the arrays and the tree records hold, or the refusal's number.
-- Assumes nothing.
--   sheet_says s ends ws r           what r says where it answers to reading the sheet s into the arrays of ends and of weights
--   TreesLast s r                    the tree records reach to the end of s
--   BodyReadable s c                 links and trees of the counts c can be read behind the header of s
--   SheetRead s ends weights net r   r and the arrays say of s what its reading `net` says, and its tree records reach to its end
use Rattle.std.specs.Prelude.{ℕ, ◌≤◌, ◌<◌, ◌≡◌, List, [], length, Result, Ok, Err, OnOk}
use Rattle.cuts.specs.Network.{Network}
use Rattle.cuts.specs.Limits.{most_nodes, most_links}
use Rattle.sheet.specs.Bytes.{Bytes}
use Rattle.sheet.specs.Reading.{Reading, accepted, refused}
use Rattle.sheet.specs.Sheet.{Counts, header_length}
use Rattle.arrays.specs.Links.{LinkArrays}
use Rattle.arrays.specs.Records.{network_at, record_of}
use Rattle.arrays.specs.declared.Layout.{Layout}
use Rattle.format.specs.Refusals.{refusal_number}
use Rattle.format.specs.declared.refusals.Refusal.{Refusal}

abbrev pub sheet_says : Bytes → List (List ℕ) → List ℕ → Result Layout Refusal → Reading Network
sheet_says s ends ws (Ok l) = accepted (network_at s ends ws l) []
sheet_says s ends ws (Err refusal) = refused (refusal_number refusal)

abbrev pub TreesLast : Bytes → Result Layout Refusal → Type 0
TreesLast s (Ok l) = record_of l l.trees ≡ length s
TreesLast s (Err refusal) = Unit {0}

pub record BodyReadable (s : Bytes) (c : Counts) : Type 0 where
  pub header : header_length ≤ length s
  pub some : 0 < c.nodes
  pub few_nodes : c.nodes ≤ most_nodes
  pub few_links : c.links ≤ most_links

pub record SheetRead (s : Bytes) (ends : List (List ℕ)) (weights : List ℕ) (net : Reading Network) (r : Result Layout Refusal) : Type 0 where
  pub says : sheet_says s ends weights r ≡ net
  pub trees_last : TreesLast s r
  pub arrays : OnOk r (LinkArrays ends weights)
