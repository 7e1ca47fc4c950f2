-- The network that arrays and the tree records of a sheet hold. Assumes nothing.
--   trees_from net k bs     the trees of the k records at the front of bs, each behind the one before
--   network_at s es ws l    the network that the arrays, of ends and of weights, and the tree records of s hold, laid out as l says
--   record_at m p i         the position of the record of tree i, for m links, that of tree 0 being p
--   record_of l i           the same of a sheet that is laid out as l says
--   map_at s p m            the link map, for m links, of the tree record at position p of s
--   SheetHeld f s es ws l   the records of all trees stand in s where l says, there are no more trees and links than a sheet can have, and
--                           the network that they and the arrays hold is one that a sheet of the format f gives
use Rattle.std.specs.Prelude.{ℕ, ◌+◌, ◌*◌, ◌≤◌, List, [], length, take, drop}
use Rattle.cuts.specs.Sums.{table}
use Rattle.cuts.specs.Network.{Link, Tree, Network, link_count}
use Rattle.cuts.specs.Limits.{most_links, most_trees}
use Rattle.sheet.specs.Bytes.{Bytes}
use Rattle.sheet.specs.Sheet.{Format, map_length, tree_length, tree_in, network, Accepted}
use Rattle.arrays.specs.Lists.{part}
use Rattle.arrays.specs.Links.{LinkArrays, links_of}
use Rattle.arrays.specs.declared.Layout.{Layout}

unfoldable pub trees_from : Network → ℕ → Bytes → List Tree
unfolding table tree_in
trees_from net k bs = table k (λ i. tree_in net (drop (i * tree_length (link_count net)) bs))

abbrev pub network_at : Bytes → List (List ℕ) → List ℕ → Layout → Network
network_at s ends ws l =
    let links : List Link = links_of l.links (part ends 0) (part ends 1) ws in
    network l.nodes links (trees_from (network l.nodes links []) l.trees (drop l.records s))

abbrev pub record_at : ℕ → ℕ → ℕ → ℕ
record_at links p i = p + i * tree_length links

abbrev pub record_of : Layout → ℕ → ℕ
record_of l i = record_at l.links l.records i

abbrev pub map_at : Bytes → ℕ → ℕ → Bytes
map_at s p links = take (map_length links) (drop (p + 4) s)

pub record SheetHeld (f : Format) (s : Bytes) (ends : List (List ℕ)) (ws : List ℕ) (l : Layout) : Type 0 where
  pub inside : record_of l l.trees ≤ length s
  pub few_links : l.links ≤ most_links
  pub few_trees : l.trees ≤ most_trees
  pub accepted : Accepted f (network_at s ends ws l)
  pub arrays : LinkArrays ends ws
