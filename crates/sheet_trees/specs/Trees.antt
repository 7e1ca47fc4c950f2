-- The trees of a sheet that was read. Assumes nothing.
--   RecordThere s l i         the record of tree i stands in s where the layout l says
--   TreeListed s links l i    sheet and links hold a network, whatever its weights, and i is the number of one of its trees
--   TreePlaced s links l i r  r has tree i by places, of every network that sheet and links hold, whatever its weights
--   TreeRanked s links l i r  r has tree i by places and ranks, of every such network, with the link at each place
use Rattle.std.specs.Prelude.{ℕ, ◌+◌, ◌≤◌, ◌<◌, ◌≡◌, List, length}
use Rattle.cuts.specs.Network.{tree_at}
use Rattle.cuts.specs.Limits.{most_links}
use Rattle.sheet.specs.Bytes.{Bytes}
use Rattle.sheet.specs.Sheet.{current, tree_length}
use Rattle.arrays.specs.Kept.{Kept}
use Rattle.arrays.specs.Links.{ends_of}
use Rattle.arrays.specs.Records.{network_at, record_of, SheetHeld}
use Rattle.arrays.specs.declared.Layout.{Layout}
use Rattle.arrays.specs.declared.Links.{Links}
use Rattle.tree_places.specs.declared.Places.{Places}
use Rattle.tree_rows.specs.Making.{PlacesKnown}
use Rattle.tree_ranks.specs.Ranks.{RankedTree}
use Rattle.tree_ranks.specs.declared.Ranked.{Ranked}

pub record RecordThere (s : Bytes) (l : Layout) (i : ℕ) : Type 0 where
  pub few_links : l.links ≤ most_links
  pub inside : record_of l i + tree_length l.links ≤ length s

pub record TreeListed (s : Bytes) (links : Links) (l : Layout) (i : ℕ) : Type 0 where
  pub weights : List ℕ
  pub held : SheetHeld current s (ends_of links) weights l
  pub listed : i < l.trees

pub record TreePlaced (s : Bytes) (links : Links) (l : Layout) (i : ℕ) (r : Places) : Type 0 where
  pub places_known : PlacesKnown l.nodes r
  pub kept : (ws : List ℕ) → SheetHeld current s (ends_of links) ws l
      → Kept (network_at s (ends_of links) ws l) (tree_at (network_at s (ends_of links) ws l) i) r.place r.node r.stops r.links

pub record TreeRanked (s : Bytes) (links : Links) (l : Layout) (i : ℕ) (r : Ranked) : Type 0 where
  pub places_known : PlacesKnown l.nodes r.places
  pub ranked : (ws : List ℕ) → SheetHeld current s (ends_of links) ws l
      → RankedTree (network_at s (ends_of links) ws l) (tree_at (network_at s (ends_of links) ws l) i) r
  pub own_links : (ws : List ℕ) (h : SheetHeld current s (ends_of links) ws l) → (ranked ws h).links ≡ r.places.links
