-- A tree of a listed sheet can be gone through by rows, and is held by its links, its index and its places.
-- Assumes nothing.
use Rattle.std.proofs.Common.{List, ℕ}
use Rattle.cuts.specs.Network.{Tree}
use Rattle.arrays.specs.Kept.{Kept}
use Rattle.arrays.specs.Sheets.{network_of}
use Rattle.arrays.specs.declared.listed_sheets.ListedSheet.{ListedSheet}
use Rattle.tree_places.specs.declared.Places.{Places}
use Rattle.tree_rows.specs.Making.{PlacesKnown, Searchable, TreeHeld}

module _ (n : ListedSheet) {p : Places} where
  pub listed-searchable : PlacesKnown n.sheet.layout.nodes p → Searchable n.sheet.links.now n.index.now p n.sheet.layout.nodes
  listed-searchable k = record {
    few_nodes = n.sheet.held.accepted.nodes_most;
    links_listed = (n.sheet.layout.links, n.sheet.held.few_links, n.listed.indexed.by_node);
    nodes_in = k.nodes_known;
    stops_in = k.stops_known;
  }

  pub listed-held : {t : Tree} {by_place : List ℕ} → Kept (network_of n.sheet) t p.place p.node p.stops by_place
      → TreeHeld (network_of n.sheet) t n.sheet.links.now n.index.now p by_place n.sheet.layout.nodes
  listed-held k = record { count = n.sheet.layout.links; indexed = n.listed.indexed; kept = k }
