-- The trees of a sheet that was read: each has its record, and the links can be listed by node.
-- Assumes nothing.
use Prim.Native.Nat.{ℕ, ◌<◌}
use mathlib.Core.List.{List}
use native.Mathlib.Omega.{arith}
use lib.ListN.{length}
use Rattle.sheet.specs.Bytes.{Bytes}
use Rattle.sheet.specs.Sheet.{Format, tree_length}
use Rattle.arrays.specs.Links.{ends_of}
use Rattle.arrays.specs.Records.{SheetHeld}
use Rattle.arrays.specs.Sheets.{network_of, SheetListed}
use Rattle.arrays.specs.declared.Index.{Index}
use Rattle.arrays.specs.declared.Layout.{Layout}
use Rattle.arrays.specs.declared.Links.{Links}
use Rattle.arrays.specs.declared.sheets.Sheet.{Sheet}
use Rattle.read_sheet.proofs.TreeLaws.{record_inside}
use Rattle.read_sheet.proofs.NetworkLaws.{network_at-trees, network_at-laid, links_known}
use Rattle.by_node.specs.Index.{Indexable, LinksIndexed}
use Rattle.sheet_trees.specs.Trees.{RecordThere, TreeListed}

pub record_there : {f : Format} {s : Bytes} {ends : List (List ℕ)} {ws : List ℕ} {l : Layout} → SheetHeld f s ends ws l → (i : ℕ) → i < l.trees → RecordThere s l i
record_there {s = s} {l = l} h i b = record {
  few_links = h.few_links;
  inside = record_inside l.records l.trees (tree_length l.links) (length s) i h.inside b;
}

pub sheet_indexable : {f : Format} {s : Bytes} {links : Links} {l : Layout} → SheetHeld f s (ends_of links) links.weights l → Indexable links l.nodes l.links
sheet_indexable h = let k = links_known h in record { few_nodes = k.few_nodes; few_links = k.few_links; ends_known = k.known }

module _ (n : Sheet) where
  pub is-listed : (i : ℕ) → i < n.layout.trees → i < length (network_of n).trees
  is-listed i b = omega (arith, network_at-trees n.held)

  pub tree_listed : (i : ℕ) → i < n.layout.trees → TreeListed n.bytes.now n.links.now n.layout i
  tree_listed i b = record { weights = n.links.now.weights; held = n.held; listed = b }

  pub sheet-indexable : Indexable n.links.now n.layout.nodes n.layout.links
  sheet-indexable = sheet_indexable n.held

  pub sheet-listed : {index : Index} → LinksIndexed n.links.now index n.layout.nodes n.layout.links → SheetListed n index
  sheet-listed i =
      let laid = network_at-laid n.held in
      record { indexed = i.indexed (network_of n) laid n.held.accepted.ends_differ; degrees_are = i.degrees_are (network_of n) laid }
