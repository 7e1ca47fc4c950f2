-- `sheet_trees::place_record` meets its contract: the map of the record is the tree's, and the tree spans, so that it grows whole.
-- Assumes nothing.
use Prim.Native.Nat.{ℕ}
use mathlib.Core.Path.{◌≡◌, refl, sym, ap, ◌∙◌, subst}
use mathlib.Core.Bool.{false}
use mathlib.Core.List.{List}
use lib.ListN.{length, drop}
use Rattle.cuts.specs.Sums.{count_to, table}
use Rattle.cuts.specs.Network.{Network, Tree}
use Rattle.std.proofs.Common.{Option, Some, None, MatchOption}
use Rattle.std.specs.Option.{IsSome}
use Rattle.cuts.specs.Tree.{Spanning, spans}
use Rattle.cuts.proofs.FlagLaws.{clash}
use Rattle.arrays.specs.Grown.{TreeOrdered}
use Rattle.tree_growth.specs.declared.Grown.{Grown}
use Rattle.sheet.specs.Bytes.{Bytes, map_bit}
use Rattle.sheet.specs.Sheet.{current, tree_in}
use Rattle.arrays.specs.Kept.{Kept}
use Rattle.arrays.specs.Links.{ends_of}
use Rattle.arrays.specs.Records.{network_at, record_of, SheetHeld}
use Rattle.read_sheet.proofs.TreeLaws.{map_at-length, map_at-counted, map_at-members}
use Rattle.read_sheet.proofs.NetworkLaws.{network_at-laid, network_at_tree, network_at_spanning, network_at_counted, links_known}
use Rattle.sheet_trees.specs.Trees.{RecordThere}
use Rattle.sheet_trees.proofs.TreeLaws.{record_there}
use Rattle.sheet_trees.proofs.place_record.Goals as goal
use Rattle.sheet_trees.proofs.place_record.Goals.{Start, After-grow_tree-grown}

there : (c : Start) → RecordThere c.args.bytes.now c.args.layout c.args.tree
there c = record_there c.requires.held c.args.tree c.requires.listed

pub grow_tree-grown-requires : goal.grow_tree-grown-requires
grow_tree-grown-requires c =
    let a = c.args in
    let p = record_of a.layout a.tree in
    let links = a.layout.links in
    let e = c.map_of-map.ensures in
    record {
      sized = ap (λ (l : Bytes). length l) e ∙ map_at-length a.bytes.now p links (there (goal.at.grow_tree-grown-requires c).Start).inside;
      counted = ap (λ (l : Bytes). count_to links (map_bit l)) e ∙ map_at-counted a.bytes.now p links
          ∙ network_at_counted c.requires.held a.tree c.requires.listed;
      links_known = links_known c.requires.held;
    }

-- the tree, and that it grew
module _ (c : After-grow_tree-grown) {ws : List ℕ} (h : SheetHeld current c.args.bytes.now (ends_of c.args.links.now) ws c.args.layout) where
  abbrev net : Network
  net = let a = c.args in network_at a.bytes.now (ends_of a.links.now) ws a.layout

  abbrev tree : Tree
  tree = let a = c.args in tree_in net (drop (record_of a.layout a.tree) a.bytes.now)

  spanning : Spanning net tree
  spanning = let b = c.requires.listed in subst (Spanning net) (network_at_tree h c.args.tree b) (network_at_spanning h c.args.tree b)

  grown : MatchOption c.grow_tree-grown.result (spans net tree ≡ false) (λ g. TreeOrdered net tree g.order g.parents g.uplinks)
  grown =
      let a = c.args in
      let links = a.layout.links in
      let laid = network_at-laid h in
      let members = map_at-members a.bytes.now (record_of a.layout a.tree) links net laid.weighed.counted (record_there h a.tree c.requires.listed).inside
      ∙ ap (λ (l : Bytes). table links (map_bit l)) (sym c.map_of-map.ensures) in
      c.grow_tree-grown.ensures net tree laid.held laid.weighed.counted members

some : (P : Type 0) (Q : Grown → Type 0) (o : Option Grown) → MatchOption o P Q → (P → ⊥) → IsSome o
some P Q None m f = absurd (f m)
some P Q (Some g) m f = refl

pub unwrap-requires : goal.unwrap-requires
unwrap-requires c =
    let g = (goal.at.unwrap-requires c).After-grow_tree-grown in
    let h = c.requires.held in
    some _ _ c.grow_tree-grown.result (grown g h) (λ e. clash (spanning g h).spanning e)

pub returns : goal.returns
returns c =
    let a = c.args in
    let r = c.place_tree.result in
    let placed = c.place_tree.ensures in
    let g = (goal.at.returns c).After-grow_tree-grown in
    record {
      places_known = record { nodes_known = placed.nodes_known; stops_known = placed.stops_known };
      kept = λ ws h.
          let m = net g h in
          let u = tree g h in
          let ordered = subst (λ (o : Option Grown). MatchOption o (spans m u ≡ false) (λ g'. TreeOrdered m u g'.order g'.parents g'.uplinks)) c.unwrap.ensures (grown g h) in
          subst (λ (u : Tree). Kept m u r.place r.node r.stops r.links) (sym (network_at_tree h a.tree c.requires.listed))
          (placed.kept m u (record { spanning = spanning g h; ordered = ordered.ordered; counted = (network_at-laid h).held.sized }));
    }
