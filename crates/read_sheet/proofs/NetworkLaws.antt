-- The network that the arrays and the tree records of a sheet hold, once it was read: its counts, its links as the arrays have them, and each
-- of its trees by its record. Assumes nothing.
use Prim.Native.Nat.{ℕ, ◌+◌, ◌-◌, ◌*◌, ◌<◌}
use mathlib.Core.Path.{◌≡◌, refl, sym, ap, ◌∙◌, subst}
use mathlib.Core.List.{List, []}
use native.Mathlib.Omega.{arith}
use lib.ListN.{length, drop}
use lib.Seq.{drop-drop}
use Rattle.cuts.specs.Sums.{count_to}
use Rattle.cuts.specs.Network.{Network, Link, no_tree, link_at, link_count, tree_at}
use Rattle.cuts.specs.Tree.{Spanning}
use Rattle.cuts.proofs.SumLaws.{table-length, table_at}
use Rattle.arrays.specs.Lists.{entry, part}
use Rattle.arrays.specs.Links.{Laid, links_of}
use Rattle.arrays.specs.Records.{trees_from, network_at, record_of, SheetHeld}
use Rattle.arrays.specs.declared.Layout.{Layout}
use Rattle.arrays.proofs.LinkLaws.{links_of-length, links_of-at}
use Rattle.by_node.proofs.RunLaws.{held-ending}
use Rattle.sheet.specs.Bytes.{Bytes, map_bit}
use Rattle.sheet.specs.Reading.{accepted, refused}
use Rattle.sheet.specs.Sheet.{Format, current, tree_length, tree_in, network, Accepted, decode}
use Rattle.sheet.proofs.Acceptance.{members-counted, decode-accepted}
use Rattle.read_sheet.specs.TreesRead.{LinksKnown}
use Rattle.read_sheet.specs.SheetRead.{SheetRead}
use Rattle.std.specs.Prelude.{Result, Ok, Err}
use Rattle.format.specs.Refusals.{refusal_number}
use Rattle.format.specs.declared.refusals.Refusal.{Refusal}

-- ---- counts

module _ (s : Bytes) (ends : List (List ℕ)) (ws : List ℕ) (l : Layout) where
  links-counted : link_count (network_at s ends ws l) ≡ l.links
  links-counted = links_of-length l.links (part ends 0) (part ends 1) ws

  trees-counted : length (network_at s ends ws l).trees ≡ l.trees
  unfolding trees_from
  trees-counted = table-length l.trees (λ j. tree_in (network l.nodes (links_of l.links (part ends 0) (part ends 1) ws) []) (drop (j * tree_length (length (links_of l.links (part ends 0) (part ends 1) ws))) (drop l.records s)))

  tree-read : (i : ℕ) → i < l.trees → tree_at (network_at s ends ws l) i ≡ tree_in (network_at s ends ws l) (drop (record_of l i) s)
  unfolding trees_from tree_in
  tree-read i b =
      let links : List Link = links_of l.links (part ends 0) (part ends 1) ws in
      table_at no_tree l.trees (λ j. tree_in (network l.nodes links []) (drop (j * tree_length (length links)) (drop l.records s))) i b
      ∙ ap (tree_in (network l.nodes links [])) (drop-drop (i * tree_length (length links)) l.records s ∙ ap (λ (m : ℕ). drop (l.records + i * tree_length m) s) links-counted)

-- ---- what the answer to reading says

module _ {s : Bytes} {ends : List (List ℕ)} {ws : List ℕ} {r : Result Layout Refusal} (h : SheetRead s ends ws (decode current s) r) where
  pub was_read : {l : Layout} → r ≡ Ok l → decode current s ≡ accepted (network_at s ends ws l) []
  was_read {l} e = sym (subst (SheetRead s ends ws (decode current s)) e h).says

  pub was_refused : {e : Refusal} → r ≡ Err e → decode current s ≡ refused (refusal_number e)
  was_refused e = sym (subst (SheetRead s ends ws (decode current s)) e h).says

  pub sheet-held : {l : Layout} → r ≡ Ok l → SheetHeld current s ends ws l
  sheet-held {l} e =
      let a : Accepted current (network_at s ends ws l) = decode-accepted current s (network_at s ends ws l) [] (was_read e) in
      let t = (subst (SheetRead s ends ws (decode current s)) e h).trees_last in
      record {
        inside = omega (arith, t);
        few_links = omega (arith, links-counted s ends ws l, a.links_most);
        few_trees = omega (arith, trees-counted s ends ws l, a.trees_most);
        accepted = a;
        arrays = (subst (SheetRead s ends ws (decode current s)) e h).arrays;
      }

-- ---- of a sheet that was read

module _ {f : Format} {s : Bytes} {ends : List (List ℕ)} {ws : List ℕ} {l : Layout} (h : SheetHeld f s ends ws l) where
  abbrev net : Network
  net = network_at s ends ws l

  pub network_at-links : link_count net ≡ l.links
  network_at-links = links-counted s ends ws l

  pub network_at-trees : length net.trees ≡ l.trees
  network_at-trees = trees-counted s ends ws l

  pub network_at-laid : Laid net (part ends 0) (part ends 1) ws l.nodes l.links
  network_at-laid = record {
    held = record {
      linked = h.accepted.sound.linked;
      sized = refl;
      firsts = λ k b. ap (λ (x : Link). x.first) (link k b);
      seconds = λ k b. ap (λ (x : Link). x.second) (link k b);
    };
    weighed = record { counted = network_at-links; weights = λ k b. ap (λ (x : Link). x.weight) (link k b) };
  }
    where
      link : (k : ℕ) → k < link_count net → link_at net k ≡ record { first = entry (part ends 0) k; second = entry (part ends 1) k; weight = entry ws k }
      link k b = links_of-at l.links (part ends 0) (part ends 1) ws k (rw (← network_at-links) b)

  -- the arrays have all links' ends, and they are nodes
  pub links_known : LinksKnown l.nodes l.links ends
  links_known =
      let a = h.accepted in
      let n = network_at-links in
      let e = h.arrays.ends_room in
      record {
        some = omega (arith, a.sound.several);
        few_nodes = a.nodes_most;
        few_links = h.few_links;
        known = λ k b. held-ending network_at-laid.held (omega (arith, n, e.firsts, h.few_links)) (omega (arith, n, e.seconds, h.few_links)) k (omega (arith, n));
      }

  -- each of its trees
  module _ (i : ℕ) (b : i < l.trees) where
    pub network_at_tree : tree_at net i ≡ tree_in net (drop (record_of l i) s)
    network_at_tree = tree-read s ends ws l i b

    pub network_at_spanning : Spanning net (tree_at net i)
    network_at_spanning = h.accepted.sound.spanning i (rw network_at-trees b)

    pub network_at_counted : count_to l.links (map_bit (drop (record_of l i + 4) s)) ≡ l.nodes - 1
    network_at_counted =
        let p : ℕ = record_of l i in
        ap (λ (bs : Bytes). count_to l.links (map_bit bs)) (sym (drop-drop 4 p s))
        ∙ ap (λ (m : ℕ). count_to m (map_bit (drop 4 (drop p s)))) (sym network_at-links)
        ∙ sym (members-counted net (drop p s)) ∙ (subst (Spanning net) network_at_tree network_at_spanning).counted
