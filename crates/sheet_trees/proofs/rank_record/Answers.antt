-- `sheet_trees::rank_record` meets its contract: the tree is placed, and of a network that it spans each place but the root's has one of the
-- links, so that these can be ranked.
-- Assumes nothing.
use mathlib.Core.Path.{refl, sym, subst}
use native.Mathlib.Omega.{arith}
use Rattle.tree_rows.specs.Making.{PlacesKnown}
use Rattle.read_sheet.proofs.NetworkLaws.{network_at-links, links_known}
use Rattle.sheet_trees.proofs.rank_record.Goals as goal

pub rank_places-requires : goal.rank_places-requires
rank_places-requires c =
    let p = c.requires in
    let k = c.place_record-p.ensures.kept p.weights p.held in
    let l = links_known p.held in
    record {
      few_nodes = l.few_nodes;
      few_links = l.few_links;
      is_link = λ q z b. let m = (k.links-at.member q z b).is_link in omega (arith, network_at-links p.held);
    }

pub returns : goal.returns
returns c =
    let placed = c.place_record-p.ensures in
    let r = c.rank_places.ensures in
    record {
      places_known = subst (PlacesKnown c.args.layout.nodes) (sym r.same_places) placed.places_known;
      ranked = λ ws h. r.ranked _ _ (placed.kept ws h) refl (network_at-links h);
      own_links = λ ws h. r.own_links _ _ (placed.kept ws h) refl (network_at-links h);
    }
