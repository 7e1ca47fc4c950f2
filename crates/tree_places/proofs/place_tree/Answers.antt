-- `tree_places::place_tree` meets its contract: what each pass gives is what the next one asks, and the places by node that come of it are
-- kept by place.
-- Assumes nothing.
use Rattle.tree_places.proofs.KeptLaws.{preorder-kept}
use Rattle.tree_places.proofs.place_tree.Goals as goal

pub returns : goal.returns
returns c =
    let n = c.nodes_by_place-node in
    let s = c.place_nodes in
    let stops = c.gather-stops in
    let links = c.gather-links in
    record {
      nodes_known = n.ensures.nodes_known;
      stops_known = stops.ensures.stops_known s.ensures.stops_known;
      kept = λ net t r.
          let sized = c.subtree_sizes-sizes.ensures net t _ r in
          let o = (s.ensures.placed net t _ r sized (c.heaviest_children-heavy.ensures net t _ r)).preorder in
          preorder-kept r o n.result stops.result links.result (n.ensures.by_place net t _ _ o r.counted)
          stops.ensures.gathered links.ensures.gathered;
    }
