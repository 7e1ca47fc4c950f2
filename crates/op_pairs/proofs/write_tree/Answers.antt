-- `op_pairs::write_tree` meets its contract: the links are listed by node, and the tree is ranked from its record. Assumes nothing.
use Rattle.sheet_trees.proofs.TreeLaws.{tree_listed}
use Rattle.pair_rows.proofs.WritingLaws.{ranks-apart}
use Rattle.op_pairs.proofs.write_tree.Goals as goal

pub rank_record-r-requires : goal.rank_record-r-requires
rank_record-r-requires c = tree_listed c.args.n.now c.args.tree c.requires.listed

pub write_pairs-requires : goal.write_pairs-requires
write_pairs-requires c =
    let n = c.args.n.now in
    let r = c.rank_record-r.ensures in
    let k = r.places_known in
    record {
      searchable = record {
        few_nodes = n.held.accepted.nodes_most;
        links_listed = (n.layout.links, n.held.few_links, c.index_sheet.ensures.indexed.by_node);
        nodes_in = k.nodes_known;
        stops_in = k.stops_known;
      };
      apart = ranks-apart (r.ranked n.links.now.weights n.held).ranks;
      room = c.requires.room;
    }

pub returns : goal.returns
returns c =
    let n = c.args.n.now in
    let listed = c.index_sheet.ensures in
    let k = c.rank_record-r.ensures.ranked n.links.now.weights n.held in
    c.write_pairs.ensures _ _ _ (record { count = n.layout.links; indexed = listed.indexed; kept = k.kept }) k.ranks listed.degrees_are
