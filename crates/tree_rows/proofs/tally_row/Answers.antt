-- `tree_rows::tally_row` meets its contract, by what the calls ensure in turn: what is behind u and below it is tallied, then u's own links.
-- Assumes nothing.
use Rattle.std.proofs.Common.{suc, arith}
use Rattle.tree_rows.proofs.RowLaws.{tallied_front}
use Rattle.tree_rows.proofs.tally_row.Goals as goal

pub add_run-requires : goal.add_run-requires
add_run-requires c =
    let q = c.requires.searchable in
    record {
      few_places = omega (arith, q.stops_in c.args.u c.requires.place_in);
      nodes = c.args.nodes;
      nodes_in = q.nodes_in;
      links_listed = q.links_listed;
    }

pub add_links-requires : goal.add_links-requires
add_links-requires c =
    let q = c.requires.searchable in
    record { nodes = c.args.nodes; node_in = q.nodes_in c.args.u c.requires.place_in; links_listed = q.links_listed }

pub returns : goal.returns
returns c net t by_place h z before b =
    let u = c.args.u in
    let k = h.kept in
    let n = h.indexed.laid.held.sized in
    let y = k.taken u b in
    let most = k.most u b in
    let f = c.start_row-from.ensures net t _ _ _ k n z (omega arith) before in
    let g = c.add_run.ensures net t by_place _ (suc u) h f.behind f.up_to (omega arith) f.tallied in
    tallied_front k h.indexed.light u b (c.add_links.ensures net t by_place _ h (omega arith)) _ (k.some u b) g
