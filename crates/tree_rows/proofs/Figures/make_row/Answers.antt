-- `tree_rows::Figures::make_row` meets its contract: the tallies are made, then the sums over them, and the last of these is the single weight.
-- Assumes nothing.
use Rattle.std.proofs.Common.{◌<◌, refl, arith}
use Rattle.tree_rows.proofs.RowLaws.{row_made}
use Rattle.tree_rows.proofs.Figures.make_row.Goals as goal

pub returns : goal.returns
returns c net t by_place k =
    let u = c.args.u in
    let held = k.tree_held in
    let w = held.kept in
    let z = held.indexed.laid.held.sized in
    let b : u < net.nodes = omega (arith, c.requires.inside) in
    let some = w.some u b in
    let most = w.most u b in
    let tallied = c.tally_row.ensures net t by_place held c.requires.some k.row.tallied b in
    let summed = c.sum_row.ensures net _ (record {
      light = held.indexed.light;
      weighed = k.degrees;
      tallied = tallied;
      above = omega arith;
      inside = omega arith;
      sized = z;
    }) in
    record { tree_held = held; degrees = k.degrees; row = row_made w u c.requires.some b k.row tallied summed refl (omega arith) }
