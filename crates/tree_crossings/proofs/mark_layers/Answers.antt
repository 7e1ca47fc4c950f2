-- `tree_crossings::mark_layers` meets its contract. Assumes nothing.
use lib.ListN.{length}
use Rattle.tree_crossings.proofs.LayerLaws.{layers-parted}
use Rattle.tree_crossings.proofs.mark_layers.Goals as goal

pub returns : goal.returns
returns c =
    let a = c.args in
    layers-parted a.nodes c.flip_ends.new.layers c.sum_layers.new.layers c.sum_layers.ensures
    a.links.now.firsts a.links.now.seconds a.members.now a.place.now (length a.members.now) c.flip_ends.ensures
