-- `packing::count_tree` meets its contract: a share is added only where no member is overfull, so that each load stays within its link's
-- weight, which four bytes hold. Assumes nothing.
use mathlib.Core.Path.{◌≡◌, sym, ◌∙◌}
use mathlib.Core.Bool.{false}
use native.Mathlib.Omega.{arith}
use Rattle.cuts.specs.Sums.{any_to}
use Rattle.packing.specs.Loads.{overfull}
use Rattle.packing.proofs.ShareLaws.{has_room}
use Rattle.packing.proofs.count_tree.Goals as goal
use Rattle.packing.proofs.count_tree.Goals.{Then-counts}

-- where the tree counts, no member is overfull
none-full : (c : Then-counts) → let a = c.args in any_to a.links (overfull a.map.now a.share a.weights.now a.loads.now) ≡ false
none-full c = sym c.overloads-counts.ensures ∙ c.if-counts.true

pub add_share-requires : goal.add_share-requires
add_share-requires c =
    let a = c.args in
    let p = c.requires in
    let none = none-full (goal.at.add_share-requires c).Then-counts in
    record {
      mapped = p.mapped;
      sized = p.sized;
      fits = λ k b. omega (arith, has_room a.map.now a.share a.weights.now a.loads.now a.links none k b (p.carried k b), c.type_inv.weights k);
    }
