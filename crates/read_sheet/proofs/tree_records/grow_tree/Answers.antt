-- `tree_records::grow_tree` meets its contract. The members listed are those of the map. Assumes nothing.
use Prim.Native.Nat.{◌≤◌}
use mathlib.Core.Path.{◌∙◌}
use native.Mathlib.Omega.{arith}
use lib.ListN.{length}
use lib.Seq.{length-take-le, get_or-take}
use Rattle.read_sheet.proofs.TreeLaws.{listed-within, member_links-map}
use Rattle.read_sheet.proofs.tree_records.grow_tree.Goals as goal

pub grow-requires : goal.grow-requires
grow-requires c =
    let l = c.list_members-found in
    let p = c.requires in
    let k = p.links_known in
    let there : l.result ≤ length l.new.members = omega (arith, l.ensures.counted, p.counted, k.few_nodes, l.auto.members) in
    let many = length-take-le l.result l.new.members there in
    record {
      some = k.some;
      few = omega (arith, l.auto.members);
      chosen = record {
        few_nodes = k.few_nodes;
        there = omega arith;
        known = λ i b. rw (get_or-take l.result l.new.members i 0 (omega arith)) (k.known _ (listed-within l.new.members l.result c.args.count _ l.ensures.listed there i (omega arith)));
      };
    }

pub returns : goal.returns
returns c =
    let l = c.list_members-found in
    let a = c.args in
    λ net t h n e. c.grow.ensures net t (record { held = h; members = l.ensures.listed ∙ member_links-map net t a.map.now a.count n e })
