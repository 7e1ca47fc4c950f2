-- `tree_crossings::strike_tree` meets its contract: the layers are those of the members that the map lists. Assumes nothing.
use Prim.Native.Nat.{ℕ, ◌≤◌, ◌<◌}
use mathlib.Core.Path.{refl, sym, subst, ◌∙◌}
use native.Mathlib.Omega.{arith}
use lib.ListN.{length, take}
use lib.Seq.{length-take-le, get_or-take, take_all}
use Rattle.cuts.specs.Limits.{most_nodes}
use Rattle.read_sheet.proofs.TreeLaws.{listed-within, member_links-map}
use Rattle.tree_crossings.specs.Strikes.{Struck}
use Rattle.tree_crossings.proofs.CrossLaws.{tabled_struck}
use Rattle.tree_crossings.proofs.strike_tree.Goals as goal
use Rattle.tree_crossings.proofs.strike_tree.Goals.{After-list_members-listed}

-- the members are fewer than the nodes
members-few : (c : After-list_members-listed) → c.list_members-listed.result < most_nodes
members-few c =
    let p = c.requires.counted in
    let k = p.links_known in
    omega (arith, c.list_members-listed.ensures.counted, p.counted, k.some, k.few_nodes)

pub slice_bounds-members-end : goal.slice_bounds-members-end
slice_bounds-members-end c =
    let few = members-few (goal.at.slice_bounds-members-end c).After-list_members-listed in
    omega (arith, few, c.list_members-listed.auto.members)

pub slice_bounds-mark_layers-end-2 : goal.slice_bounds-mark_layers-end-2
slice_bounds-mark_layers-end-2 c =
    let l = c.list_members-listed in
    let few = members-few (goal.at.slice_bounds-mark_layers-end-2 c).After-list_members-listed in
    sym (length-take-le l.result l.new.members (omega (arith, few, l.auto.members)))

pub mark_layers-requires : goal.mark_layers-requires
mark_layers-requires c =
    let l = c.list_members-listed in
    let k = c.requires.counted.links_known in
    let few = members-few (goal.at.mark_layers-requires c).After-list_members-listed in
    let there : l.result ≤ length l.new.members = omega (arith, few, l.auto.members) in
    let many = length-take-le l.result l.new.members there in
    record {
      clear = refl;
      chosen = record {
        few_nodes = k.few_nodes;
        there = omega arith;
        known = λ i b.
            rw (get_or-take l.result l.new.members i 0 (omega arith))
            (k.known _ (listed-within l.new.members l.result c.args.count _ l.ensures.listed there i (omega arith)));
      };
      few = omega arith;
    }

pub returns : goal.returns
returns c =
    let l = c.list_members-listed in
    let a = c.args in
    let few = members-few (goal.at.returns c).After-list_members-listed in
    let many = length-take-le l.result l.new.members (omega (arith, few, l.auto.members)) in
    λ net t t' p h n e ranked tabled.
    tabled_struck ranked (record {
      firsts = _;
      seconds = _;
      nodes = a.nodes;
      members = take l.result l.new.members;
      count = length (take l.result l.new.members);
      held = h;
      ends_parted = c.mark_layers.ensures;
      few = omega arith;
      there = omega arith;
      listed = take_all (length (take l.result l.new.members)) (take l.result l.new.members) (omega arith) ∙ l.ensures.listed ∙ member_links-map net t' a.map.now a.count n e;
    }) p a.table.now c.strike.new.table tabled
    (subst (λ (x : ℕ). Struck x c.mark_layers.new.layers a.r.now.places.stops a.r.now.at a.table.now c.strike.new.table) (sym h.sized)
    c.strike.ensures)
