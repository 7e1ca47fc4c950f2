-- `tree_growth::grow` meets its contract: the members that are listed by node are those that the tree has. Assumes nothing.
use mathlib.Core.Path.{sym, ◌∙◌, subst}
use mathlib.Core.List.{List}
use Prim.Native.Nat.{ℕ}
use native.Mathlib.Omega.{arith}
use Rattle.cuts.specs.Network.{Network, Tree}
use Rattle.arrays.specs.Grown.{Given, GrownTree}
use Rattle.arrays.specs.ByNode.{ByNode}
use Rattle.tree_growth.proofs.grow.Goals as goal
use Rattle.tree_growth.proofs.grow.Goals.{After-grow_queue}

grown : (c : After-grow_queue) (net : Network) (t : Tree) → let a = c.args in Given net t a.firsts.now a.seconds.now a.members.now a.nodes
    → let g = c.grow_queue.new.tree in GrownTree net t g.order g.parents g.uplinks c.grow_queue.result
grown c net t p =
    let a = c.args in
    let l = c.list_by_node in
    c.grow_queue.ensures net t p.held
    (subst (λ (ks : List ℕ). ByNode a.firsts.now a.seconds.now ks l.new.starts l.new.runs a.nodes) p.members l.ensures)

pub list_by_node-requires : goal.list_by_node-requires
list_by_node-requires c =
    let p = c.requires in
    record {
      countable = record { chosen = p.chosen; few = omega (arith, p.few); room = omega (arith, p.chosen.few_nodes) };
      runs_room = omega (arith, p.few);
    }

pub grow_queue-requires : goal.grow_queue-requires
grow_queue-requires c =
    let l = c.list_by_node in
    record {
      some = c.requires.some;
      few_nodes = c.requires.chosen.few_nodes;
      starts_there = omega (arith, l.auto);
      links = c.args.members.now;
      by_node = l.ensures;
    }

pub returns-then-grow_queue : goal.returns-then-grow_queue
returns-then-grow_queue c net t p =
    let g = grown (goal.at.returns-then-grow_queue c).After-grow_queue net t p in
    let all = c.if-grow_queue.true in
    record { joined = sym g.joined ∙ all; ordered = g.ordered all; owned = g.owned all }

pub returns-else-grow_queue : goal.returns-else-grow_queue
returns-else-grow_queue c net t p =
    let g = grown (goal.at.returns-else-grow_queue c).After-grow_queue net t p in
    sym g.joined ∙ c.if-grow_queue.false
