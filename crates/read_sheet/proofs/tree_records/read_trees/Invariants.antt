-- `tree_records::read_trees` meets its contract. The loop's invariant: reading goes on behind the trees so far as the definition does, for
-- every network that the arrays hold; a turn reads the record that the definition reads next. Assumes nothing.
use Prim.Native.Nat.{◌+◌, ◌*◌, ◌≤◌}
use mathlib.Core.Path.{◌≡◌}
use lib.ListN.{length}
use Rattle.cuts.specs.Network.{Network, link_count}
use Rattle.arrays.specs.Links.{Held}
use Rattle.sheet.specs.Sheet.{tree_length}
use Rattle.read_sheet.proofs.TreeLaws.{TreesRun}
use Rattle.read_sheet.proofs.tree_records.read_trees.Given as goal

abbrev pub invariant-loop-tree : goal.invariant-loop-tree
invariant-loop-tree l = record {
  inside : l.at ≤ length l.s;
  here : l.at ≡ l.from + l._tree * tree_length l.count;
  run : (net : Network) → Held net l.links.firsts l.links.seconds l.nodes → link_count net ≡ l.count
      → TreesRun net l.s l.from l.trees l.at l._tree;
}
