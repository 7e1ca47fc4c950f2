-- What growing a tree asks. Assumes nothing.
--   Growable fs ss ms nodes      the links ms can be listed by node, at most as many as there may be nodes, and there is a root
--   Queueable nodes fs ss hs ls  the lists hs and ls list links by node, whichever they are, and there is a root
use Rattle.std.specs.Prelude.{ℕ, ◌+◌, ◌≤◌, ◌<◌, List, length}
use Rattle.cuts.specs.Limits.{most_nodes}
use Rattle.arrays.specs.ByNode.{ByNode}
use Rattle.by_node.specs.Runs.{Chosen}

pub record Growable (fs ss ms : List ℕ) (nodes : ℕ) : Type 0 where
  pub some : 0 < nodes
  pub few : length ms ≤ most_nodes
  pub chosen : Chosen fs ss ms (length ms) nodes

pub record Queueable (nodes : ℕ) (fs ss head runs : List ℕ) : Type 0 where
  pub some : 0 < nodes
  pub few_nodes : nodes ≤ most_nodes
  pub starts_there : most_nodes + 1 ≤ length head
  pub links : List ℕ
  pub by_node : ByNode fs ss links head runs nodes
