-- A tree as it grows from the root: what is given and what it answers and leaves behind. Assumes nothing.
--   Given net t fs ss ms n      the arrays hold the network's ends, and ms are the tree's members, rising
--   GrownTree net t o p l all   what growing the tree gives: `all` says whether its members join every node to the root; if so,
--                               o, p and l order its nodes, and a tree with one member fewer than nodes has each member as the
--                               parent link of exactly one node
--   TreeOrdered net t o p l     the tree's members join every node to the root, and so do o, p and l order its nodes
use Rattle.std.specs.Prelude.{ℕ, ◌-◌, ◌≡◌, Bool, true, List}
use Rattle.cuts.specs.Network.{Tree, Network}
use Rattle.cuts.specs.Tree.{member_count, spans}
use Rattle.cuts.specs.Candidate.{member_links}
use Rattle.arrays.specs.Links.{Held}
use Rattle.arrays.specs.Order.{Ordered, Owned}

pub record Given (net : Network) (t : Tree) (fs ss ms : List ℕ) (nodes : ℕ) : Type 0 where
  pub held : Held net fs ss nodes
  pub members : ms ≡ member_links net t

pub record GrownTree (net : Network) (t : Tree) (order parents uplinks : List ℕ) (all : Bool) : Type 0 where
  pub joined : all ≡ spans net t
  pub ordered : all ≡ true → Ordered net t order parents uplinks
  pub owned : all ≡ true → member_count net t ≡ net.nodes - 1 → Owned net t uplinks

pub record TreeOrdered (net : Network) (t : Tree) (order parents uplinks : List ℕ) : Type 0 where
  pub joined : spans net t ≡ true
  pub ordered : Ordered net t order parents uplinks
  pub owned : member_count net t ≡ net.nodes - 1 → Owned net t uplinks
