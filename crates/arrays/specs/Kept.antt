-- What is kept of a tree, worked out once before its first pair is weighed (document 02, F-4). Each node has a place, a number below the
-- number of nodes, and each place but the first, the root's, has the parent link of its node. Assumes nothing.
--   within from to p     the place p is one of from, .., to - 1
--   LinksAt net t l      l has a member at each place but the first, and every member at one place and no other
--   Kept net t a n b l   a has the place of each node and n the node at each place; l has the links, and a node lies below the link at
--                        the place p exactly where its own place is one of p, .., b p - 1
use Rattle.std.specs.Prelude.{ℕ, ◌≤◌, ◌<◌, ◌≡◌, Bool, ◌&&◌, List, leb, ltb}
use Rattle.cuts.specs.Network.{Tree, Network, flag}
use Rattle.cuts.specs.Tree.{below, Member, Spanning}
use Rattle.arrays.specs.Lists.{entry}

abbrev pub within : ℕ → ℕ → ℕ → Bool
within from to p = leb from p && ltb p to

pub record LinksAt (net : Network) (t : Tree) (links : List ℕ) : Type 0 where
  pub member : (p : ℕ) → 0 < p → p < net.nodes → Member net t (entry links p)
  pub once : (p q : ℕ) → 0 < p → p < net.nodes → 0 < q → q < net.nodes → entry links p ≡ entry links q → p ≡ q
  pub every : (e : ℕ) → Member net t e → (p : ℕ) × (0 < p) × (p < net.nodes) × (entry links p ≡ e)

pub record Kept (net : Network) (t : Tree) (place node stops links : List ℕ) : Type 0 where
  pub spanning : Spanning net t
  -- places and nodes
  pub placed : (x : ℕ) → x < net.nodes → entry place x < net.nodes
  pub back : (x : ℕ) → x < net.nodes → entry node (entry place x) ≡ x
  pub taken : (p : ℕ) → p < net.nodes → entry node p < net.nodes
  pub forth : (p : ℕ) → p < net.nodes → entry place (entry node p) ≡ p
  pub root : entry place 0 ≡ 0
  -- the tree's links by place, and the nodes below each
  pub links-at : LinksAt net t links
  pub some : (p : ℕ) → p < net.nodes → p < entry stops p
  pub most : (p : ℕ) → p < net.nodes → entry stops p ≤ net.nodes
  pub below_is : (p x : ℕ) → 0 < p → p < net.nodes → x < net.nodes → flag (below net t (entry links p)) x ≡ within p (entry stops p) (entry place x)
