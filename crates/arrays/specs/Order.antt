-- A tree's nodes in an order that starts at the root and has each node behind its parent. The order is a list of nodes; parents and
-- parent links, `uplinks`, are lists with a number for each node. Assumes nothing.
--   Hung net t k x p           node x hangs by the member k on node p
--   Tied net t o p l i         the i-th node of the order o, from 0, hangs by its link, in l, on its parent, in p, which stands before it
--   Listed net t o p l count   the first `count` numbers of o are different nodes, the root first and each other one tied
--   Ordered net t o p l        so are as many as there are nodes, and every node is one of them
--   Lower net l e v            v is the lower end of e: a node other than the root whose parent link is e
--   Owned net t l              every member is the parent link of exactly one node
use Rattle.std.specs.Prelude.{ℕ, ◌<◌, ◌≡◌, List}
use Rattle.cuts.specs.Network.{Tree, Network}
use Rattle.cuts.specs.Tree.{Member}
use Rattle.cuts.specs.Paths.{Meets}
use Rattle.arrays.specs.Lists.{entry}

pub record Hung (net : Network) (t : Tree) (k x p : ℕ) : Type 0 where
  pub member : Member net t k
  pub meets : Meets net k x p

pub record Tied (net : Network) (t : Tree) (order parents uplinks : List ℕ) (i : ℕ) : Type 0 where
  pub at : ℕ
  pub before : at < i
  pub above : entry order at ≡ entry parents (entry order i)
  pub hung : Hung net t (entry uplinks (entry order i)) (entry order i) (entry parents (entry order i))

pub record Listed (net : Network) (t : Tree) (order parents uplinks : List ℕ) (count : ℕ) : Type 0 where
  pub start : entry order 0 ≡ 0
  pub within : (i : ℕ) → i < count → entry order i < net.nodes
  pub once : (i j : ℕ) → i < count → j < count → entry order i ≡ entry order j → i ≡ j
  pub tied : (i : ℕ) → 0 < i → i < count → Tied net t order parents uplinks i

pub record Ordered (net : Network) (t : Tree) (order parents uplinks : List ℕ) : Type 0 where
  pub listed : Listed net t order parents uplinks net.nodes
  pub every : (x : ℕ) → x < net.nodes → (i : ℕ) × (i < net.nodes) × (entry order i ≡ x)

pub record Lower (net : Network) (uplinks : List ℕ) (e v : ℕ) : Type 0 where
  pub under : v < net.nodes
  pub off : v ≡ 0 → ⊥
  pub is : entry uplinks v ≡ e

abbrev pub Owned : Network → Tree → List ℕ → Type 0
Owned net t uplinks = (e : ℕ) → Member net t e → (v : ℕ) × Lower net uplinks e v × ((w : ℕ) → Lower net uplinks e w → w ≡ v)
