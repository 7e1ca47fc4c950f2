-- Places by node: the nodes of a tree numbered so that the nodes below each member stand side by side, from the member's lower end on (a
-- preorder). Sizes, heaviest children, places and stops are lists with a number for each node. Assumes nothing.
--   SomeNodes nodes               there is a node, and there are no more than a sheet can have
--   stop_numbers                  the numbers that a stop can be are below it: each place's, and the one behind the last place
--   StopsKnown b                  every number of b is one that a stop can be
--   under net t l v x             node x lies in the subtree of v: any node in the root's, else a node below v's parent link
--   subtree net t l v             how many nodes lie in the subtree of v
--   Rooted net t o p l nodes      the tree t spans the network, which has so many nodes, and o, p and l order them
--   Child net p v c               c is a node other than the root whose parent, in p, is v
--   Sized net t l s               s has the size of every node's subtree
--   Heaviest net p s h            h has for every node with a child one of its children with the largest size in s, and 0 for any other
--   Preorder net t l a b          a has the places, which are the numbers below the number of nodes, each of them one node's, and b the
--                                 stops: the nodes below a member are those with places from its lower end's on and before its stop
--   HeavyFirst net h a            the heaviest child stands at the place behind its parent's
--   HeavyPreorder net t l h a b   so it is in a preorder
--   PlacesOf nodes o p s h a b    so it is of every tree of so many nodes that the order, the sizes and the heaviest children fit; whatever
--                                 they are, the stops are known
--   ByPlace net a n               n has for each place its node
--   NodesOf nodes a n             so it is of every preorder of so many nodes; whatever a has, the numbers of n are nodes
--   Gathered out n from m         out has, at each of the first m places, what `from` has for its node
--   GatheredKnown m n from out    so it is, and out has known stops where `from` has
--   TreePlaced nodes g r          r keeps what g is the growth of, a tree of any network with so many nodes; whatever g has, the nodes and the
--                                 stops of r are known
use Rattle.std.specs.Prelude.{ℕ, ◌+◌, ◌≤◌, ◌<◌, ◌≡◌, Bool, ◌||◌, List, eqb}
use Rattle.cuts.specs.Sums.{sum_to, count_to}
use Rattle.cuts.specs.Network.{Tree, Network, flag}
use Rattle.cuts.specs.Limits.{most_nodes}
use Rattle.cuts.specs.Tree.{below, Spanning}
use Rattle.arrays.specs.Lists.{entry, Within}
use Rattle.arrays.specs.Order.{Ordered, Lower}
use Rattle.arrays.specs.Kept.{within, Kept}
use Rattle.tree_growth.specs.declared.Grown.{Grown}
use Rattle.tree_places.specs.declared.Places as places

-- ---- sizes of arrays

pub record SomeNodes (nodes : ℕ) : Type 0 where
  pub some : 0 < nodes
  pub few_nodes : nodes ≤ most_nodes

abbrev pub stop_numbers : ℕ
stop_numbers = most_nodes + 1

abbrev pub StopsKnown : List ℕ → Type 0
StopsKnown stops = Within stops most_nodes stop_numbers

-- ---- subtrees

unfoldable pub under : Network → Tree → List ℕ → ℕ → ℕ → Bool
under net t uplinks v x = eqb v 0 || flag (below net t (entry uplinks v)) x

unfoldable pub subtree : Network → Tree → List ℕ → ℕ → ℕ
unfolding sum_to under
subtree net t uplinks v = count_to net.nodes (under net t uplinks v)

pub record Rooted (net : Network) (t : Tree) (order parents uplinks : List ℕ) (nodes : ℕ) : Type 0 where
  pub spanning : Spanning net t
  pub ordered : Ordered net t order parents uplinks
  pub counted : net.nodes ≡ nodes

pub record Child (net : Network) (parents : List ℕ) (v c : ℕ) : Type 0 where
  pub under : c < net.nodes
  pub off : c ≡ 0 → ⊥
  pub is : entry parents c ≡ v

abbrev pub Sized : Network → Tree → List ℕ → List ℕ → Type 0
Sized net t uplinks sizes = (x : ℕ) → x < net.nodes → entry sizes x ≡ subtree net t uplinks x

pub record Heaviest (net : Network) (parents sizes heavy : List ℕ) : Type 0 where
  pub child : (v : ℕ) → v < net.nodes → (entry heavy v ≡ 0 → ⊥) → Child net parents v (entry heavy v)
  pub some : (v c : ℕ) → v < net.nodes → Child net parents v c → entry heavy v ≡ 0 → ⊥
  pub most : (v c : ℕ) → v < net.nodes → Child net parents v c → entry sizes c ≤ entry sizes (entry heavy v)

-- ---- places

pub record Preorder (net : Network) (t : Tree) (uplinks place stop : List ℕ) : Type 0 where
  pub below_is : {e v : ℕ} → Lower net uplinks e v → (x : ℕ) → x < net.nodes
      → flag (below net t e) x ≡ within (entry place v) (entry stop v) (entry place x)
  pub root : entry place 0 ≡ 0
  pub placed : (x : ℕ) → x < net.nodes → entry place x < net.nodes
  pub once : (x y : ℕ) → x < net.nodes → y < net.nodes → entry place x ≡ entry place y → x ≡ y
  pub every : (p : ℕ) → p < net.nodes → (x : ℕ) × (x < net.nodes) × (entry place x ≡ p)
  pub bounds : (x : ℕ) → x < net.nodes → (entry place x < entry stop x) × (entry stop x ≤ net.nodes)

abbrev pub HeavyFirst : Network → List ℕ → List ℕ → Type 0
HeavyFirst net heavy place = (v : ℕ) → v < net.nodes → (entry heavy v ≡ 0 → ⊥) → entry place (entry heavy v) ≡ entry place v + 1

pub record HeavyPreorder (net : Network) (t : Tree) (uplinks heavy place stop : List ℕ) : Type 0 where
  pub preorder : Preorder net t uplinks place stop
  pub heavy_first : HeavyFirst net heavy place

pub record PlacesOf (nodes : ℕ) (order parents sizes heavy place stop : List ℕ) : Type 0 where
  pub stops_known : StopsKnown stop
  pub placed : (net : Network) (t : Tree) (uplinks : List ℕ) → Rooted net t order parents uplinks nodes → Sized net t uplinks sizes
      → Heaviest net parents sizes heavy → HeavyPreorder net t uplinks heavy place stop

-- ---- by place

abbrev pub ByPlace : Network → List ℕ → List ℕ → Type 0
ByPlace net place node = (x : ℕ) → x < net.nodes → entry node (entry place x) ≡ x

pub record NodesOf (nodes : ℕ) (place node : List ℕ) : Type 0 where
  pub nodes_known : Within node most_nodes nodes
  pub by_place : (net : Network) (t : Tree) (uplinks stop : List ℕ) → Preorder net t uplinks place stop → net.nodes ≡ nodes → ByPlace net place node

abbrev pub Gathered : List ℕ → List ℕ → List ℕ → ℕ → Type 0
Gathered out node from count = (p : ℕ) → p < count → entry out p ≡ entry from (entry node p)

pub record GatheredKnown (count : ℕ) (node from out : List ℕ) : Type 0 where
  pub gathered : Gathered out node from count
  pub stops_known : StopsKnown from → StopsKnown out

pub record TreePlaced (nodes : ℕ) (g : Grown) (r : places.Places) : Type 0 where
  pub nodes_known : Within r.node most_nodes nodes
  pub stops_known : StopsKnown r.stops
  pub kept : (net : Network) (t : Tree) → Rooted net t g.order g.parents g.uplinks nodes
      → Kept net t r.place r.node r.stops r.links
