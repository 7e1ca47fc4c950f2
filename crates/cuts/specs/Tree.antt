-- What links join to the root, spanning trees, and the nodes below a tree link. Assumes nothing.
--   joins net s x k       link k joins node x to a node of s
--   spread net chosen s   s, and the nodes that a chosen link joins to a node of s
--   spreads r net ch s    s spread r times
--   root net              the root alone
--   joined net chosen     the nodes that the chosen links join to the root. No walk needs more links than there are nodes;
--                         Paths says that these are the nodes from which a walk leads there
--   member_count net t    how many members the tree has
--   spans net t           the tree's members join every node to the root
--   below net t e         the nodes below the tree link e: those that the other members do not join to the root. Paths says
--                         that these are the nodes whose tree path to the root uses e
--   Member net t k        k is a member link of the tree
--   Spanning net t        the tree's members are one fewer than the nodes and join all of them to the root
--   Sound net             at least two nodes, links between nodes, and at least one tree, each of them spanning
use Rattle.std.specs.Prelude.{ℕ, zero, suc, ◌-◌, ◌≤◌, ◌<◌, ◌≡◌, Bool, true, false, ◌&&◌, ◌||◌, not, List, map, length, set, eqb}
use Rattle.cuts.specs.Sums.{sum_to, count_to, any_to, all_to, table}
use Rattle.cuts.specs.Network.{Tree, Network, Linked, flag, link_at, link_count, tree_at}
use Rattle.cuts.specs.Cut.{Side}

unfoldable pub joins : Network → Side → ℕ → ℕ → Bool
joins net s x k =
    (eqb (link_at net k).first x && flag s (link_at net k).second)
    || (eqb (link_at net k).second x && flag s (link_at net k).first)

unfoldable pub spread : Network → List Bool → Side → Side
unfolding joins any_to table
spread net chosen s =
    table net.nodes (λ x. flag s x || any_to (link_count net) (λ k. flag chosen k && joins net s x k))

unfoldable pub spreads : ℕ → Network → List Bool → Side → Side
unfolding spread
spreads zero net chosen s = s
spreads (suc r) net chosen s = spread net chosen (spreads r net chosen s)

unfoldable pub root : Network → Side
unfolding table
root net = table net.nodes (λ x. eqb x 0)

unfoldable pub joined : Network → List Bool → Side
unfolding spreads root
joined net chosen = spreads net.nodes net chosen (root net)

unfoldable pub member_count : Network → Tree → ℕ
unfolding sum_to
member_count net t = count_to (link_count net) (flag t.members)

unfoldable pub spans : Network → Tree → Bool
unfolding all_to joined
spans net t = let s : Side = joined net t.members in all_to net.nodes (flag s)

unfoldable pub below : Network → Tree → ℕ → Side
unfolding joined
below net t e = map not (joined net (set t.members e false))

pub record Member (net : Network) (t : Tree) (k : ℕ) : Type 0 where
  pub is_link : k < link_count net
  pub is_set : flag t.members k ≡ true

pub record Spanning (net : Network) (t : Tree) : Type 0 where
  pub linked : Linked net
  pub counted : member_count net t ≡ net.nodes - 1
  pub spanning : spans net t ≡ true

pub record Sound (net : Network) : Type 0 where
  pub several : 2 ≤ net.nodes
  pub linked : Linked net
  pub listed : 0 < length net.trees
  pub spanning : (i : ℕ) → i < length net.trees → Spanning net (tree_at net i)
