-- Demands 2 and 3, stated of a network and of an answer, which may be any: the answer that the definitions give, or what is
-- read back from the bytes of the two areas. The comments are the demands' words, of the floor those of request F-3, and of the order
-- of candidates those of request F-6. Assumes nothing.
--   Belongs net t s   the side s belongs to one single link or pair of the tree t
--   Demand2 net a     the answer a agrees with the definition of a cut that crosses at most two tree links, and conversely
--   Demand3 n net a   the answer a reports a lightest cut, its floor and its mark, where trees count for the floor by the rule n
--   Owed r net a      what is owed of an answer by the rules r: both demands, what is said of the choice among
--                     candidates, and what the definitions mean in terms of walks and tree paths
use Rattle.std.specs.Prelude.{ℕ, ◌*◌, ◌≤◌, ◌<◌, min, ◌≡◌, ◌⊎◌, ◌↔◌, Bool, length}
use mathlib.Core.List.{List, Memᴰ}
use Rattle.cuts.specs.Network.{Tree, Network, tree_at}
use Rattle.cuts.specs.Cut.{Side, Respects, Proper, Rootless, crosses, cut_weight, crossings, size}
use Rattle.cuts.specs.Tree.{Member}
use Rattle.cuts.specs.Candidate.{Handle, Candidate, Fits, names, side_of, weight_of, candidates, Precedes}
use Rattle.cuts.specs.Bound.{Counting, CountedBy, shares}
use Rattle.cuts.specs.Paths.{Reaches, Paths}
use Rattle.cuts.specs.Answer.{Rules, Answer, certified, trees_only}

pub record Belongs (net : Network) (t : Tree) (s : Side) : Type 0 where
  pub handle : Handle
  pub fits : Fits net t handle
  -- "belongs to one single cable or pair of that tree"
  pub stands : s ≡ side_of net t handle
  -- "and to no other"
  pub no_other : (h : Handle) → Fits net t h → s ≡ side_of net t h → h ≡ handle
  -- "and weighs what that definition says"
  pub weighs : cut_weight net s ≡ weight_of net t handle

pub record Demand2 (net : Network) (a : Answer) : Type 0 where
  -- "Every reported side, weight, count and pair of tree cables agrees with the published definition": the named links are
  -- members of the named tree, the side is theirs and crosses these members and no other, at most two
  pub tree_listed : a.best.tree < length net.trees
  pub links_fit : Fits net (tree_at net a.best.tree) a.best.handle
  pub side_is : a.best.side ≡ side_of net (tree_at net a.best.tree) a.best.handle
  pub side_crosses : (k : ℕ) → Member net (tree_at net a.best.tree) k
      → crosses net a.best.side k ≡ names a.best.handle k
  pub at_most_two : Respects net (tree_at net a.best.tree) a.best.side
  pub weight_is : a.best.weight ≡ weight_of net (tree_at net a.best.tree) a.best.handle
  pub count_is : a.best.count ≡ size net a.best.side
  -- "Conversely, each side without the core switch that crosses one or two cables of a tree"
  pub conversely : (i : ℕ) → i < length net.trees → (s : Side) → Rootless net s
      → 1 ≤ crossings net (tree_at net i) s → Respects net (tree_at net i) s → Belongs net (tree_at net i) s

pub record Demand3 (counting : Counting) (net : Network) (a : Answer) : Type 0 where
  -- "the weakest cut reported is neither empty nor full"
  pub proper : Proper net a.best.side
  -- "and crosses at most two cables of some listed tree"
  pub respects : (i : ℕ) × (i < length net.trees) × Respects net (tree_at net i) a.best.side
  -- "the weight reported is its own"
  pub own_weight : a.best.weight ≡ cut_weight net a.best.side
  -- "every side, neither empty nor full, that crosses at most two cables of at least one listed tree weighs at least as much"
  pub lightest : (s : Side) → Proper net s → (i : ℕ) → i < length net.trees → Respects net (tree_at net i) s
      → a.best.weight ≤ cut_weight net s
  -- F-3, instead of the demand's sum of all shares and its 0 elsewhere: "the trees that count are the longest run from tree 0 on
  -- that loads no link past its weight, and the floor uses the sum of their shares only"
  pub counted : List Tree
  pub counts : CountedBy counting net net.trees counted
  pub floor_is : a.floor ≡ min a.best.weight (3 * shares counted)
  -- "Every side of the whole network, neither empty nor full, whether or not a tree shows it, weighs at least the reported floor"
  pub floor_bounds : (s : Side) → Proper net s → a.floor ≤ cut_weight net s
  -- "the cut is marked as weakest of the whole network exactly when its weight equals that floor"
  pub marked : (a.verdict ≡ certified) ↔ (a.best.weight ≡ a.floor)

pub record Owed (r : Rules) (net : Network) (a : Answer) : Type 0 where
  pub demand2 : Demand2 net a
  pub demand3 : Demand3 r.counting net a
  -- document 01: "so the reported side never holds node 0"
  pub rootless : Rootless net a.best.side
  -- document 01: "else 1 (trees only)"
  pub unmarked : (a.best.weight ≡ a.floor → ⊥) → a.verdict ≡ trees_only
  -- document 01: "the first in order is reported", and F-6: "the order is weight, fewer nodes in the side, tree, first link, single
  -- before pair, second link"
  pub listed : Memᴰ a.best (candidates net)
  pub first : (d : Candidate) → Memᴰ d (candidates net) → (d ≡ a.best) ⊎ Precedes r.key a.best d
  -- the definitions mean what document 01 says by tree paths and joining: "nodes whose tree path to node 0 uses it", "the links whose
  -- ends are joined by a tree path using both", "join every node to node 0"
  pub paths : (i : ℕ) → i < length net.trees → Paths net (tree_at net i)
  pub reaches : (chosen : List Bool) → Reaches net chosen
