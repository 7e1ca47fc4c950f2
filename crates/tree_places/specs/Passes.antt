-- What the passes over a tree's order have computed when they have come to its i-th node, from 0. Assumes nothing.
--   child o p v j                 the j-th node of the order o is not the first, and is a child of v
--   SizedFrom net t o p l i s     s has for each node the sizes of the subtrees of its children, from the i-th node on, and one for itself
--   heavier s h x                 the one of the nodes h and x with the larger size, h if they are even; x where h is 0
--   Heavy o p s h i               h has for each node the heaviest of its children before the i-th node, 0 where it has none there
--   size_in s h                   the size of the node h, 0 where h is 0, which stands for no child
--   in_front o p s h v i          the sizes of the children of v before the i-th node, but for the heaviest
--   shift o p s h v j             how far v's child that is the j-th node stands behind the place of v's first child
--   seat h a f v x                the place for the child x of v, where v has its place in a and its first free place in f
--   freed h s f v x               f when x has its places
--   Settled a b f x at size heaviest a' b' f'
--                                 node x has its place, its stop and its first free place, behind its heaviest child's places: a', b' and f' are a,
--                                 b and f with these, as the passes compute them
--   Placing net o p s h i a b f   the nodes before the i-th have their places in a and stops in b, none past the number of nodes, and f has for each
--                                 of them the first free place for a child that is not its heaviest
use Rattle.std.specs.Prelude.{ℕ, ◌+◌, ◌%◌, ◌≤◌, ◌<◌, ◌≡◌, Bool, ◌&&◌, not, cond, List, set, eqb, leb, ltb}
use Rattle.cuts.specs.Sums.{sum_to, only}
use Rattle.cuts.specs.Network.{Tree, Network}
use Rattle.cuts.specs.Limits.{most_nodes}
use Rattle.arrays.specs.Lists.{entry}
use Rattle.tree_places.specs.Places.{stop_numbers, subtree}

-- ---- sizes, from the last node on

abbrev pub child : List ℕ → List ℕ → ℕ → ℕ → Bool
child order parents v j = leb 1 j && eqb (entry parents (entry order j)) v

pub record SizedFrom (net : Network) (t : Tree) (order parents uplinks : List ℕ) (i : ℕ) (sizes : List ℕ) : Type 0 where
  pub is : (v : ℕ) → v < net.nodes
      → entry sizes v ≡ 1 + sum_to net.nodes (λ j. only (leb i j && eqb (entry parents (entry order j)) v) (subtree net t uplinks (entry order j)))

-- ---- heaviest children

abbrev pub heavier : List ℕ → ℕ → ℕ → ℕ
heavier sizes h x = cond (eqb h 0) x (cond (ltb (entry sizes h) (entry sizes x)) x h)

pub record Heavy (order parents sizes heavy : List ℕ) (i : ℕ) : Type 0 where
  pub child : (v : ℕ) → v < most_nodes → (entry heavy v ≡ 0 → ⊥)
      → (j : ℕ) × (0 < j) × (j < i) × (entry order j ≡ entry heavy v) × (entry parents (entry order j) ≡ v)
  pub some : (j : ℕ) → 0 < j → j < i → entry heavy (entry parents (entry order j)) ≡ 0 → ⊥
  pub most : (j : ℕ) → 0 < j → j < i → entry sizes (entry order j) ≤ entry sizes (entry heavy (entry parents (entry order j)))

-- ---- places

abbrev pub size_in : List ℕ → ℕ → ℕ
size_in sizes h = cond (eqb h 0) 0 (entry sizes h)

unfoldable pub in_front : List ℕ → List ℕ → List ℕ → List ℕ → ℕ → ℕ → ℕ
unfolding sum_to
in_front order parents sizes heavy v i = sum_to i (λ j. only (child order parents v j && not (eqb (entry heavy v) (entry order j))) (entry sizes (entry order j)))

abbrev pub shift : List ℕ → List ℕ → List ℕ → List ℕ → ℕ → ℕ → ℕ
shift order parents sizes heavy v j =
    cond (eqb (entry heavy v) (entry order j)) 0 (size_in sizes (entry heavy v) + in_front order parents sizes heavy v j)

abbrev pub seat : List ℕ → List ℕ → List ℕ → ℕ → ℕ → ℕ
seat heavy place free v x = cond (eqb (entry heavy v) x) (entry place v + 1) (entry free v)

abbrev pub freed : List ℕ → List ℕ → List ℕ → ℕ → ℕ → List ℕ
freed heavy sizes free v x = cond (eqb (entry heavy v) x) free (set free v (entry free v + entry sizes x))

pub record Settled (place stop free : List ℕ) (x at size heaviest : ℕ) (place' stop' free' : List ℕ) : Type 0 where
  pub place_set : place' ≡ set place x (at % most_nodes)
  pub stop_set : stop' ≡ set stop x ((at + size) % stop_numbers)
  pub free_set : free' ≡ set free x (((at + 1) % stop_numbers + heaviest) % stop_numbers)

pub record Placing (net : Network) (order parents sizes heavy : List ℕ) (i : ℕ) (place stop free : List ℕ) : Type 0 where
  pub root : entry place 0 ≡ 0
  pub placed : (j : ℕ) → 0 < j → j < i
      → entry place (entry order j)
      ≡ entry place (entry parents (entry order j)) + 1 + shift order parents sizes heavy (entry parents (entry order j)) j
  pub stops : (j : ℕ) → j < i → entry stop (entry order j) ≡ entry place (entry order j) + entry sizes (entry order j)
  pub room : (j : ℕ) → j < i → entry place (entry order j) + entry sizes (entry order j) ≤ net.nodes
  pub frees : (j : ℕ) → j < i
      → entry free (entry order j)
      ≡ entry place (entry order j) + 1 + size_in sizes (entry heavy (entry order j)) + in_front order parents sizes heavy (entry order j) i
