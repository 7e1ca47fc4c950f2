-- Cuts (document 01, "What is reckoned"; source 001, Definition 1). Assumes nothing.
--   Side                a set of nodes, one flag a node
--   crosses net s k     exactly one end of link k lies in s
--   cut_weight net s    the sum of the weights of the links that cross s
--   crossings net t s   how many members of the tree t cross s
--   Respects net t s    at most two members of t cross s: s 2-respects t
--   size net s          how many nodes lie in s
--   sym_diff r s        the nodes of exactly one of r and s
--   Proper net s        s is a set of the network's nodes, neither empty nor full
--   Rootless net s      s is a set of the network's nodes without the root
use Rattle.std.specs.Prelude.{ℕ, ◌≤◌, ◌<◌, ◌≡◌, Bool, false, ◌&&◌, List, [], ◌∷◌, length}
use Rattle.std.proofs.Math.Bool.{xor}
use Rattle.cuts.specs.Sums.{sum_to, only, count_to}
use Rattle.cuts.specs.Network.{Tree, Network, flag, link_at, link_count}

abbrev pub Side : Type 0
Side = List Bool

unfoldable pub crosses : Network → Side → ℕ → Bool
unfolding xor
crosses net s k = xor (flag s (link_at net k).first) (flag s (link_at net k).second)

unfoldable pub cut_weight : Network → Side → ℕ
unfolding sum_to crosses
cut_weight net s = sum_to (link_count net) (λ k. only (crosses net s k) (link_at net k).weight)

unfoldable pub crossings : Network → Tree → Side → ℕ
unfolding sum_to crosses
crossings net t s = count_to (link_count net) (λ k. flag t.members k && crosses net s k)

-- document 01 calls a side shown if it does so to at least one listed tree
abbrev pub Respects : Network → Tree → Side → Type 0
Respects net t s = crossings net t s ≤ 2

unfoldable pub size : Network → Side → ℕ
unfolding sum_to
size net s = count_to net.nodes (flag s)

unfoldable pub sym_diff : Side → Side → Side
unfolding xor
sym_diff [] s = s
sym_diff (a ∷ r) [] = a ∷ r
sym_diff (a ∷ r) (b ∷ s) = xor a b ∷ sym_diff r s

-- what document 01 calls a side
pub record Proper (net : Network) (s : Side) : Type 0 where
  pub sized : length s ≡ net.nodes
  pub not_empty : 0 < size net s
  pub not_full : size net s < net.nodes

pub record Rootless (net : Network) (s : Side) : Type 0 where
  pub sized : length s ≡ net.nodes
  pub without : flag s 0 ≡ false
