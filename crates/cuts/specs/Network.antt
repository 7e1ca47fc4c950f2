-- Networks: weighted links between numbered nodes, node 0 the root, and the listed trees. Assumes nothing.
--   Link               two ends and a weight
--   Tree               a share and one flag a link, set where the tree holds the link: its members
--   Network            nodes 0, .., nodes - 1, links and trees numbered as they stand
--   flag s x           flag x of a list of flags, not set past its end
--   link_at net k      link k
--   link_count net     how many links there are
--   tree_at net i      tree i
--   no_link, no_tree   what stands past the last link and the last tree
--   Linked net         there is a root, and every link ends at nodes
use Rattle.std.specs.Prelude.{ℕ, ◌<◌, Bool, false, List, [], length, get_or}

-- the demands' cable and its capacity
pub record Link : Type 0 where
  pub first : ℕ
  pub second : ℕ
  pub weight : ℕ

pub record Tree : Type 0 where
  pub share : ℕ
  pub members : List Bool

-- node 0 is document 01's core switch
pub record Network : Type 0 where
  pub nodes : ℕ
  pub links : List Link
  pub trees : List Tree

abbrev pub flag : List Bool → ℕ → Bool
flag s x = get_or s x false

abbrev pub no_link : Link
no_link = record { first = 0; second = 0; weight = 0 }

abbrev pub no_tree : Tree
no_tree = record { share = 0; members = [] }

abbrev pub link_at : Network → ℕ → Link
link_at net k = get_or net.links k no_link

abbrev pub link_count : Network → ℕ
link_count net = length net.links

abbrev pub tree_at : Network → ℕ → Tree
tree_at net i = get_or net.trees i no_tree

pub record Linked (net : Network) : Type 0 where
  pub rooted : 0 < net.nodes
  pub first_in : (k : ℕ) → k < link_count net → (link_at net k).first < net.nodes
  pub second_in : (k : ℕ) → k < link_count net → (link_at net k).second < net.nodes
