-- The nodes of a tree in layers of bits by its places, and a side as words of bits: bit x of each is for node x. The side of a link has the
-- nodes from its place up to its stop, which are those set in exactly one of the layers of the two. Assumes nothing.
--   NodesPlaceable layers nodes         no bit of any layer is set, and each layer has room for so many nodes
--   NodesBefore nodes place layers      up to the layer `nodes`, each of so many nodes has its bit set in the layers of the places behind its own,
--                                       in `place`, and no other bit is set
--   odd_words layers a b c d            the words of the bits that are set in an odd number of the four layers
--   SideWords words s                   the words have a bit for each node that there may be, set for those of the side s
--   SideAt layers stops u v r           the words r hold the side of the links at the places u and v, of any tree kept with these stops whose nodes
--                                       the layers have
--   SideGiven nodes stops               there are no more nodes than a sheet can have, and the stops are known
use Rattle.std.specs.Prelude.{◌≡◌, ℕ, ◌<◌, ◌≤◌, ◌&&◌, List, [], ◌∷◌, length, replicate, nat_lt}
use Rattle.cuts.specs.Network.{Network, Tree, flag}
use Rattle.cuts.specs.Cut.{Side}
use Rattle.cuts.specs.Candidate.{side_of}
use Rattle.cuts.specs.Limits.{most_nodes}
use Rattle.arrays.specs.Lists.{entry}
use Rattle.arrays.specs.Kept.{Kept}
use Rattle.tree_places.specs.Places.{StopsKnown}
use Rattle.search_order.specs.Choice.{chosen}
use Rattle.bit_table.specs.Bits.{bit_of}
use Rattle.place_layers.specs.Layers.{layer_words, layers_length, layer_bit, odd_word}
use Rattle.tree_sides.specs.Sides.{InTree}

pub record NodesPlaceable (layers : List ℕ) (nodes : ℕ) : Type 0 where
  pub clear : layers ≡ replicate layers_length 0
  pub few_nodes : nodes ≤ most_nodes

abbrev pub NodesBefore : ℕ → List ℕ → List ℕ → Type 0
NodesBefore nodes place layers =
    (p x : ℕ) → p ≤ nodes → x < most_nodes → layer_bit layers p x ≡ (nat_lt x nodes && nat_lt (entry place x) p)

-- ---- a side

abbrev pub odd_words : List ℕ → ℕ → ℕ → ℕ → ℕ → List ℕ
odd_words layers a b c d =
    odd_word layers a b c d 0 ∷ odd_word layers a b c d 1 ∷ odd_word layers a b c d 2 ∷ odd_word layers a b c d 3 ∷ []

pub record SideWords (words : List ℕ) (s : Side) : Type 0 where
  pub all : length words ≡ layer_words
  pub each : (x : ℕ) → x < most_nodes → bit_of words x ≡ flag s x

abbrev pub SideAt : List ℕ → List ℕ → ℕ → ℕ → List ℕ → Type 0
SideAt layers stops u v r =
    (net : Network) (t : Tree) (place node links : List ℕ) → Kept net t place node stops links → InTree net.nodes u → InTree net.nodes v
    → NodesBefore net.nodes place layers → SideWords r (side_of net t (chosen (entry links u) (entry links v)))

pub record SideGiven (nodes : ℕ) (stops : List ℕ) : Type 0 where
  pub few_nodes : nodes ≤ most_nodes
  pub stops_known : StopsKnown stops
