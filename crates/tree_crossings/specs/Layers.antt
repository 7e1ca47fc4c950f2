-- The members of a tree in layers of bits, by the places of another tree: bit r of each layer is for the r-th member by
-- number, from 0. Assumes nothing.
--   end_place ends members place r   the place, in `place`, of that end of the r-th of the links `members` which `ends` has
--   PlaceOf ends place link r        r is this place, and no more than a place can be
--   Placeable layers nodes fs ss members count
--                                    all layers are there, with no bit set and room for the first `count` of the links
--                                    `members`; the ends of these, in fs and ss, are nodes, of which there are so many
--   EndsFlipped fs ss members count place layers
--                                    each of these links has its bit set in the layer behind the place of each end, but not
--                                    where both have one place, and no other bit is set
--   EndsParted nodes fs ss members count place layers
--                                    each of these links has its bit set in the layers of the places that exactly one of its
--                                    ends stands before, and no other bit is set, up to the layer `nodes`
--   odd_count layers a b c d         how many bits are set in an odd number of the four layers
use Rattle.std.specs.Prelude.{ℕ, suc, ◌≤◌, ◌<◌, ◌≡◌, ◌&&◌, List, replicate, eqb, ltb}
use Rattle.std.specs.Bool.{xor}
use Rattle.cuts.specs.Sums.{count_to}
use Rattle.cuts.specs.Limits.{most_nodes}
use Rattle.arrays.specs.Lists.{entry}
use Rattle.by_node.specs.Runs.{Chosen}
use Rattle.place_layers.specs.Layers.{layers_length, layer_bit, oddly}

abbrev pub end_place : List ℕ → List ℕ → List ℕ → ℕ → ℕ
end_place ends members place r = entry place (entry ends (entry members r))

pub record PlaceOf (ends place : List ℕ) (link r : ℕ) : Type 0 where
  pub is : r ≡ entry place (entry ends link)
  pub small : r < most_nodes

pub record Placeable (layers : List ℕ) (nodes : ℕ) (fs ss members : List ℕ) (count : ℕ) : Type 0 where
  pub clear : layers ≡ replicate layers_length 0
  pub chosen : Chosen fs ss members count nodes
  pub few : count < most_nodes

abbrev pub EndsFlipped : List ℕ → List ℕ → List ℕ → ℕ → List ℕ → List ℕ → Type 0
EndsFlipped fs ss members count place layers =
    (p r : ℕ) → r < most_nodes
    → layer_bit layers p r
    ≡ (ltb r count && xor (eqb p (suc (end_place fs members place r))) (eqb p (suc (end_place ss members place r))))

abbrev pub EndsParted : ℕ → List ℕ → List ℕ → List ℕ → ℕ → List ℕ → List ℕ → Type 0
EndsParted nodes fs ss members count place layers =
    (p r : ℕ) → p ≤ nodes → r < most_nodes
    → layer_bit layers p r ≡ (ltb r count && xor (ltb (end_place fs members place r) p) (ltb (end_place ss members place r) p))

abbrev pub odd_count : List ℕ → ℕ → ℕ → ℕ → ℕ → ℕ
odd_count layers a b c d = count_to most_nodes (oddly layers a b c d)
