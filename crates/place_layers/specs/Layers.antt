-- Layers of bits by the places of a tree: layer p is for the place p, and the last layer for the place behind the last. Bit r
-- of each layer is for the r-th of at most 256 things, from 0. Assumes nothing.
--   layer_words                      the words of a layer
--   layers_length                    the words of all layers
--   layer_bit layers p r             bit r of layer p is set
--   Summable layers last             there is room for all layers, and `last` is the number of one
--   LayersSummed last before after   the first layer is as it was, and so are those behind the layer `last`; each other one
--                                    has those bits turned over that the layer in front of it, as it is after, has set
--   FourLayers a b c d               the four numbers are numbers of layers
--   WordThere a b c d j              so it is, and j is the number of a word of a layer
--   oddly layers a b c d r           bit r is set in an odd number of the four layers
--   odd_word layers a b c d j        the word of the bits that are set in an odd number of the words j of the four layers
use Rattle.std.specs.Prelude.{ℕ, ◌+◌, ◌-◌, ◌*◌, ◌/◌, ◌≤◌, ◌<◌, ◌≡◌, Bool, List, length}
use Rattle.std.specs.Bool.{xor}
use Rattle.std.specs.Int.Bits.{bit_xor}
use Rattle.cuts.specs.Limits.{most_nodes}
use Rattle.arrays.specs.Lists.{entry}
use Rattle.bit_table.specs.Bits.{word_bits, bit_of}

abbrev pub layer_words : ℕ
layer_words = most_nodes / word_bits

abbrev pub layers_length : ℕ
layers_length = (most_nodes + 1) * layer_words

abbrev pub layer_bit : List ℕ → ℕ → ℕ → Bool
layer_bit layers p r = bit_of layers (most_nodes * p + r)

pub record Summable (layers : List ℕ) (last : ℕ) : Type 0 where
  pub room : length layers ≡ layers_length
  pub layer : last ≤ most_nodes

pub record LayersSummed (last : ℕ) (before after : List ℕ) : Type 0 where
  pub first : (i : ℕ) → i < layer_words → entry after i ≡ entry before i
  pub next : (i : ℕ) → layer_words ≤ i → i < layer_words * (last + 1)
      → entry after i ≡ bit_xor (entry before i) (entry after (i - layer_words))
  pub rest : (i : ℕ) → layer_words * (last + 1) ≤ i → entry after i ≡ entry before i

-- ---- four layers

pub record FourLayers (a b c d : ℕ) : Type 0 where
  pub first : a ≤ most_nodes
  pub second : b ≤ most_nodes
  pub third : c ≤ most_nodes
  pub fourth : d ≤ most_nodes

pub record WordThere (a b c d j : ℕ) : Type 0 where
  pub layers : FourLayers a b c d
  pub word : j < layer_words

abbrev pub oddly : List ℕ → ℕ → ℕ → ℕ → ℕ → ℕ → Bool
oddly layers a b c d r = xor (xor (layer_bit layers a r) (layer_bit layers b r)) (xor (layer_bit layers c r) (layer_bit layers d r))

abbrev pub odd_word : List ℕ → ℕ → ℕ → ℕ → ℕ → ℕ → ℕ
odd_word layers a b c d j =
    bit_xor (bit_xor (entry layers (layer_words * a + j)) (entry layers (layer_words * b + j)))
    (bit_xor (entry layers (layer_words * c + j)) (entry layers (layer_words * d + j)))
