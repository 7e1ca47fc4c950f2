-- Bits in words of 64. Assumes nothing.
--   word_bits             the bits of a word
--   word_bit w k          bit k of the word w is set
--   bit_of words q        bit q of a list of words is set: bit q mod 64 of word q / 64; past the last word none is
--   WordsAhead words q e  all words in front of word e are there, and q is no later than e
--   WordsClear words q e  all words from q on and in front of e are 0
--   NextWord words q e r  r is the first word from q on that is not 0, and in front of e
--   BitsAhead words q e   the words have a bit in front of e, and q is no later than e
--   BitsClear words q e   no bit from q on and in front of e is set
--   NextBit words q e r   r is the first from q on whose bit is set, and in front of e
use Rattle.std.specs.Prelude.{ℕ, ◌*◌, ◌/◌, ◌%◌, ◌^◌, ◌≤◌, ◌<◌, ◌≡◌, Bool, true, false, List, length, eqb}
use Rattle.arrays.specs.Lists.{entry}

abbrev pub word_bits : ℕ
word_bits = 64

abbrev pub word_bit : ℕ → ℕ → Bool
word_bit w k = eqb (w / 2 ^ k % 2) 1

unfoldable pub bit_of : List ℕ → ℕ → Bool
bit_of words q = word_bit (entry words (q / word_bits)) (q % word_bits)

pub record WordsAhead (words : List ℕ) (from end : ℕ) : Type 0 where
  pub up_to : from ≤ end
  pub inside : end ≤ length words

abbrev pub WordsClear : List ℕ → ℕ → ℕ → Type 0
WordsClear words from end = (i : ℕ) → from ≤ i → i < end → entry words i ≡ 0

pub record NextWord (words : List ℕ) (from end r : ℕ) : Type 0 where
  pub behind : from ≤ r
  pub inside : r < end
  pub none : WordsClear words from r
  pub some : entry words r ≡ 0 → ⊥

pub record BitsAhead (words : List ℕ) (from end : ℕ) : Type 0 where
  pub up_to : from ≤ end
  pub inside : end ≤ word_bits * length words

abbrev pub BitsClear : List ℕ → ℕ → ℕ → Type 0
BitsClear words from end = (q : ℕ) → from ≤ q → q < end → bit_of words q ≡ false

pub record NextBit (words : List ℕ) (from end r : ℕ) : Type 0 where
  pub behind : from ≤ r
  pub inside : r < end
  pub none : BitsClear words from r
  pub is_set : bit_of words r ≡ true
