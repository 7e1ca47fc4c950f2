-- Bytes as numbers, lowest byte first, and as maps of bits. Assumes nothing.
--   Bytes               a list of bytes
--   ByteSized bs        its numbers are bytes indeed
--   number w bs         the number that the first w bytes of bs give; a byte past the end counts as 0
--   bytes_of w v        the number v in w bytes
--   fields ws bs        the numbers of widths ws that stand one behind the other in bs
--   field_bytes ws vs   the numbers vs in widths ws, one behind the other
--   bit b i             bit i of the byte b
--   map_bit bs k        bit k of the map bs: bit k mod 8 of byte k / 8
--   byte_of f           the byte whose bit i is f i
use Rattle.std.specs.Prelude.{ℕ, zero, suc, ◌+◌, ◌*◌, ◌/◌, ◌%◌, ◌^◌, ◌<◌, Bool, List, [], ◌∷◌, ◌++◌, length, get_or, drop, eqb}
use Rattle.cuts.specs.Sums.{sum_to, only}

abbrev pub Bytes : Type 0
Bytes = List ℕ

abbrev pub ByteSized : Bytes → Type 0
ByteSized bs = (k : ℕ) → k < length bs → get_or bs k 0 < 256

unfoldable pub number : ℕ → Bytes → ℕ
number zero bs = 0
number (suc w) bs = get_or bs 0 0 + 256 * number w (drop 1 bs)

unfoldable pub bytes_of : ℕ → ℕ → Bytes
bytes_of zero v = []
bytes_of (suc w) v = v % 256 ∷ bytes_of w (v / 256)

unfoldable pub fields : List ℕ → Bytes → List ℕ
unfolding number
fields [] bs = []
fields (w ∷ ws) bs = number w bs ∷ fields ws (drop w bs)

unfoldable pub field_bytes : List ℕ → List ℕ → Bytes
unfolding bytes_of
field_bytes [] vs = []
field_bytes (w ∷ ws) [] = []
field_bytes (w ∷ ws) (v ∷ vs) = bytes_of w v ++ field_bytes ws vs

abbrev pub bit : ℕ → ℕ → Bool
bit b i = eqb (b / 2 ^ i % 2) 1

abbrev pub map_bit : Bytes → ℕ → Bool
map_bit bs k = bit (get_or bs (k / 8) 0) (k % 8)

unfoldable pub byte_of : (ℕ → Bool) → ℕ
unfolding sum_to
byte_of f = sum_to 8 (λ i. only (f i) (2 ^ i))
