-- The weights of all pairs of one tree's links (document 02, F-12), and what is owed of numbers that are to be these, which may be any.
-- Assumes nothing.
--   rank_of t e            the rank of the tree link e: how many members have a lower number
--   slot_of t e f          the slot of the pair of the members e and f, e below f
--   link_of_rank net t r   the member of rank r
--   pair_of net t r s      the pair of the members of the ranks s and r, s below r
--   pair_weights net t     the weights of all pairs, each at its slot
--   pair_count net t       how many pairs the tree has
--   OwedPairs net t ws     what is owed of the numbers ws
use Rattle.std.specs.Prelude.{ℕ, ◌≤◌, ◌<◌, ◌≡◌, List, length, get_or}
use Rattle.cuts.specs.Sums.{count_to}
use Rattle.cuts.specs.Network.{Tree, Network, flag}
use Rattle.cuts.specs.Cut.{cut_weight}
use Rattle.cuts.specs.Candidate.{Handle, Fits, two, member_links, side_of, weight_of}
use Rattle.pairs.specs.Slots.{row_start, pair_slot, pair_rows}

-- "Rank the tree's links by number from 0"
abbrev pub rank_of : Tree → ℕ → ℕ
rank_of t e = count_to e (flag t.members)

abbrev pub slot_of : Tree → ℕ → ℕ → ℕ
slot_of t e f = pair_slot (rank_of t f) (rank_of t e)

-- ---- the weights by rank

abbrev pub link_of_rank : Network → Tree → ℕ → ℕ
link_of_rank net t r = get_or (member_links net t) r 0

abbrev pub pair_of : Network → Tree → ℕ → ℕ → Handle
pair_of net t r s = two (link_of_rank net t s) (link_of_rank net t r)

unfoldable pub pair_weights : Network → Tree → List ℕ
unfolding pair_rows member_links weight_of
pair_weights net t = pair_rows (length (member_links net t)) (λ r s. weight_of net t (pair_of net t r s))

abbrev pub pair_count : Network → Tree → ℕ
pair_count net t = row_start (length (member_links net t))

-- ---- what is owed

pub record OwedPairs (net : Network) (t : Tree) (ws : List ℕ) : Type 0 where
  -- "For s below r the weight of the pair is written as an 8-byte number at place r(r−1)/2 + s"
  pub weight : (e f : ℕ) → Fits net t (two e f) → get_or ws (slot_of t e f) 0 ≡ weight_of net t (two e f)
  -- "Each written figure is the weight of the side that the pair stands for"
  pub of_side : (e f : ℕ) → Fits net t (two e f) → get_or ws (slot_of t e f) 0 ≡ cut_weight net (side_of net t (two e f))
  -- "all pairs of one tree": the slots below the number of pairs are those of its pairs, each of one pair and no other
  pub room : pair_count net t ≤ length ws
  pub within : (e f : ℕ) → Fits net t (two e f) → slot_of t e f < pair_count net t
  pub every : (i : ℕ) → i < pair_count net t → (e f : ℕ) × Fits net t (two e f) × (slot_of t e f ≡ i)
  pub once : (e f e' f' : ℕ) → Fits net t (two e f) → Fits net t (two e' f') → slot_of t e f ≡ slot_of t e' f' → (e ≡ e') × (f ≡ f')
