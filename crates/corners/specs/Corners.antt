-- The four corners of two sides and the weights between them (document 02, F-8; source 000, Lemma 2.2). Assumes nothing.
--   both, first_only, second_only, neither
--                            the corners' numbers, which are those of their rows and columns in the table
--   corner a b               the corner of a node that is in the first side as a says and in the second as b says
--   corner_of r s x          the corner of node x, of the sides r and s
--   corner_side net r s i    the nodes of corner i
--   joins net p q k          link k has one end in p and the other in q
--   weight_between net p q   the weight of the links between the sets of nodes p and q
--   corner_weight net r s i j the weight between the corners i and j, 0 where they are the same
--   corner_table net r s     four rows of four of these weights
--   cell t i j               the entry of the table t in row i and column j
--   Four t                   the table t has four rows of four
--   Lightest net s           s is a side and weighs the least that any side of the network weighs
--   Cornered net r s         no corner is empty
--   OwedCorners net r s t    what is owed of a table t for the sides r and s, which may be any
use Rattle.std.specs.Prelude.{ℕ, ◌+◌, ◌≤◌, ◌<◌, ◌≡◌, Bool, ◌&&◌, ◌||◌, not, cond, List, [], length, get_or, eqb}
use Rattle.cuts.specs.Sums.{sum_to, only, table}
use Rattle.cuts.specs.Network.{Network, flag, link_at, link_count}
use Rattle.cuts.specs.Cut.{Side, Proper, cut_weight, size}

abbrev pub both : ℕ
both = 0

abbrev pub first_only : ℕ
first_only = 1

abbrev pub second_only : ℕ
second_only = 2

abbrev pub neither : ℕ
neither = 3

abbrev pub corner : Bool → Bool → ℕ
corner a b = cond a (cond b both first_only) (cond b second_only neither)

abbrev pub corner_of : Side → Side → ℕ → ℕ
corner_of r s x = corner (flag r x) (flag s x)

unfoldable pub corner_side : Network → Side → Side → ℕ → Side
unfolding table
corner_side net r s i = table net.nodes (λ x. eqb (corner_of r s x) i)

-- ---- the weights between them

abbrev pub joins : Network → Side → Side → ℕ → Bool
joins net p q k =
    (flag p (link_at net k).first && flag q (link_at net k).second) || (flag p (link_at net k).second && flag q (link_at net k).first)

unfoldable pub weight_between : Network → Side → Side → ℕ
unfolding sum_to
weight_between net p q = sum_to (link_count net) (λ k. only (joins net p q k) (link_at net k).weight)

unfoldable pub corner_weight : Network → Side → Side → ℕ → ℕ → ℕ
unfolding corner_side weight_between
corner_weight net r s i j = only (not (eqb i j)) (weight_between net (corner_side net r s i) (corner_side net r s j))

unfoldable pub corner_table : Network → Side → Side → List (List ℕ)
unfolding table corner_weight
corner_table net r s = table 4 (λ i. table 4 (λ j. corner_weight net r s i j))

-- ---- what is owed

abbrev pub cell : List (List ℕ) → ℕ → ℕ → ℕ
cell t i j = get_or (get_or t i []) j 0

pub record Four (t : List (List ℕ)) : Type 0 where
  pub rows : length t ≡ 4
  pub columns : (i : ℕ) → i < 4 → length (get_or t i []) ≡ 4

pub record Lightest (net : Network) (s : Side) : Type 0 where
  pub proper : Proper net s
  pub least : (u : Side) → Proper net u → cut_weight net s ≤ cut_weight net u

abbrev pub Cornered : Network → Side → Side → Type 0
Cornered net r s = (i : ℕ) → i < 4 → 0 < size net (corner_side net r s i)

pub record OwedCorners (net : Network) (r s : Side) (t : List (List ℕ)) : Type 0 where
  -- "a table of four rows of four"
  pub four : Four t
  -- "the weights between their four corners (in both, first only, second only, neither)"; "Rows and columns follow that order"
  pub between : (i j : ℕ) → i < 4 → j < 4 → (i ≡ j → ⊥) → cell t i j ≡ weight_between net (corner_side net r s i) (corner_side net r s j)
  -- "zero on the diagonal"
  pub diagonal : (i : ℕ) → i < 4 → cell t i i ≡ 0
  -- "an entry and its mirror are equal"
  pub mirror : (i j : ℕ) → i < 4 → j < 4 → cell t i j ≡ cell t j i
  -- "The entries in the rows of the first side's two corners and the columns of the other two add up to the first side's weight, and
  -- likewise for the second side"
  pub first_adds : cell t both second_only + cell t both neither + cell t first_only second_only + cell t first_only neither ≡ cut_weight net r
  pub second_adds : cell t both first_only + cell t both neither + cell t second_only first_only + cell t second_only neither ≡ cut_weight net s
  -- "If both sides weigh the least that any side of the network weighs, and no corner is empty, then each corner weighs that least too"
  pub corners_least : Lightest net r → Lightest net s → Cornered net r s → (i : ℕ) → i < 4 → Lightest net (corner_side net r s i)
  -- "Under the same two conditions the pairs both/neither and first only/second only have weight 0"
  pub opposite : Lightest net r → Lightest net s → Cornered net r s → (cell t both neither ≡ 0) × (cell t first_only second_only ≡ 0)
