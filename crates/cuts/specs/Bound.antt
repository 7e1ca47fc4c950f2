-- The loads of a tree packing, the trees that count, and the bound that these give on every cut (document 01, "What is reckoned"; document
-- 02, F-3; source 001, Definition 2, with a load held to its link's weight instead of 1). Assumes nothing.
--   load ts k               the sum of the shares of those of the trees ts that hold link k
--   shares ts               the sum of all their shares
--   Packed net ts           the trees ts load no link past its weight: they are a packing
--   Overloads net ts        they load some link past its weight
--   overloaded net ts       whether they do
--   LongestRun net ts n     the first n of the trees ts are the longest run from the first on that loads no link past its weight
--   Counting                a rule that says which trees count for the floor
--   all_or_none             document 01's rule, of units already sold: all trees, or none where they load a link past its weight
--   longest_run             the rule of request F-3: the longest run that loads no link past its weight
--   CountedBy r net ts cs   of the trees ts those that count by the rule r are cs
--   run_within net ts n     how many trees the longest such run of at most n trees has
--   counted r net ts        those of the trees ts that count by the rule r
--   floor cs w              the lesser of w and three times the shares of cs, the trees that count; 0 where none does
use Rattle.std.specs.Prelude.{ℕ, zero, suc, ◌+◌, ◌*◌, ◌≤◌, ◌<◌, min, ◌≡◌, ◌⊎◌, Bool, cond, List, [], ◌∷◌, length, take, ltb}
use Rattle.cuts.specs.Sums.{only, any_to}
use Rattle.cuts.specs.Network.{Tree, Network, flag, link_at, link_count}

unfoldable pub load : List Tree → ℕ → ℕ
load [] k = 0
load (t ∷ ts) k = only (flag t.members k) t.share + load ts k

unfoldable pub shares : List Tree → ℕ
shares [] = 0
shares (t ∷ ts) = t.share + shares ts

abbrev pub Packed : Network → List Tree → Type 0
Packed net ts = (k : ℕ) → k < link_count net → load ts k ≤ (link_at net k).weight

abbrev pub Overloads : Network → List Tree → Type 0
Overloads net ts = (k : ℕ) × (k < link_count net) × ((link_at net k).weight < load ts k)

unfoldable pub overloaded : Network → List Tree → Bool
unfolding any_to load
overloaded net ts = any_to (link_count net) (λ k. ltb (link_at net k).weight (load ts k))

-- ---- the trees that count

pub record LongestRun (net : Network) (ts : List Tree) (n : ℕ) : Type 0 where
  -- F-3: "run from tree 0 on"
  pub listed : n ≤ length ts
  -- "that loads no link past its weight"
  pub packed : Packed net (take n ts)
  -- "the longest": it is all trees, or one tree more would load a link past its weight
  pub full : (n ≡ length ts) ⊎ Overloads net (take (suc n) ts)

pub data Counting : Type 0 where
  all_or_none : Counting
  longest_run : Counting

abbrev pub CountedBy : Counting → Network → List Tree → List Tree → Type 0
-- "The floor is 0 if any load exceeds its link's weight. Otherwise it is .. three times the sum of all shares"
CountedBy all_or_none net ts cs = (Packed net ts × (cs ≡ ts)) ⊎ (Overloads net ts × (cs ≡ []))
-- "the trees that count are the longest run from tree 0 on that loads no link past its weight"
CountedBy longest_run net ts cs = (n : ℕ) × LongestRun net ts n × (cs ≡ take n ts)

unfoldable pub run_within : Network → List Tree → ℕ → ℕ
unfolding overloaded
run_within net ts zero = 0
run_within net ts (suc n) = cond (overloaded net (take (suc n) ts)) (run_within net ts n) (suc n)

unfoldable pub counted : Counting → Network → List Tree → List Tree
unfolding overloaded run_within
counted all_or_none net ts = cond (overloaded net ts) [] ts
counted longest_run net ts = take (run_within net ts (length ts)) ts

-- ---- the bound

-- no cut weighs less, where w is the least weight of those that cross at most two members of some tree
unfoldable pub floor : List Tree → ℕ → ℕ
unfolding shares
floor cs w = min w (3 * shares cs)
