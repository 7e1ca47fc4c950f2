-- Every side of the reported weight that crosses at most two links of some tree, each once (document 02, F-5), and what
-- is owed of such a list, which may be any (F-5 and F-14). Assumes nothing.
--   same_flags r s      r and s are the same side
--   weighing w c        the candidate c weighs w
--   in_order k net      the candidates of the reported weight in the order of candidates: by the key k, below the number
--                       of nodes, then as they stand among all candidates
--   listed k net        the sides of these candidates, each once, where the order meets it first
--   Weak net w s        s is a proper side without the root that weighs w and crosses at most two members of some tree:
--                       document 02's weak spot
--   Opens k net c       c is the first of all candidates of its side, in the order by the key k
--   OwedList r net ss   what is owed of the list of sides ss by the rules r
use Rattle.std.specs.Prelude.{ℕ, ◌*◌, ◌≤◌, ◌<◌, ◌≡◌, ◌⊎◌, ◌↔◌, Bool, true, false, ◌&&◌, length, get_or, eqb}
use Rattle.std.specs.Bool.{beq}
use mathlib.Core.List.{List, [], ◌∷◌, map, Memᴰ}
use Rattle.cuts.specs.Network.{Tree, Network, tree_at}
use Rattle.cuts.specs.Cut.{Side, Respects, Proper, Rootless, cut_weight}
use Rattle.cuts.specs.Paths.{Distinct}
use Rattle.cuts.specs.Candidate.{Candidate, Key, Precedes, candidates}
use Rattle.cuts.specs.Bound.{CountedBy, shares}
use Rattle.cuts.specs.Answer.{Rules, reported}
use Rattle.listing.specs.Picks.{keep, sorted, fresh, once}

unfoldable pub same_flags : Side → Side → Bool
same_flags [] [] = true
same_flags [] (b ∷ s) = false
same_flags (a ∷ r) [] = false
same_flags (a ∷ r) (b ∷ s) = beq a b && same_flags r s

abbrev pub weighing : ℕ → Candidate → Bool
weighing w c = eqb c.weight w

unfoldable pub in_order : Key → Network → List Candidate
unfolding sorted keep candidates reported
in_order key net = sorted net.nodes key (keep (weighing (reported key net).weight) (candidates net))

unfoldable pub listed : Key → Network → List Side
unfolding fresh same_flags in_order
listed key net = once same_flags (map (λ c. c.side) (in_order key net))

-- ---- what is owed

pub record Weak (net : Network) (w : ℕ) (s : Side) : Type 0 where
  pub proper : Proper net s
  pub rootless : Rootless net s
  pub weighs : cut_weight net s ≡ w
  pub respects : (i : ℕ) × (i < length net.trees) × Respects net (tree_at net i) s

pub record Opens (key : Key) (net : Network) (c : Candidate) : Type 0 where
  pub listed : Memᴰ c (candidates net)
  pub first : (d : Candidate) → Memᴰ d (candidates net) → d.side ≡ c.side → (d ≡ c) ⊎ Precedes key c d

pub record OwedList (r : Rules) (net : Network) (ss : List Side) : Type 0 where
  -- F-5: "every side of the reported weight that crosses at most two links of some tree"; "No listed side holds node 0"
  pub holds : (s : Side) → Memᴰ s ss ↔ Weak net (reported r.key net).weight s
  -- "each once"
  pub once : Distinct ss
  -- "A side reached from two trees stands where the order of document 01 meets it first"; F-6: "The list of F-5
  -- follows it"
  pub met : (i : ℕ) → i < length ss → (c : Candidate) × Opens r.key net c × (c.side ≡ get_or ss i [])
  pub in_order : (i j : ℕ) → i < j → j < length ss → (c d : Candidate) → Opens r.key net c → c.side ≡ get_or ss i []
      → Opens r.key net d → d.side ≡ get_or ss j [] → Precedes r.key c d
  -- "The number written equals the number of such sides by definition": that of any list that holds each of them once
  pub number : (rs : List Side) → Distinct rs
      → ((s : Side) → Memᴰ s rs ↔ Weak net (reported r.key net).weight s) → length ss ≡ length rs
  -- F-14: "Where the counted trees' shares, times three, exceed the reported weight, F-5's list, if not refused, holds every
  -- side of the whole network with that weight, node 0 outside, and no lighter side exists"
  pub counted : List Tree
  pub counts : CountedBy r.counting net net.trees counted
  pub complete : (reported r.key net).weight < 3 * shares counted
      → (s : Side) → Proper net s → Rootless net s → cut_weight net s ≡ (reported r.key net).weight → Memᴰ s ss
  -- "Where the two are equal, only the second half is promised"
  pub none_lighter : (reported r.key net).weight ≤ 3 * shares counted
      → (s : Side) → Proper net s → (reported r.key net).weight ≤ cut_weight net s
