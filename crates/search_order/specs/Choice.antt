-- The order of candidates as a test, the first of candidates that were visited in any way, and a candidate as it is found. Assumes nothing.
--   FirstOf before among c    c is one of those `among`, and none of them comes before it
--   lead h                    the first link that the handle h names
--   rest h                    what decides where these are equal: 0 for one link, for two one more than the second
--   sooner g h                Sooner as a test
--   earlier c d               Earlier as a test
--   comes_first before c d    `before`, and of even ones the earlier; with `ahead key`, Precedes of that key as a test
--   tree_candidates net i t   all candidates of tree i, which is t, in their order
--   first_trees net i         all of the trees below i, in their order
--   Visited net c i x         x is c, or one of these
--   Prior before net i t c    each candidate of tree i comes before c, or c is the earlier
--   chosen e f                the handle that two link numbers name: one link where they are equal
--   Says found c              `found` says the tree, the handle, the weight and the number of nodes of c
--   said found                a candidate that it says, with no side
--   Paired i a b w n found    `found` is of tree i, its two links are a and b in their order, and w and n are its weight and its number of nodes
--   no_weight                 the largest number of eight bytes: no candidate of a network is so heavy
--   unfound                   where a search starts: a candidate heavier than any of a network
use Rattle.std.specs.Prelude.{ℕ, suc, ◌-◌, ◌^◌, min, max, ◌≡◌, ◌⊎◌, Bool, true, false, cond, take, eqb, ltb}
use mathlib.Core.List.{List, [], map, Memᴰ}
use Rattle.cuts.specs.First.{then_by}
use Rattle.cuts.specs.Network.{Network, Tree}
use Rattle.cuts.specs.Candidate.{Handle, one, two, Fits, Candidate, candidate, handles, member_links, candidates_from, Earlier}
use Rattle.search_order.specs.declared.Found.{Found}

-- ---- any order

pub record FirstOf {A : Type 0} (before : A → A → Bool) (among : A → Type 0) (c : A) : Type 0 where
  pub is_among : among c
  pub none_before : (d : A) → among d → before d c ≡ false

-- ---- the order of candidates

abbrev pub lead : Handle → ℕ
lead (one e) = e
lead (two e f) = e

abbrev pub rest : Handle → ℕ
rest (one e) = 0
rest (two e f) = suc f

unfoldable pub sooner : Handle → Handle → Bool
unfolding then_by
sooner g h = then_by (λ g h. ltb (lead g) (lead h)) (λ g h. ltb (rest g) (rest h)) g h

unfoldable pub earlier : Candidate → Candidate → Bool
unfolding then_by sooner
earlier c d = then_by (λ c d. ltb c.tree d.tree) (λ c d. sooner c.handle d.handle) c d

unfoldable pub comes_first : (Candidate → Candidate → Bool) → Candidate → Candidate → Bool
unfolding then_by earlier
comes_first before c d = then_by before earlier c d

-- ---- the candidates of trees

abbrev pub tree_candidates : Network → ℕ → Tree → List Candidate
tree_candidates net i t = map (λ h. candidate net i t h) (handles (member_links net t))

abbrev pub first_trees : Network → ℕ → List Candidate
first_trees net i = candidates_from net 0 (take i net.trees)

abbrev pub Visited : Network → Candidate → ℕ → Candidate → Type 0
Visited net c i x = (x ≡ c) ⊎ Memᴰ x (first_trees net i)

abbrev pub Prior : (Candidate → Candidate → Bool) → Network → ℕ → Tree → Candidate → Type 0
Prior before net i t c = (h : Handle) → Fits net t h → (before (candidate net i t h) c ≡ true) ⊎ Earlier c (candidate net i t h)

-- ---- what is found

abbrev pub chosen : ℕ → ℕ → Handle
chosen e f = cond (eqb e f) (one e) (two e f)

pub record Says (found : Found) (c : Candidate) : Type 0 where
  pub tree : found.tree ≡ c.tree
  pub handle : chosen found.first found.second ≡ c.handle
  pub weight : found.weight ≡ c.weight
  pub count : found.count ≡ c.count

abbrev pub said : Found → Candidate
said found = record { tree = found.tree; handle = chosen found.first found.second; weight = found.weight; count = found.count; side = [] }

pub record Paired (tree a b weight count : ℕ) (found : Found) : Type 0 where
  pub of_tree : found.tree ≡ tree
  pub lesser : found.first ≡ min a b
  pub greater : found.second ≡ max a b
  pub weighs : found.weight ≡ weight
  pub counts : found.count ≡ count

abbrev pub no_weight : ℕ
no_weight = 2 ^ 64 - 1

abbrev pub unfound : Candidate
unfound = record { tree = 0; handle = one 0; weight = no_weight; count = 0; side = [] }
