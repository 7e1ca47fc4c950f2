-- The cuts that cross one or two links of a tree, and their order (document 01, "What is reckoned"; document 02, F-6). Assumes nothing.
--   Handle                     one tree link, or two with the lower number first: the links that a candidate cut crosses
--   Fits net t h               h names members of the tree t, two in their order
--   names h k                  link k is one of those that h names
--   side_of net t h            the side that h stands for: the nodes below the one link, or below exactly one of the two
--   shared_weight net r s      the weight of the links that cross both r and s. Where these are the sides below two tree links,
--                              Paths says that it is the weight of the links whose ends are joined by a tree path using both
--   pair_weight net r s        the weight for two tree links, given the sides below them: the sum of their single weights
--                              less twice what they share
--   weight_of net t h          the weight that h's side has by the definition of one or two links
--   member_links net t         the members of the tree, rising
--   pairs_with e es            the link e with each of es
--   handles es                 of rising links es: each alone, then with each later one
--   Candidate                  a tree's number, a handle of that tree, its weight, the number of nodes in its side, and its side
--   candidate net i t h        the candidate of the handle h of tree i, which is t
--   candidates_from net i ts   the candidates of the trees ts, which are numbered from i
--   candidates net             all candidates: by tree, first link, one link before two, second link
--   no_candidate               what stands for the first of no candidates; a sound network has some
--   Key                        a number that decides between candidates of one weight before their trees do: the lower comes first
--   alike                      document 01's key, of units already sold: it decides nothing
--   fewer_nodes                the key of request F-6: the number of nodes in the side
--   ahead k d c                d weighs less than c; of one weight, d has the lower key by k. The list has the rest of the order
--   LowerThen a b next         a is lower than b; where they are equal, `next` decides
--   Sooner g h                 of handles of one tree, g comes first: lower first link, one link before two, lower second link
--   Earlier c d                c comes first in the list: lower tree number, then the sooner handle
--   Precedes k c d             c comes before d in the order of candidates: lower weight, lower key by k, then the earlier
use Rattle.std.specs.Prelude.{ℕ, suc, ◌+◌, ◌-◌, ◌*◌, ◌≤◌, ◌<◌, ◌≡◌, ◌⊎◌, Bool, ◌&&◌, ◌||◌, List, [], ◌∷◌, ◌++◌, map, eqb, ltb}
use Rattle.cuts.specs.Sums.{sum_to, only, select}
use Rattle.cuts.specs.First.{then_by}
use Rattle.cuts.specs.Network.{Tree, Network, flag, link_at, link_count}
use Rattle.cuts.specs.Cut.{Side, crosses, cut_weight, sym_diff, size}
use Rattle.cuts.specs.Tree.{below, Member}

pub data Handle : Type 0 where
  one : ℕ → Handle
  two : ℕ → ℕ → Handle

abbrev pub Fits : Network → Tree → Handle → Type 0
Fits net t (one e) = Member net t e
Fits net t (two e f) = (e < f) × Member net t e × Member net t f

abbrev pub names : Handle → ℕ → Bool
names (one e) k = eqb e k
names (two e f) k = eqb e k || eqb f k

-- ---- side and weight

unfoldable pub side_of : Network → Tree → Handle → Side
unfolding below sym_diff
side_of net t (one e) = below net t e
side_of net t (two e f) = sym_diff (below net t e) (below net t f)

unfoldable pub shared_weight : Network → Side → Side → ℕ
unfolding sum_to crosses
shared_weight net r s = sum_to (link_count net) (λ k. only (crosses net r k && crosses net s k) (link_at net k).weight)

unfoldable pub pair_weight : Network → Side → Side → ℕ
unfolding cut_weight shared_weight
pair_weight net r s = cut_weight net r + cut_weight net s - 2 * shared_weight net r s

unfoldable pub weight_of : Network → Tree → Handle → ℕ
unfolding below cut_weight pair_weight
weight_of net t (one e) = cut_weight net (below net t e)
weight_of net t (two e f) = pair_weight net (below net t e) (below net t f)

-- ---- all candidates

unfoldable pub member_links : Network → Tree → List ℕ
unfolding select
member_links net t = select (link_count net) (flag t.members)

abbrev pub pairs_with : ℕ → List ℕ → List Handle
pairs_with e es = map (λ f. two e f) es

unfoldable pub handles : List ℕ → List Handle
handles [] = []
handles (e ∷ es) = one e ∷ pairs_with e es ++ handles es

pub record Candidate : Type 0 where
  pub tree : ℕ
  pub handle : Handle
  pub weight : ℕ
  pub count : ℕ
  pub side : Side

unfoldable pub candidate : Network → ℕ → Tree → Handle → Candidate
unfolding side_of weight_of size
candidate net i t h =
    let s : Side = side_of net t h in
    record { tree = i; handle = h; weight = weight_of net t h; count = size net s; side = s }

unfoldable pub candidates_from : Network → ℕ → List Tree → List Candidate
unfolding candidate handles member_links
candidates_from net i [] = []
candidates_from net i (t ∷ ts) = map (λ h. candidate net i t h) (handles (member_links net t)) ++ candidates_from net (suc i) ts

unfoldable pub candidates : Network → List Candidate
unfolding candidates_from
candidates net = candidates_from net 0 net.trees

abbrev pub no_candidate : Candidate
no_candidate = record { tree = 0; handle = one 0; weight = 0; count = 0; side = [] }

-- ---- their order

abbrev pub Key : Type 0
Key = Candidate → ℕ

abbrev pub alike : Key
alike c = 0

abbrev pub fewer_nodes : Key
fewer_nodes c = c.count

unfoldable pub ahead : Key → Candidate → Candidate → Bool
unfolding then_by
ahead key d c = then_by (λ x y. ltb x.weight y.weight) (λ x y. ltb (key x) (key y)) d c

abbrev pub LowerThen : ℕ → ℕ → Type 0 → Type 0
LowerThen a b next = (a < b) ⊎ ((a ≡ b) × next)

abbrev pub Sooner : Handle → Handle → Type 0
Sooner (one e) (one f) = e < f
Sooner (one e) (two f g) = e ≤ f
Sooner (two e f) (one g) = e < g
Sooner (two e f) (two g h) = LowerThen e g (f < h)

abbrev pub Earlier : Candidate → Candidate → Type 0
Earlier c d = LowerThen c.tree d.tree (Sooner c.handle d.handle)

-- F-6: "the order is weight, fewer nodes in the side, tree, first link, single before pair, second link"
abbrev pub Precedes : Key → Candidate → Candidate → Type 0
Precedes key c d = LowerThen c.weight d.weight (LowerThen (key c) (key d) (Earlier c d))
