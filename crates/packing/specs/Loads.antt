-- What arrays of weights and loads say while trees are counted. Assumes nothing.
--   TreesThere s l                            the sheet s has the tree records that the layout l says, and no more of them and of links than a sheet
--                                             can have
--   Loading links map ws loads                a map of so many links, their weights and their loads, none of which is past its link's weight
--   overfull map share ws loads k             the tree with that map holds link k, and its share would load the link past its weight
--   Roomy links map share loads               with the share added at each link that the tree with that map holds, four bytes hold every load
--   ShareAdded map share bef aft k            of the links below k the loads `aft` are those `bef` with the share at each link that the tree with
--                                             that map holds, and from k on they are the same
--   TreeTested map links ws share bef aft r   r says whether the tree with that map and share counts, and its share was added if so
--   most_shares                               the shares of as many trees as a sheet can have, of four bytes each, add up to no more
--   Unloaded loads s l                        such records are there, and no link has any load yet
--   Totals net ts links loads sum             the loads and the sum of shares are those of the trees of ts that count
--   TreesCounted s l ws loads sum             the same of those records, for every network with such links
use Rattle.std.specs.Prelude.{ℕ, ◌+◌, ◌-◌, ◌*◌, ◌≤◌, ◌<◌, ◌≡◌, Bool, ◌&&◌, not, List, length, drop, replicate, ltb}
use Rattle.cuts.specs.Sums.{only, any_to}
use Rattle.cuts.specs.Network.{Tree, Network}
use Rattle.cuts.specs.Limits.{most_links, most_trees, four_bytes}
use Rattle.cuts.specs.Bound.{load, shares, counted}
use Rattle.arrays.specs.Lists.{entry}
use Rattle.arrays.specs.Links.{Weighed}
use Rattle.sheet.specs.Bytes.{Bytes, map_bit}
use Rattle.sheet.specs.Sheet.{current}
use Rattle.arrays.specs.Records.{trees_from, record_of}
use Rattle.arrays.specs.declared.Layout.{Layout}

pub record TreesThere (s : Bytes) (l : Layout) : Type 0 where
  pub inside : record_of l l.trees ≤ length s
  pub few_links : l.links ≤ most_links
  pub few_trees : l.trees ≤ most_trees

-- ---- one tree

pub record Loading (links : ℕ) (map : Bytes) (ws loads : List ℕ) : Type 0 where
  pub mapped : links ≤ 8 * length map
  pub weighed : links ≤ length ws
  pub sized : links ≤ length loads
  pub carried : (k : ℕ) → k < links → entry loads k ≤ entry ws k

abbrev pub overfull : Bytes → ℕ → List ℕ → List ℕ → ℕ → Bool
overfull map share ws loads k = map_bit map k && ltb (entry ws k) (entry loads k + share)

pub record Roomy (links : ℕ) (map : Bytes) (share : ℕ) (loads : List ℕ) : Type 0 where
  pub mapped : links ≤ 8 * length map
  pub sized : links ≤ length loads
  pub fits : (k : ℕ) → k < links → entry loads k + only (map_bit map k) share < four_bytes

pub record ShareAdded (map : Bytes) (share : ℕ) (before after : List ℕ) (k : ℕ) : Type 0 where
  pub below : (j : ℕ) → j < k → entry after j ≡ entry before j + only (map_bit map j) share
  pub above : (j : ℕ) → k ≤ j → entry after j ≡ entry before j

pub record TreeTested (map : Bytes) (links : ℕ) (ws : List ℕ) (share : ℕ) (before after : List ℕ) (r : Bool) : Type 0 where
  pub counts : r ≡ not (any_to links (overfull map share ws before))
  pub added : ShareAdded map (only r share) before after links

-- ---- the trees that count

abbrev pub most_shares : ℕ
most_shares = most_trees * (four_bytes - 1)

pub record Totals (net : Network) (ts : List Tree) (links : ℕ) (loads : List ℕ) (sum : ℕ) : Type 0 where
  pub sums : sum ≡ shares (counted current.rules.counting net ts)
  pub bears : (k : ℕ) → k < links → entry loads k ≡ load (counted current.rules.counting net ts) k

pub record Unloaded (loads : List ℕ) (s : Bytes) (l : Layout) : Type 0 where
  pub trees_there : TreesThere s l
  pub none : loads ≡ replicate most_links 0

pub record TreesCounted (s : Bytes) (l : Layout) (ws loads : List ℕ) (sum : ℕ) : Type 0 where
  pub totals : (net : Network) → Weighed net ws l.links → Totals net (trees_from net l.trees (drop l.records s)) l.links loads sum
  pub most : sum ≤ most_shares
