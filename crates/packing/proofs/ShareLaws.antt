-- A tree's share added to the loads of its members, link by link, and the trees of a sheet counted one after another, over plain lists:
-- while no tree has overloaded a link the loads are those of the trees so far, none past its link's weight; the first tree that would
-- overload one ends the run, which then is the longest. Assumes nothing.
use Prim.Native.Nat.{ℕ, zero, suc, ◌+◌, ◌-◌, ◌*◌, ◌≤◌, ◌<◌}
use mathlib.Core.Path.{◌≡◌, refl, sym, ap, ◌∙◌, subst}
use mathlib.Core.Logic.{◌⊎◌, inl, inr}
use mathlib.Core.Bool.{Bool, true, false, ◌&&◌, ◌||◌, and-true, and-false, or-false, or_assoc, and-eq-true_iff}
use mathlib.Core.List.{List, [], ◌∷◌, ◌++◌}
use native.Mathlib.Nat.{add-zero}
use native.Mathlib.Numerals.{add-one}
use native.Mathlib.Decide.{dec_lt}
use native.Mathlib.Omega.{arith}
use lib.ListN.{length, set, take, drop, replicate, length-replicate, get_or-replicate}
use lib.Seq.{get_or-set_same, get_or-set_other, drop-drop}
use lib.Dec.{ltb}
use borrow.Author.Tests.{ltb-true, lt-ltb, le-ltb, not-true, not-false}
use Rattle.std.specs.List.{list_any, range_with_len}
use Rattle.cuts.specs.Sums.{only, any_to, table}
use Rattle.cuts.specs.Network.{Tree, Network, link_count}
use Rattle.cuts.specs.Limits.{most_links, most_trees, four_bytes}
use Rattle.cuts.specs.Bound.{load, shares, Overloads, LongestRun, longest_run, counted}
use Rattle.cuts.proofs.FlagLaws.{clash, truth}
use Rattle.cuts.proofs.SumLaws.{all-suc, only_none, any_to-some, any_to-at, table_at, table-length, take-table}
use Rattle.cuts.proofs.LoadLaws.{load-append, shares-append}
use Rattle.cuts.proofs.CountedLaws.{counted_run}
use Rattle.arrays.specs.Lists.{entry}
use Rattle.arrays.specs.Links.{Weighed}
use Rattle.sheet.specs.Bytes.{Bytes, number, map_bit}
use Rattle.sheet.specs.Sheet.{map_length, tree_length, tree_in}
use Rattle.arrays.specs.Records.{trees_from}
use Rattle.arrays.specs.declared.Layout.{Layout}
use Rattle.read_sheet.proofs.TreeLaws.{members-at, trees_from-more}
use Rattle.packing.specs.Loads.{overfull, ShareAdded, TreeTested, Totals, TreesCounted}

-- ---- one tree's share

pub added_none : (map : Bytes) (share : ℕ) (loads : List ℕ) → ShareAdded map share loads loads 0
added_none map share loads = record { below = λ j b. absurd (omega arith); above = λ j b. refl }

-- one link more
module _ {map : Bytes} {share : ℕ} {before after : List ℕ} {k : ℕ} (a : ShareAdded map share before after k) where
  pub added-set : k < length after → map_bit map k ≡ true → ShareAdded map share before (set after k (entry after k + share)) (k + 1)
  added-set b h = record {
    below = rw add-one (all-suc (λ j. entry (set after k (entry after k + share)) j ≡ entry before j + only (map_bit map j) share) k
        (λ j c. get_or-set_other after k j _ 0 (λ e. omega arith) ∙ a.below j c)
        (rw (get_or-set_same after k (entry after k + share) 0 b, h, a.above k (omega arith))));
    above = λ j c. get_or-set_other after k j _ 0 (λ e. omega arith) ∙ a.above j (omega arith);
  }

  pub added-unset : map_bit map k ≡ false → ShareAdded map share before after (k + 1)
  added-unset h = record {
    below = rw add-one (all-suc (λ j. entry after j ≡ entry before j + only (map_bit map j) share) k a.below
        (rw (h, add-zero) (a.above k (omega arith))));
    above = λ j c. a.above j (omega arith);
  }

-- a share of 0 alters no load
pub added-zero : (map : Bytes) (loads : List ℕ) (links : ℕ) → ShareAdded map 0 loads loads links
added-zero map loads links = record { below = λ j b. let e = only_none (map_bit map j) in omega arith; above = λ j b. refl }

-- ---- the test of one tree

-- a test of each number from a on, for n numbers
any_from : (f : ℕ → Bool) (a n : ℕ) → any_to (a + n) f ≡ (any_to a f || list_any f (range_with_len a n))
unfolding any_to
any_from f a zero = rw add-zero (sym (or-false (any_to a f)))
any_from f a (suc n) =
    let e : a + suc n ≡ suc a + n = omega arith in
    rw (e, add-one) (any_from f (suc a) n ∙ or_assoc (any_to a f) (f a) (list_any f (range_with_len (suc a) n)))

pub any_in_range : (f : ℕ → Bool) (n : ℕ) → list_any f (range_with_len 0 n) ≡ any_to n f
unfolding any_to
any_in_range f n = let e : 0 + n ≡ n = omega arith in sym (rw e at (any_from f 0 n))

module _ (map : Bytes) (share : ℕ) (ws loads : List ℕ) where
  overfull-set : (k : ℕ) → map_bit map k ≡ true → entry ws k < entry loads k + share → overfull map share ws loads k ≡ true
  overfull-set k h l = rw h (lt-ltb _ _ l)

  -- where the load is not past the weight, the share is held to what is left
  pub overfull-left : (k : ℕ) → entry loads k ≤ entry ws k → (ltb (entry ws k - entry loads k) share && map_bit map k) ≡ overfull map share ws loads k
  overfull-left k c = step (dec_lt (entry ws k) (entry loads k + share))
    where
      step : Dec (entry ws k < entry loads k + share) → (ltb (entry ws k - entry loads k) share && map_bit map k) ≡ overfull map share ws loads k
      step (yes h) = rw (lt-ltb _ _ h, lt-ltb (entry ws k - entry loads k) share (omega arith)) (sym (and-true (map_bit map k)))
      step (no h) = rw (le-ltb (entry ws k) (entry loads k + share) (omega arith), le-ltb (entry ws k - entry loads k) share (omega arith)) (sym (and-false (map_bit map k)))

  -- where no member is overfull, each load with the share is within its link's weight
  pub has_room : (links : ℕ) → any_to links (overfull map share ws loads) ≡ false → (k : ℕ) → k < links → entry loads k ≤ entry ws k
      → entry loads k + only (map_bit map k) share ≤ entry ws k
  has_room links none k b l = step (truth (map_bit map k)) (dec_lt (entry ws k) (entry loads k + share))
    where
      step : (map_bit map k ≡ true) ⊎ (map_bit map k ≡ false) → Dec (entry ws k < entry loads k + share) → entry loads k + only (map_bit map k) share ≤ entry ws k
      step (inl e) (yes h) = clash (any_to-at links (overfull map share ws loads) k b (overfull-set k e h)) none
      step (inl e) (no h) = rw e (omega arith)
      step (inr e) h = rw e (omega arith)

-- ---- one tree more

module _ (net : Network) (s map : Bytes) (at position i : ℕ) (here : position ≡ at + i * tree_length (link_count net))
    (slice : map ≡ take (map_length (link_count net)) (drop (position + 4) s)) (whole : position + tree_length (link_count net) ≤ length s) where
  trees-next : trees_from net (i + 1) (drop at s) ≡ trees_from net i (drop at s) ++ tree_in net (drop position s) ∷ []
  trees-next = rw (trees_from-more net i (drop at s), drop-drop (i * tree_length (link_count net)) at s, ← here)

  share-is : (tree_in net (drop position s)).share ≡ number 4 (drop position s)
  unfolding tree_in
  share-is = refl

  load-next : (k : ℕ) → k < link_count net
      → load (trees_from net (i + 1) (drop at s)) k ≡ load (trees_from net i (drop at s)) k + only (map_bit map k) (number 4 (drop position s))
  load-next k b =
      rw (
        trees-next,
        load-append (trees_from net i (drop at s)) (tree_in net (drop position s)) k,
        members-at net s map position slice whole,
        table_at false (link_count net) (map_bit map) k b,
        share-is,
      )

  shares-next : shares (trees_from net (i + 1) (drop at s)) ≡ shares (trees_from net i (drop at s)) + number 4 (drop position s)
  shares-next = rw (trees-next, shares-append (trees_from net i (drop at s)) (tree_in net (drop position s)), share-is)

-- the first i of the tree records from the position `at` on count: the loads and the sum are theirs, and no load is past its link's weight; no
-- share is above 2^32 - 1
pub record Loaded (s : Bytes) (ws : List ℕ) (at links : ℕ) (loads : List ℕ) (sum i : ℕ) : Type 0 where
  pub sized : length loads ≡ most_links
  pub carried : (k : ℕ) → k < links → entry loads k ≤ entry ws k
  pub small : sum ≤ i * (four_bytes - 1)
  pub bears : (net : Network) → link_count net ≡ links → (k : ℕ) → k < links → entry loads k ≡ load (trees_from net i (drop at s)) k
  pub adds : (net : Network) → link_count net ≡ links → sum ≡ shares (trees_from net i (drop at s))

pub loaded-none : (s : Bytes) (ws : List ℕ) (at links n : ℕ) → n ≡ most_links → links ≤ n → Loaded s ws at links (replicate n 0) 0 0
unfolding trees_from table load shares
loaded-none s ws at links n e few = record {
  sized = length-replicate {A = ℕ} n 0 ∙ e;
  carried = λ k b. omega (arith, none k b);
  small = omega arith;
  bears = λ net _. none;
  adds = λ net _. refl;
}
  where
    none : (k : ℕ) → k < links → entry (replicate n 0) k ≡ 0
    none k b = get_or-replicate n k 0 0 (omega arith)

-- with tree i some link is loaded past its weight
abbrev Overfilled : Bytes → List ℕ → ℕ → ℕ → ℕ → Type 0
Overfilled s ws at links i = (net : Network) → Weighed net ws links → Overloads net (trees_from net (i + 1) (drop at s))

-- the next tree, of the record at this position, was tested
module _ {s : Bytes} {ws : List ℕ} {at links : ℕ} {loads : List ℕ} {sum i : ℕ} (l : Loaded s ws at links loads sum i) {map : Bytes} {share position : ℕ}
    (here : position ≡ at + i * tree_length links) (slice : map ≡ take (map_length links) (drop (position + 4) s))
    (whole : position + tree_length links ≤ length s) (is : share ≡ number 4 (drop position s)) where
  bears-more : (net : Network) → link_count net ≡ links → (k : ℕ) → k < links
      → entry loads k + only (map_bit map k) share ≡ load (trees_from net (i + 1) (drop at s)) k
  bears-more net n k b = rw (l.bears net n k b, is) (sym (load-next net s map at position i (rw n here) (rw n slice) (rw n whole) k (rw n b)))

  module _ {counts : Bool} {next : List ℕ} (tested : TreeTested map links ws share loads next counts) (same : length next ≡ length loads) where
    -- it counts
    pub loaded-more : counts ≡ true → share < four_bytes → Loaded s ws at links next (sum + share) (i + 1)
    loaded-more h low =
        let none : any_to links (overfull map share ws loads) ≡ false = not-true _ (sym tested.counts ∙ h) in
        let a : ShareAdded map share loads next links = rw h at tested.added in
        record {
          sized = same ∙ l.sized;
          carried = λ k b. rw (a.below k b) (has_room map share ws loads links none k b (l.carried k b));
          small = let b = l.small in omega arith;
          bears = λ net n k b. a.below k b ∙ bears-more net n k b;
          adds = λ net n. rw (l.adds net n, is) (sym (shares-next net s map at position i (rw n here) (rw n slice) (rw n whole)));
        }

    -- or the loads stay, and with it some link would be loaded past its weight
    pub loaded-same : counts ≡ false → Loaded s ws at links next sum i
    loaded-same h =
        let a : ShareAdded map 0 loads next links = rw h at tested.added in
        let kept : (k : ℕ) → k < links → entry next k ≡ entry loads k = λ k b. let e = a.below k b in let z = only_none (map_bit map k) in omega arith in
        record {
          sized = same ∙ l.sized;
          carried = λ k b. let e = kept k b in let c = l.carried k b in omega arith;
          small = l.small;
          bears = λ net n k b. kept k b ∙ l.bears net n k b;
          adds = l.adds;
        }

    pub overfilled : counts ≡ false → Overfilled s ws at links i
    overfilled c net w =
        let some : any_to links (overfull map share ws loads) ≡ true = not-false _ (sym tested.counts ∙ c) in
        let r = any_to-some links (overfull map share ws loads) some in
        let k : ℕ = r.0 in
        let h = (and-eq-true_iff (map_bit map k) (ltb (entry ws k) (entry loads k + share))).0 r.2 in
        let o : entry ws k < entry loads k + share = ltb-true _ _ h.1 in
        let e : entry loads k + share ≡ load (trees_from net (i + 1) (drop at s)) k =
        ap (λ (c : Bool). entry loads k + only c share) (sym h.0) ∙ bears-more net w.counted k r.1 in
        let b : k < link_count net = rw w.counted r.1 in
        (k, b, omega (arith, w.weights k b))

-- ---- the trees that count

module _ (net : Network) (s : Bytes) (at trees : ℕ) where
  first-trees : (n : ℕ) → n ≤ trees → take n (trees_from net trees (drop at s)) ≡ trees_from net n (drop at s)
  unfolding trees_from
  first-trees n b = take-table trees n (λ j. tree_in net (drop (j * tree_length (link_count net)) (drop at s))) b

  trees-length : length (trees_from net trees (drop at s)) ≡ trees
  unfolding trees_from
  trees-length = table-length trees (λ j. tree_in net (drop (j * tree_length (link_count net)) (drop at s)))

module _ {s : Bytes} {ws : List ℕ} {at links : ℕ} {loads : List ℕ} {sum n : ℕ} (trees : ℕ) (l : Loaded s ws at links loads sum n) where
  totals-are : n ≤ trees → (net : Network) → Weighed net ws links → (n ≡ trees) ⊎ Overloads net (take (suc n) (trees_from net trees (drop at s)))
      → Totals net (trees_from net trees (drop at s)) links loads sum
  totals-are b net w full =
      let ts : List Tree = trees_from net trees (drop at s) in
      let e : take n ts ≡ trees_from net n (drop at s) = first-trees net s at trees n b in
      let c : counted longest_run net ts ≡ trees_from net n (drop at s) = counted_run net ts n (run ts (trees-length net s at trees) e full) ∙ e in
      record { sums = rw c (l.adds net w.counted); bears = λ k h. rw c (l.bears net w.counted k h) }
    where
      run : (ts : List Tree) → length ts ≡ trees → take n ts ≡ trees_from net n (drop at s) → (n ≡ trees) ⊎ Overloads net (take (suc n) ts) → LongestRun net ts n
      run ts m e f = record {
        listed = rw m b;
        packed = λ k c.
            let h : k < links = rw w.counted at c in
            rw e (let x = l.bears net w.counted k h in let y = w.weights k c in let z = l.carried k h in omega arith);
        full = rw m f;
      }

-- counting is done
module _ {s : Bytes} {l : Layout} {ws loads : List ℕ} {sum n : ℕ} (few : l.trees ≤ most_trees) (x : Loaded s ws l.records l.links loads sum n) where
  -- all trees count
  pub all_counted : n ≡ l.trees → TreesCounted s l ws loads sum
  all_counted e = record { totals = λ net w. totals-are l.trees x (omega arith) net w (inl e); most = let a = x.small in omega arith }

  -- or the run ends at tree n
  pub run_counted : n < l.trees → Overfilled s ws l.records l.links n → TreesCounted s l ws loads sum
  run_counted b o = record {
    totals = λ net w.
        let e = ap (λ (i : ℕ). trees_from net i (drop l.records s)) (add-one n) ∙ sym (first-trees net s l.records l.trees (suc n) b) in
        totals-are l.trees x (omega arith) net w (inr (subst (Overloads net) e (o net w)));
    most = let a = x.small in omega arith;
  }
