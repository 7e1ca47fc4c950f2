-- Units already sold. Request F-3: which trees count does not alter the reported cut. Where all trees are a packing, floor and verdict are
-- theirs too; elsewhere the floor is no less than theirs, which is 0, and a certified cut stays certified. Request F-6: the key of
-- candidates alters neither the reported weight nor floor and verdict; by fewer nodes, the reported cut is theirs unless one of the same
-- weight has fewer nodes than theirs.
-- Assumes nothing.
use Prim.Native.Nat.{ℕ, ◌*◌, ◌≤◌, min}
use mathlib.Core.Path.{◌≡◌, refl, sym, ap}
use mathlib.Core.Logic.{◌⊎◌, inl, inr}
use native.Mathlib.Omega.{arith}
use Rattle.cuts.specs.Network.{Network}
use Rattle.cuts.specs.Tree.{Sound}
use Rattle.cuts.specs.Candidate.{Candidate, Key, alike, fewer_nodes, Precedes}
use Rattle.cuts.specs.Bound.{shares, Packed, Overloads, Counting, all_or_none, longest_run, CountedBy, counted, floor}
use Rattle.cuts.specs.Answer.{Answer, certified, verdict_of, reported, judged, answer}
use Rattle.cuts.proofs.CountedLaws.{counted_counts, counted_all}
use Rattle.cuts.proofs.Least.{first_in}
use Rattle.cuts.proofs.OrderLaws.{earlier-one_way}
use Rattle.cuts.proofs.Demands.{ahead-weighing, least, reported_first, reported_precedes, verdict_tells}

abbrev by : Counting → Key → Network → Answer
by counting key net = answer (record { counting = counting; key = key }) net

-- ---- F-3

module _ (key : Key) (net : Network) where
  abbrev sold : Answer
  sold = by all_or_none key net

  abbrev tolerant : Answer
  tolerant = by longest_run key net

  pub cut_before : tolerant.best ≡ sold.best
  unfolding answer judged
  cut_before = refl

  -- where no link is overloaded by all trees
  pub answer-before : Packed net net.trees → tolerant ≡ sold
  unfolding answer judged
  answer-before p = rw (counted_all net net.trees longest_run p, counted_all net net.trees all_or_none p)

  -- "a single overload drops the floor to 0": where one is, the floor of units already sold
  pub floor_0_before : Overloads net net.trees → sold.floor ≡ 0
  unfolding answer judged floor shares
  floor_0_before o = step (counted_counts net net.trees all_or_none)
    where
      step : CountedBy all_or_none net net.trees (counted all_or_none net net.trees) → min sold.best.weight (3 * shares (counted all_or_none net net.trees)) ≡ 0
      step (inl c) = let a = c.0 o.0 o.1 in absurd (omega (arith, o.2))
      step (inr c) = rw c.1 (omega arith)

  pub floor_no_less : sold.floor ≤ tolerant.floor
  floor_no_less = step (counted_counts net net.trees all_or_none)
    where
      step : CountedBy all_or_none net net.trees (counted all_or_none net net.trees) → sold.floor ≤ tolerant.floor
      step (inl c) = rw (answer-before c.0) (omega arith)
      step (inr c) = rw (floor_0_before c.0) (omega arith)

  pub certified_before : sold.verdict ≡ certified → tolerant.verdict ≡ certified
  unfolding answer judged
  certified_before v =
      let w = tolerant.best.weight in
      let e = (verdict_tells sold.floor w).0 v in
      let l = floor_no_less in
      (verdict_tells tolerant.floor w).1 (unfold floor in omega arith)

-- ---- F-6

module _ (net : Network) (v : Sound net) where
  weight-least : (key other : Key) → (reported key net).weight ≤ (reported other net).weight
  weight-least key other = least net v (ahead-weighing key) (reported key net) (reported_first net v key) (reported other net) (first_in (reported_first net v other))

  weight-same : (key other : Key) → (reported key net).weight ≡ (reported other net).weight
  weight-same key other = let a = weight-least key other in let b = weight-least other key in omega arith

  pub keys_agree : (counting : Counting) (key other : Key) → let a = by counting key net in let b = by counting other net in
      (a.best.weight ≡ b.best.weight) × (a.floor ≡ b.floor) × (a.verdict ≡ b.verdict)
  unfolding answer judged
  keys_agree counting key other =
      let same = weight-same key other in
      let floorOf : ℕ → ℕ = floor (counted counting net net.trees) in
      (same, ap floorOf same, ap (λ (w : ℕ). verdict_of (floorOf w) w) same)

  -- the cut that is reported by fewer nodes, and that of units already sold
  abbrev small : Candidate
  small = reported fewer_nodes net

  abbrev older : Candidate
  older = reported alike net

  small-precedes : (older ≡ small) ⊎ Precedes fewer_nodes small older
  small-precedes = reported_precedes net v fewer_nodes older (first_in (reported_first net v alike))

  older-precedes : (small ≡ older) ⊎ Precedes alike older small
  older-precedes = reported_precedes net v alike small (first_in (reported_first net v fewer_nodes))

  pub count_no_more : small.count ≤ older.count
  count_no_more = step (weight-same fewer_nodes alike) small-precedes
    where
      step : {c d : Candidate} → c.weight ≡ d.weight → (d ≡ c) ⊎ Precedes fewer_nodes c d → c.count ≤ d.count
      step w (inl e) = let q = ap (λ (x : Candidate). x.count) e in omega arith
      step w (inr (inl l)) = absurd (omega arith)
      step w (inr (inr (q, inl l))) = omega arith
      step w (inr (inr (q, inr e))) = omega (arith, e.0)

  pub cut_same : small.count ≡ older.count → small ≡ older
  cut_same n = step (weight-same fewer_nodes alike) n small-precedes older-precedes
    where
      step : {c d : Candidate} → c.weight ≡ d.weight → c.count ≡ d.count → (d ≡ c) ⊎ Precedes fewer_nodes c d → (c ≡ d) ⊎ Precedes alike d c → c ≡ d
      step w n (inl e) _ = sym e
      step w n (inr p) (inl e) = e
      step w n (inr (inl l)) (inr p) = absurd (omega arith)
      step w n (inr (inr (q, inl l))) (inr p) = absurd (omega arith)
      step w n (inr (inr (q, inr e))) (inr (inl l)) = absurd (omega arith)
      step w n (inr (inr (q, inr e))) (inr (inr (r, inl l))) = absurd (omega arith)
      step {c} {d} w n (inr (inr (q, inr e))) (inr (inr (r, inr f))) = absurd (earlier-one_way c d e.1 f.1)
