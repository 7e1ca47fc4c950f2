-- The answer of every sound network meets demands 2 and 3. A side that some tree crosses at most twice is a candidate's, or its complement
-- is, and no candidate weighs less than the first in the order; a side that every tree crosses three times weighs at least three times
-- the shares of the trees that count, since these are a packing.
-- Assumes nothing.
use Prim.Native.Nat.{ℕ, zero, suc, ◌+◌, ◌*◌, ◌≤◌, ◌<◌, min}
use mathlib.Core.Path.{◌≡◌, refl, sym, ap, ◌∙◌, subst}
use mathlib.Core.Logic.{◌⊎◌, inl, inr, ◌↔◌}
use mathlib.Core.Bool.{Bool, true, false, ◌&&◌, not, xor, cond}
use mathlib.Core.List.Memᴰ
use mathlib.Core.List.{List, ◌∷◌, map, Memᴰ}
use native.Mathlib.Nat.{eq-or-lt_of_le}
use native.Mathlib.Omega.{arith}
use lib.ListN.{length, length-map}
use lib.Dec.{eqb, ltb, leb}
use borrow.Author.Tests.{eqb-true, eq-eqb, ne_eqb, ltb-true, ltb-false, leb-true, leb-false}
use Rattle.cuts.specs.Sums.{only, any_to}
use Rattle.cuts.specs.Network.{Tree, Network, Linked, flag, link_count, no_tree, tree_at}
use Rattle.cuts.specs.Cut.{Side, Respects, Proper, Rootless, crosses, cut_weight, crossings, size}
use Rattle.cuts.specs.Tree.{Spanning, Sound, member_count}
use Rattle.cuts.specs.Candidate.{Candidate, Handle, Fits, Key, LowerThen, Earlier, Precedes, one, two, candidate, candidates, ahead, no_candidate, side_of}
use Rattle.cuts.specs.Bound.{shares, Counting, CountedBy, counted, floor}
use Rattle.cuts.specs.Answer.{Rules, Answer, certified, trees_only, verdict_of, reported, judged, answer}
use Rattle.cuts.specs.Demands.{Demand2, Demand3, Owed}
use Rattle.cuts.proofs.FlagLaws.{clash, truth}
use Rattle.cuts.proofs.SumLaws.{any_to-some, any_to-at, sum_congr, sum-add, sum_const, count-lacks, count_none, Last, count-last}
use Rattle.cuts.proofs.ListLaws.{mem_at, each-split}
use Rattle.cuts.proofs.CutLaws.{crosses-is, flag-not, cut_weight-not, crossings-not, weight_of-is}
use Rattle.cuts.proofs.Crossings.{named, side_of-rootless, side_of-crosses, side_of-crossings, crossings-none, belongs}
use Rattle.cuts.proofs.CountedLaws.{counted_counts, counts_packed, counts_listed}
use Rattle.cuts.proofs.Packing.{packing}
use Rattle.cuts.proofs.Least.{Order, by_key, First, first_in, first-least, first-of}
use Rattle.cuts.proofs.ThenLaws.{then_order, by-number_of, by-number_not}
use Rattle.cuts.proofs.Walks.{reaches, paths}
use Rattle.cuts.proofs.Handles.{Genuine, candidate_in, candidate-of, candidates-earlier}

-- ---- sizes

size_none : (net : Network) (s : Side) → ((x : ℕ) → x < net.nodes → flag s x ≡ false) → size net s ≡ 0
unfolding size
size_none net s h = let a = sum_congr net.nodes (λ x. only (flag s x) 1) (λ x. 0) (λ x b. rw (h x b)) in let b = sum_const net.nodes 0 in omega arith

size-not : (net : Network) (s : Side) → length s ≡ net.nodes → size net (map not s) + size net s ≡ net.nodes
unfolding size
size-not net s e =
    let a = sum-add net.nodes (λ x. only (flag (map not s) x) 1) (λ x. only (flag s x) 1) in
    let b = sum_congr net.nodes (λ x. only (flag (map not s) x) 1 + only (flag s x) 1) (λ x. 1) (λ x b. rw (flag-not s x (rw e b)) (one_of (flag s x))) in
    let c = sum_const net.nodes 1 in
    omega arith
  where
    one_of : (c : Bool) → only (not c) 1 + only c 1 ≡ 1
    one_of true = refl
    one_of false = refl

crossings-empty : (net : Network) → Linked net → (t : Tree) (s : Side) → ((x : ℕ) → x < net.nodes → flag s x ≡ false) → crossings net t s ≡ 0
unfolding crossings xor
crossings-empty net l t s h =
    let a = sum_congr (link_count net) (λ k. only (flag t.members k && crosses net s k) 1) (λ k. 0)
    (λ k b. rw (crosses-is net s k, h _ (l.first_in k b), h _ (l.second_in k b)) (none (flag t.members k))) in
    let b = sum_const (link_count net) 0 in
    omega arith
  where
    none : (c : Bool) → only (c && false) 1 ≡ 0
    none true = refl
    none false = refl

-- ---- sides and their complements

-- the side or its complement is without the root, and crosses and weighs the same
record Turned (net : Network) (s : Side) : Type 0 where
  side : Side
  proper : Proper net side
  rootless : Rootless net side
  weighs : cut_weight net side ≡ cut_weight net s
  crosses_as : (t : Tree) → crossings net t side ≡ crossings net t s

turn : (net : Network) → Linked net → (s : Side) → Proper net s → Turned net s
turn net l s p = step (truth (flag s 0))
  where
    step : (flag s 0 ≡ true) ⊎ (flag s 0 ≡ false) → Turned net s
    step (inr f) = record { side = s; proper = p; rootless = record { sized = p.sized; without = f }; weighs = refl; crosses_as = λ t. refl }
    step (inl f) =
        let n = size-not net s p.sized in
        let e : length (map not s) ≡ net.nodes = length-map s not ∙ p.sized in
        record {
          side = map not s;
          proper = record { sized = e; not_empty = let q = p.not_full in omega arith; not_full = let q = p.not_empty in omega arith };
          rootless = record { sized = e; without = flag-not s 0 (rw p.sized l.rooted) ∙ ap not f };
          weighs = cut_weight-not net l s p.sized;
          crosses_as = crossings-not net l s p.sized;
        }

-- a proper side without the root crosses some member
crossings-some : {net : Network} {t : Tree} → Spanning net t → (s : Side) → Proper net s → Rootless net s → 1 ≤ crossings net t s
crossings-some {net} {t} g s p r = go (crossings net t s) refl
  where
    go : (n : ℕ) → crossings net t s ≡ n → 1 ≤ n
    go (suc n) e = omega arith
    go zero e = let z = size_none net s (crossings-none g s r e) in let q = p.not_empty in absurd (omega arith)

-- a handle's side is neither empty nor full
pub handle-proper : {net : Network} {t : Tree} → Spanning net t → (h : Handle) → Fits net t h → Proper net (side_of net t h)
handle-proper {net} {t} g h f =
    let r = side_of-rootless g h f in
    record { sized = r.sized; not_empty = some (size net (side_of net t h)) refl; not_full = unfold size in count-lacks net.nodes (flag (side_of net t h)) 0 g.linked.rooted r.without }
  where
    names_some : (h : Handle) → 0 < named h
    names_some (one e) = omega arith
    names_some (two e f) = omega arith

    some : (n : ℕ) → size net (side_of net t h) ≡ n → 0 < n
    some (suc n) e = omega arith
    some zero e =
        let a = side_of-crossings g h f in
        let b = crossings-empty net g.linked t (side_of net t h) (count_none net.nodes (flag (side_of net t h)) (unfold size in e)) in
        let c = names_some h in
        absurd (omega arith)

-- ---- the first in an order that goes by weight

-- an order of candidates that goes by weight first
pub record Weighing (before : Candidate → Candidate → Bool) : Type 0 where
  pub order : Order before
  pub by_weight : (d c : Candidate) → before d c ≡ false → c.weight ≤ d.weight

module _ (key : Key) where
  pub ahead-weighing : Weighing (ahead key)
  unfolding ahead
  ahead-weighing = record {
    order = then_order _ _ (by_key (λ c. c.weight)) (by_key key);
    by_weight = λ d c e. step (by-number_not (λ c. c.weight) (λ c d. ltb (key c) (key d)) c d e);
  }
    where
      step : {a b : ℕ} {next : Type 0} → LowerThen a b next → a ≤ b
      step (inl l) = omega arith
      step (inr e) = omega (arith, e.0)

  -- one that is ahead of another precedes it, and so does an earlier one that the other is not ahead of
  ahead-precedes : (c d : Candidate) → (ahead key c d ≡ true) ⊎ ((ahead key d c ≡ false) × Earlier c d) → Precedes key c d
  unfolding ahead
  ahead-precedes c d (inl e) = step (by-number_of (λ c. c.weight) (λ c d. ltb (key c) (key d)) c d e)
    where
      step : LowerThen c.weight d.weight (ltb (key c) (key d) ≡ true) → Precedes key c d
      step (inl l) = inl l
      step (inr q) = inr (q.0, inl (ltb-true (key c) (key d) q.1))
  ahead-precedes c d (inr e) = step (by-number_not (λ c. c.weight) (λ c d. ltb (key c) (key d)) c d e.0)
    where
      level : (key c ≡ key d) ⊎ (key c < key d) → LowerThen (key c) (key d) (Earlier c d)
      level (inl q) = inr (q, e.1)
      level (inr l) = inl l

      step : LowerThen c.weight d.weight (ltb (key d) (key c) ≡ false) → Precedes key c d
      step (inl l) = inl l
      step (inr q) = inr (q.0, level (eq-or-lt_of_le (ltb-false (key d) (key c) q.1)))

pub verdict_tells : (f w : ℕ) → (verdict_of f w ≡ certified) ↔ (w ≡ f)
verdict_tells f w = (λ h. sym (eqb-true f w (whole (eqb f w) h)), λ h. rw (eq-eqb f w (sym h)))
  where
    whole : (b : Bool) → ◌≡◌ {A = ℕ} (cond b 2 1) 2 → b ≡ true
    whole true h = refl
    whole false h = absurd (omega arith)

verdict_else : (f w : ℕ) → (w ≡ f → ⊥) → verdict_of f w ≡ trees_only
verdict_else f w n = rw (ne_eqb f w (λ q. n (sym q)))

-- some tree crosses the side at most twice: it shows the side
abbrev pub Shown : Network → Side → Type 0
Shown net s = (i : ℕ) × (i < length net.trees) × Respects net (tree_at net i) s

module _ (net : Network) (v : Sound net) where
  -- some tree crosses the side at most twice, or all cross it three times
  few-or_many : (s : Side) → Shown net s ⊎ ((t : Tree) → Memᴰ t net.trees → 3 ≤ crossings net t s)
  few-or_many s = step (truth (any_to (length net.trees) few))
    where
      few : ℕ → Bool
      few i = leb (crossings net (tree_at net i) s) 2

      many : any_to (length net.trees) few ≡ false → (i : ℕ) → i < length net.trees → 3 ≤ crossings net (tree_at net i) s
      many e i b = leb-false (crossings net (tree_at net i) s) 2 (go (few i) refl)
        where
          go : (c : Bool) → few i ≡ c → c ≡ false
          go false q = refl
          go true q = clash (any_to-at (length net.trees) few i b q) e

      step : (any_to (length net.trees) few ≡ true) ⊎ (any_to (length net.trees) few ≡ false) → Shown net s ⊎ ((t : Tree) → Memᴰ t net.trees → 3 ≤ crossings net t s)
      step (inl e) = let r = any_to-some (length net.trees) few e in inl (r.0, r.1, leb-true _ 2 r.2)
      step (inr e) = inr (λ t m. let r = mem_at no_tree m in subst (λ (u : Tree). 3 ≤ crossings net u s) r.2 (many e r.0 r.1))

  -- a side that no tree shows weighs at least three times the shares of the trees that count
  pub shown_or_heavy : (r : Counting) (cs : List Tree) → CountedBy r net net.trees cs → (s : Side) → Shown net s ⊎ (3 * shares cs ≤ cut_weight net s)
  shown_or_heavy r cs counts s = step (few-or_many s)
    where
      step : Shown net s ⊎ ((t : Tree) → Memᴰ t net.trees → 3 ≤ crossings net t s) → Shown net s ⊎ (3 * shares cs ≤ cut_weight net s)
      step (inl k) = inl k
      step (inr k) = inr (packing net s 3 cs (counts_packed net net.trees r cs counts) (λ t m. k t (counts_listed net net.trees r cs counts t m)))

  pub some-candidate : (c : Candidate) × Memᴰ c (candidates net)
  unfolding member_count
  some-candidate = from (count-last (link_count net) (flag (tree_at net 0).members) (let n = (v.spanning 0 v.listed).counted in let q = v.several in omega arith))
    where
      from : Last (link_count net) (flag (tree_at net 0).members) → (c : Candidate) × Memᴰ c (candidates net)
      from l = (_, candidate_in net 0 (one l.at) v.listed (record { is_link = l.under; is_set = l.holds }))

  -- ---- demand 2

  pub candidate-agrees : (a : Answer) → Memᴰ a.best (candidates net) → Demand2 net a
  unfolding candidate
  candidate-agrees a m = from (candidate-of net a.best m)
    where
      most : (h : Handle) → named h ≤ 2
      most (one e) = omega arith
      most (two e f) = omega arith

      from : Genuine net a.best → Demand2 net a
      from g =
          let t : Tree = tree_at net a.best.tree in
          let sp = v.spanning a.best.tree g.inside in
          let q : a.best.side ≡ side_of net t a.best.handle = ap (λ (x : Candidate). x.side) g.is in
          record {
            tree_listed = g.inside;
            links_fit = g.fits;
            side_is = q;
            side_crosses = rw q (side_of-crosses sp a.best.handle g.fits);
            at_most_two = rw (q, side_of-crossings sp a.best.handle g.fits) (most a.best.handle);
            weight_is = ap (λ (x : Candidate). x.weight) g.is;
            count_is = ap (λ (x : Candidate). x.count) g.is ∙ ap (size net) (sym q);
            conversely = λ i b s r. belongs (v.spanning i b) s r;
          }

  -- ---- demand 3

  -- what agrees with the definition is proper, without the root, and weighs what is reported
  pub agrees_proper : (a : Answer) → Demand2 net a → Proper net a.best.side
  agrees_proper a d = rw d.side_is (handle-proper (v.spanning a.best.tree d.tree_listed) a.best.handle d.links_fit)

  pub agrees_rootless : (a : Answer) → Demand2 net a → Rootless net a.best.side
  agrees_rootless a d = rw d.side_is (side_of-rootless (v.spanning a.best.tree d.tree_listed) a.best.handle d.links_fit)

  pub agrees_weight : (a : Answer) → Demand2 net a → a.best.weight ≡ cut_weight net a.best.side
  agrees_weight a d = d.weight_is ∙ weight_of-is net (tree_at net a.best.tree) a.best.handle ∙ ap (cut_weight net) (sym d.side_is)

  -- a side that crosses at most two members of a tree is a candidate's of that tree
  pub reached : (s : Side) → Proper net s → Rootless net s → (i : ℕ) → i < length net.trees → Respects net (tree_at net i) s
      → (c : Candidate) × Memᴰ c (candidates net) × (c.tree ≡ i) × (c.side ≡ s) × (c.weight ≡ cut_weight net s)
  unfolding candidate
  reached s p r i b l =
      let o = belongs (v.spanning i b) s r (crossings-some (v.spanning i b) s p r) l in
      (candidate net i (tree_at net i) o.handle, candidate_in net i o.handle b o.fits, refl, sym o.stands, sym o.weighs)

  module _ {before : Candidate → Candidate → Bool} (o : Weighing before) (c : Candidate) (f : First before (candidates net) c) where
    pub least : (d : Candidate) → Memᴰ d (candidates net) → c.weight ≤ d.weight
    least d m = o.by_weight d c (first-least o.order f d m)

    pub light : (s : Side) → Proper net s → (i : ℕ) → i < length net.trees → Respects net (tree_at net i) s → c.weight ≤ cut_weight net s
    light s p i b l =
        let u = turn net v.linked s p in
        let d = reached u.side u.proper u.rootless i b (rw (u.crosses_as (tree_at net i)) l) in
        let w = least d.0 d.1 in
        let x = d.4 in
        let z = u.weighs in
        omega arith

    -- what the trees that count say of every cut
    pub floor_least : (r : Counting) (s : Side) → Proper net s → floor (counted r net net.trees) c.weight ≤ cut_weight net s
    unfolding floor
    floor_least r s p = step (shown_or_heavy r (counted r net net.trees) (counted_counts net net.trees r) s)
      where
        step : Shown net s ⊎ (3 * shares (counted r net net.trees) ≤ cut_weight net s) → min c.weight (3 * shares (counted r net net.trees)) ≤ cut_weight net s
        step (inl k) = let l = light s p k.0 k.1 k.2 in omega arith
        step (inr h) = omega arith

    -- the first comes before every other, or they are even and it stands in front
    pub precedes : (d : Candidate) → Memᴰ d (candidates net) → (d ≡ c) ⊎ ((before c d ≡ true) ⊎ ((before d c ≡ false) × Earlier c d))
    precedes d m = step (Memᴰ.append_cases f.before (rw f.splits at m))
      where
        last : (d ≡ c) ⊎ Memᴰ d f.after → (d ≡ c) ⊎ ((before c d ≡ true) ⊎ ((before d c ≡ false) × Earlier c d))
        last (inl e) = inl e
        last (inr i) = inr (inr (f.not_led d i, (each-split Earlier f.before c f.after (rw f.splits at (candidates-earlier net))).1 d i))

        step : Memᴰ d f.before ⊎ Memᴰ d (c ∷ f.after) → (d ≡ c) ⊎ ((before c d ≡ true) ⊎ ((before d c ≡ false) × Earlier c d))
        step (inl i) = inr (inl (f.leads d i))
        step (inr i) = last (Memᴰ.cases_cons i)

  -- ---- the answer

  module _ (key : Key) where
    pub reported_first : First (ahead key) (candidates net) (reported key net)
    unfolding reported
    reported_first = first-of (ahead-weighing key).order no_candidate (candidates net) some-candidate.1

    -- the reported candidate precedes every other
    pub reported_precedes : (d : Candidate) → Memᴰ d (candidates net) → (d ≡ reported key net) ⊎ Precedes key (reported key net) d
    reported_precedes d m = step (precedes (ahead-weighing key) (reported key net) reported_first d m)
      where
        step : (d ≡ reported key net) ⊎ ((ahead key (reported key net) d ≡ true) ⊎ ((ahead key d (reported key net) ≡ false) × Earlier (reported key net) d))
            → (d ≡ reported key net) ⊎ Precedes key (reported key net) d
        step (inl e) = inl e
        step (inr e) = inr (ahead-precedes key (reported key net) d e)

  module _ (r : Rules) where
    pub answer_demand2 : Demand2 net (answer r net)
    unfolding answer judged
    answer_demand2 = candidate-agrees (answer r net) (first_in (reported_first r.key))

    pub answer_demand3 : Demand3 r.counting net (answer r net)
    unfolding answer judged floor
    answer_demand3 =
        let best = reported r.key net in
        let first = reported_first r.key in
        record {
          proper = agrees_proper (answer r net) answer_demand2;
          respects = (best.tree, answer_demand2.tree_listed, answer_demand2.at_most_two);
          own_weight = agrees_weight (answer r net) answer_demand2;
          lightest = light (ahead-weighing r.key) best first;
          counted = counted r.counting net net.trees;
          counts = counted_counts net net.trees r.counting;
          floor_is = refl;
          floor_bounds = floor_least (ahead-weighing r.key) best first r.counting;
          marked = verdict_tells (answer r net).floor best.weight;
        }

    pub answer_owed : Owed r net (answer r net)
    unfolding answer judged
    answer_owed = record {
      demand2 = answer_demand2;
      demand3 = answer_demand3;
      rootless = agrees_rootless (answer r net) answer_demand2;
      unmarked = verdict_else (answer r net).floor (answer r net).best.weight;
      listed = first_in (reported_first r.key);
      first = reported_precedes r.key;
      paths = λ i b. paths (v.spanning i b);
      reaches = reaches net v.linked;
    }
