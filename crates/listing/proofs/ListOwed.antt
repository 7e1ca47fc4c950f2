-- What is owed of the list, of the one that is defined and of no other: an entry's place is that of the first candidate of its side, and
-- the order of candidates goes one way. A side that is missing from it crosses three members of every tree and weighs what the trees that
-- count say.
-- Assumes nothing.
use Prim.Native.Nat.{ℕ, zero, suc, ◌*◌, ◌≤◌, ◌<◌}
use mathlib.Core.Path.{◌≡◌, refl, sym, ap, ◌∙◌, subst}
use mathlib.Core.Logic.{◌⊎◌, inl, inr, ◌↔◌}
use mathlib.Core.List.Memᴰ
use mathlib.Core.List.{List, [], map, Memᴰ}
use native.Mathlib.Omega.{arith}
use lib.ListN.{length, get_or, length-map, get_or-map}
use Rattle.cuts.specs.Network.{Tree, Network}
use Rattle.cuts.specs.Cut.{Side, Proper, Rootless, cut_weight}
use Rattle.cuts.specs.Tree.{Sound}
use Rattle.cuts.specs.Candidate.{Candidate, Key, Precedes, candidates, no_candidate}
use Rattle.cuts.specs.Bound.{shares, Counting, CountedBy, counted, floor}
use Rattle.cuts.specs.Answer.{Rules, certified, reported, judged, answer}
use Rattle.cuts.proofs.ListLaws.{Each, at_mem, mem_at, each_at, at_each, each-only}
use Rattle.cuts.proofs.OrderLaws.{precedes-one_way, precedes-only}
use Rattle.cuts.proofs.Least.{first_in}
use Rattle.cuts.proofs.CountedLaws.{counted_counts}
use Rattle.cuts.proofs.Demands.{verdict_tells, Shown, shown_or_heavy, ahead-weighing, light, reported_first, reported_precedes}
use Rattle.listing.specs.Picks.{keep}
use Rattle.listing.specs.Listing.{same_flags, in_order, listed, Weak, Opens, OwedList}
use Rattle.listing.specs.Rounds.{is_new}
use Rattle.listing.proofs.PickLaws.{fresh_in}
use Rattle.listing.proofs.ListingLaws.{BySides, same_flags_tells, in_order_in, listed-new, new-order, new-opens, listed-is, listed-once, listed-length}

-- ---- the order of a list's sides

module _ (net : Network) (key : Key) where
  opens-same : (c d : Candidate) → Opens key net c → Opens key net d → c.side ≡ d.side → c ≡ d
  opens-same c d o p q = precedes-only key c d (o.first d p.listed (sym q)) (p.first c o.listed q)

  -- the first candidate of r's side precedes the first of s's
  Met : Side → Side → Type 0
  Met r s = (c d : Candidate) × Opens key net c × (c.side ≡ r) × Opens key net d × (d.side ≡ s) × Precedes key c d

  met-one_way : (r s : Side) → Met r s → Met s r → ⊥
  unfolding Met
  met-one_way r s (c, d, o, a, p, b, l) (d', c', p', b', o', a', m) =
      let x : c' ≡ c = opens-same c' c o' o (a' ∙ sym a) in
      let y : d' ≡ d = opens-same d' d p' p (b' ∙ sym b) in
      precedes-one_way key c d l (subst (λ (z : Candidate). Precedes key z c) y (subst (Precedes key d') x m))

owed-met : (net : Network) (r : Rules) (ss : List Side) → OwedList r net ss → Each (Met net r.key) ss
unfolding Met
owed-met net r ss o = at_each (Met net r.key) [] ss (λ i j l b.
    let c = o.met i (omega arith) in
    let d = o.met j b in
    (c.0, d.0, c.1, c.2, d.1, d.2, o.in_order i j l b c.0 d.0 c.1 c.2 d.1 d.2))

-- ---- when the list is complete

module _ (net : Network) (v : Sound net) (counting : Counting) (cs : List Tree) (counts : CountedBy counting net net.trees cs) where
  -- where three times the shares of the trees that count exceed a weight, a list of all sides of that weight that some tree shows is one of
  -- all sides of that weight
  complete : {w : ℕ} {ss : List Side} → ((s : Side) → Memᴰ s ss ↔ Weak net w s) → w < 3 * shares cs
      → (s : Side) → Proper net s → Rootless net s → cut_weight net s ≡ w → Memᴰ s ss
  complete {w} {ss} holds l s p q e = step (shown_or_heavy net v counting cs counts s)
    where
      step : Shown net s ⊎ (3 * shares cs ≤ cut_weight net s) → Memᴰ s ss
      step (inl k) = (holds s).1 (record { proper = p; rootless = q; weighs = e; respects = k })
      step (inr h) = absurd (omega arith)

  -- and where they reach the reported weight no side is lighter
  none_lighter : (key : Key) → (reported key net).weight ≤ 3 * shares cs → (s : Side) → Proper net s → (reported key net).weight ≤ cut_weight net s
  none_lighter key l s p = step (shown_or_heavy net v counting cs counts s)
    where
      step : Shown net s ⊎ (3 * shares cs ≤ cut_weight net s) → (reported key net).weight ≤ cut_weight net s
      step (inl k) = light net v (ahead-weighing key) (reported key net) (reported_first net v key) s p k.0 k.1 k.2
      step (inr h) = omega arith

-- the reported cut is certified exactly where they reach its weight
pub certified-reached : (net : Network) (r : Rules)
    → ((answer r net).verdict ≡ certified) ↔ ((reported r.key net).weight ≤ 3 * shares (counted r.counting net net.trees))
unfolding answer judged floor
certified-reached net r =
    let tells = verdict_tells (answer r net).floor (reported r.key net).weight in
    (λ h. let e = tells.0 h in omega arith, λ l. tells.1 (omega arith))

-- ---- what is owed

module _ (net : Network) (v : Sound net) (r : Rules) (by-sides : BySides net r.key) where
  pub listed-owed : OwedList r net (listed r.key net)
  listed-owed = record {
    holds = listed-is net v r.key by-sides;
    once = listed-once net v r.key by-sides;
    met = λ i b. (at i, opens i (rw length-by at b), sym (side-at i));
    in_order = λ i j l b c d o q p e.
        let k : j < length by = rw length-by at b in
        let x : c ≡ at i = opens-same net r.key c (at i) o (opens i (omega arith)) (q ∙ side-at i) in
        let y : d ≡ at j = opens-same net r.key d (at j) p (opens j k) (e ∙ side-at j) in
        let z : Precedes r.key (at i) (at j) = each_at (Precedes r.key) no_candidate by (new-order net v r.key by-sides) i j l k in
        subst (λ (a : Candidate). Precedes r.key a d) (sym x) (subst (Precedes r.key (at i)) (sym y) z);
    number = listed-length net v r.key by-sides;
    counted = cs;
    counts = counts;
    complete = λ more. complete net v r.counting cs counts (listed-is net v r.key by-sides) (omega arith);
    none_lighter = λ enough. none_lighter net v r.counting cs counts r.key (omega arith);
  }
    where
      cs : List Tree
      cs = counted r.counting net net.trees

      counts : CountedBy r.counting net net.trees cs
      counts = counted_counts net net.trees r.counting

      by : List Candidate
      by = keep (is_new net) (in_order r.key net)

      at : ℕ → Candidate
      at i = get_or by i no_candidate

      length-by : length (listed r.key net) ≡ length by
      length-by = ap (λ (ss : List Side). length ss) (listed-new net v r.key by-sides) ∙ length-map by (λ c. c.side)

      side-at : (i : ℕ) → get_or (listed r.key net) i [] ≡ (at i).side
      side-at i = ap (λ (ss : List Side). get_or ss i []) (listed-new net v r.key by-sides) ∙ get_or-map (λ (c : Candidate). c.side) by i no_candidate

      opens : (i : ℕ) → i < length by → Opens r.key net (at i)
      opens i b = new-opens net v r.key by-sides (at i) (at_mem no_candidate by i b)

  -- no other list is owed the same
  pub owed-listed : (ss : List Side) → OwedList r net ss → ss ≡ listed r.key net
  owed-listed ss o =
      let p = listed-owed in
      each-only (Met net r.key) (met-one_way net r.key) ss (listed r.key net) (owed-met net r ss o) (owed-met net r (listed r.key net) p)
      (λ s. (λ m. (p.holds s).1 ((o.holds s).0 m), λ m. (o.holds s).1 ((p.holds s).0 m)))

  -- the list begins with the reported side
  pub owed-first : (ss : List Side) → OwedList r net ss → get_or ss 0 [] ≡ (reported r.key net).side
  unfolding listed
  owed-first ss o = go (mem_at [] ((o.holds best.side).1 ((listed-is net v r.key by-sides best.side).0 inside)))
    where
      best : Candidate
      best = reported r.key net

      among : Memᴰ best (candidates net)
      among = first_in (reported_first net v r.key)

      inside : Memᴰ best.side (listed r.key net)
      inside = fresh_in same_flags same_flags_tells [] (map (λ c. c.side) (in_order r.key net)) (Memᴰ.map (λ c. c.side) (in_order_in net v r.key by-sides best among refl)) (λ m. Memᴰ.not-nil m)

      opens : Opens r.key net best
      opens = record { listed = among; first = λ d m q. reported_precedes net v r.key d m }

      go : (i : ℕ) × (i < length ss) × (get_or ss i [] ≡ best.side) → get_or ss 0 [] ≡ best.side
      go (zero, b, e) = e
      go (suc i, b, e) =
          let c = o.met 0 (omega arith) in
          let l = o.in_order 0 (suc i) (omega arith) b c.0 best c.1 c.2 opens (sym e) in
          absurd (earlier c.0 l (reported_precedes net v r.key c.0 c.1.listed))
        where
          earlier : (c : Candidate) → Precedes r.key c best → (c ≡ best) ⊎ Precedes r.key best c → ⊥
          earlier c l (inl q) = let k = subst (λ (d : Candidate). Precedes r.key d best) q l in precedes-one_way r.key best best k k
          earlier c l (inr m) = precedes-one_way r.key c best l m
