-- The sides without the root that cross one or two members of a spanning tree are those that its handles stand for, each for one.
-- Assumes nothing.
use Prim.Native.Nat.{ℕ, zero, suc, ◌+◌, ◌≤◌, ◌<◌}
use mathlib.Core.Path.{◌≡◌, refl, sym, ap, ap₂, ◌∙◌}
use mathlib.Core.Logic.{◌⊎◌, inl, inr}
use mathlib.Core.Bool.{Bool, true, false, ◌&&◌, ◌||◌, xor, and-eq-true_iff}
use native.Mathlib.Omega.{arith}
use lib.Dec.{eqb}
use borrow.Author.Tests.{eqb-true, eq-eqb}
use Rattle.cuts.specs.Sums.{sum_to, only, count_to}
use Rattle.cuts.specs.Network.{Tree, Network, flag, link_count}
use Rattle.cuts.specs.Cut.{Side, Respects, Rootless, crosses, cut_weight, crossings}
use Rattle.cuts.specs.Tree.{below, Spanning, Member}
use Rattle.cuts.specs.Candidate.{Handle, one, two, side_of, Fits, names}
use Rattle.cuts.specs.Demands.{Belongs}
use Rattle.cuts.proofs.FlagLaws.{either, or_left, or_right}
use Rattle.cuts.proofs.SumLaws.{sum_congr, sum-add, sum-single, count_none, One, Two, count-one, count-two}
use Rattle.cuts.proofs.CutLaws.{crosses-sym_diff, weight_of-is}
use Rattle.cuts.proofs.Spanning.{rootless-sym_diff, crosses-none, same_side, below-rootless, below-crosses}

-- how many links the handle names
abbrev pub named : Handle → ℕ
named (one e) = 1
named (two e f) = 2

-- of a pair no link is both
apart : {e f : ℕ} → e < f → (k : ℕ) → eqb e k ≡ true → eqb f k ≡ true → ⊥
apart {e} {f} l k p q = let u = eqb-true e k p in let v = eqb-true f k q in omega arith

module _ {net : Network} {t : Tree} (g : Spanning net t) where
  pub side_of-rootless : (h : Handle) → Fits net t h → Rootless net (side_of net t h)
  unfolding side_of
  side_of-rootless (one e) m = below-rootless g e m
  side_of-rootless (two e f) m = rootless-sym_diff net (below net t e) (below net t f) (below-rootless g e m.1) (below-rootless g f m.2)

  -- the side crosses the members that the handle names and no other
  pub side_of-crosses : (h : Handle) → Fits net t h → (k : ℕ) → Member net t k → crosses net (side_of net t h) k ≡ names h k
  unfolding side_of xor
  side_of-crosses (one e) m k n = below-crosses g e m k n
  side_of-crosses (two e f) m k n =
      crosses-sym_diff net (below net t e) (below net t f) k ∙ ap₂ xor (below-crosses g e m.1 k n) (below-crosses g f m.2 k n)
      ∙ not-both (eqb e k) (eqb f k) (apart m.0 k)
    where
      not-both : (a b : Bool) → (a ≡ true → b ≡ true → ⊥) → xor a b ≡ (a || b)
      not-both true true h = absurd (h refl refl)
      not-both true false h = refl
      not-both false true h = refl
      not-both false false h = refl

  -- a member counts where the side crosses it
  counts : (s : Side) (k : ℕ) → Member net t k → (flag t.members k && crosses net s k) ≡ crosses net s k
  counts s k m = rw m.is_set

  at_name : (e : ℕ) → Member net t e → sum_to (link_count net) (λ k. only (eqb e k) (only (flag t.members k) 1)) ≡ 1
  at_name e m = sum-single (link_count net) e (λ k. only (flag t.members k) 1) m.is_link ∙ rw m.is_set

  crossings-names : (h : Handle) → Fits net t h → crossings net t (side_of net t h) ≡ count_to (link_count net) (λ k. flag t.members k && names h k)
  unfolding crossings
  crossings-names h m = sum_congr (link_count net) _ _ (λ k b. ap (λ (c : Bool). only c 1) (step k b (flag t.members k) refl))
    where
      step : (k : ℕ) → k < link_count net → (c : Bool) → flag t.members k ≡ c → (c && crosses net (side_of net t h) k) ≡ (c && names h k)
      step k b true e = side_of-crosses h m k (record { is_link = b; is_set = e })
      step k b false e = refl

  pub side_of-crossings : (h : Handle) → Fits net t h → crossings net t (side_of net t h) ≡ named h
  side_of-crossings (one e) m = crossings-names (one e) m ∙ sum_congr (link_count net) _ _ (λ k b. swap (flag t.members k) (eqb e k)) ∙ at_name e m
    where
      swap : (a c : Bool) → only (a && c) 1 ≡ only c (only a 1)
      swap true c = refl
      swap false true = refl
      swap false false = refl
  side_of-crossings (two e f) m =
      let a = crossings-names (two e f) m in
      let b = sum_congr (link_count net) (λ k. only (flag t.members k && (eqb e k || eqb f k)) 1) (λ k. only (eqb e k) (only (flag t.members k) 1) + only (eqb f k) (only (flag t.members k) 1))
      (λ k _. split (flag t.members k) (eqb e k) (eqb f k) (apart m.0 k)) in
      let c = sum-add (link_count net) (λ k. only (eqb e k) (only (flag t.members k) 1)) (λ k. only (eqb f k) (only (flag t.members k) 1)) in
      let d = at_name e m.1 in
      let d' = at_name f m.2 in
      omega arith
    where
      split : (a p q : Bool) → (p ≡ true → q ≡ true → ⊥) → only (a && (p || q)) 1 ≡ only p (only a 1) + only q (only a 1)
      split a true true h = absurd (h refl refl)
      split true true false h = refl
      split true false true h = refl
      split true false false h = refl
      split false true false h = refl
      split false false true h = refl
      split false false false h = refl

  names_same : (h h' : Handle) → Fits net t h → Fits net t h' → side_of net t h ≡ side_of net t h' → (k : ℕ) → Member net t k → names h k ≡ names h' k
  names_same h h' m m' q k n = sym (side_of-crosses h m k n) ∙ ap (λ (s : Side). crosses net s k) q ∙ side_of-crosses h' m' k n

  -- different handles stand for different sides
  pub side_of_inj : (h h' : Handle) → Fits net t h → Fits net t h' → side_of net t h ≡ side_of net t h' → h ≡ h'
  side_of_inj (one e) (one e') m m' q = ap one (eqb-true e e' (names_same (one e) (one e') m m' q e' m' ∙ eq-eqb e' e' refl))
  side_of_inj (one e) (two e' f') m m' q =
      let a = side_of-crossings (one e) m in let b = side_of-crossings (two e' f') m' in let c = ap (crossings net t) q in absurd (omega arith)
  side_of_inj (two e f) (one e') m m' q =
      let a = side_of-crossings (two e f) m in let b = side_of-crossings (one e') m' in let c = ap (crossings net t) q in absurd (omega arith)
  side_of_inj (two e f) (two e' f') m m' q =
      match (either _ _ (names_same (two e f) (two e' f') m m' q e' m'.1 ∙ or_left _ _ (eq-eqb e' e' refl)))
      (either _ _ (names_same (two e f) (two e' f') m m' q f' m'.2 ∙ or_right (eqb e' f') _ (eq-eqb f' f' refl)))
    where
      match : (eqb e e' ≡ true) ⊎ (eqb f e' ≡ true) → (eqb e f' ≡ true) ⊎ (eqb f f' ≡ true) → two e f ≡ two e' f'
      match (inl a) (inl b) = let u = eqb-true e e' a in let v = eqb-true e f' b in let l = m'.0 in absurd (omega arith)
      match (inl a) (inr b) = ap₂ two (eqb-true e e' a) (eqb-true f f' b)
      match (inr a) (inl b) = let u = eqb-true f e' a in let v = eqb-true e f' b in let l = m'.0 in let k = m.0 in absurd (omega arith)
      match (inr a) (inr b) = let u = eqb-true f e' a in let v = eqb-true f f' b in let l = m'.0 in absurd (omega arith)

  module _ (s : Side) (r : Rootless net s) where
    crossed : ℕ → Bool
    crossed k = flag t.members k && crosses net s k

    crossed-member : (k : ℕ) → k < link_count net → crossed k ≡ true → Member net t k
    unfolding crossed
    crossed-member k b h = record { is_link = b; is_set = ((and-eq-true_iff _ _).0 h).0 }

    pub crossings-none : crossings net t s ≡ 0 → (x : ℕ) → x < net.nodes → flag s x ≡ false
    unfolding crossings
    crossings-none h = crosses-none g s r.without (λ k m. sym (counts s k m) ∙ count_none (link_count net) (λ j. flag t.members j && crosses net s j) h k m.is_link)

    -- a side that crosses what the handle names belongs to the handle and to no other
    names-side : (h : Handle) → Fits net t h → ((k : ℕ) → k < link_count net → crossed k ≡ names h k) → Belongs net t s
    unfolding crossed
    names-side h m e =
        let q : s ≡ side_of net t h = same_side g s (side_of net t h) r (side_of-rootless h m) (λ k n. sym (counts s k n) ∙ e k n.is_link ∙ sym (side_of-crosses h m k n)) in
        record {
          handle = h;
          fits = m;
          stands = q;
          no_other = λ h' m' q'. side_of_inj h' h m' m (sym q' ∙ q);
          weighs = ap (cut_weight net) q ∙ sym (weight_of-is net t h);
        }

    belongs_one : One (link_count net) crossed → Belongs net t s
    belongs_one o = names-side (one o.at) (crossed-member o.at o.under (o.is o.at o.under ∙ eq-eqb o.at o.at refl)) o.is

    belongs_two : Two (link_count net) crossed → Belongs net t s
    belongs_two o =
        let l : o.low < o.high = o.apart in
        let u : o.high < link_count net = o.under in
        names-side (two o.low o.high) (
          l,
          crossed-member o.low (omega arith) (o.is o.low (omega arith) ∙ or_left _ _ (eq-eqb o.low o.low refl)),
          crossed-member o.high u (o.is o.high u ∙ or_right (eqb o.low o.high) _ (eq-eqb o.high o.high refl)),
        ) o.is

    -- a side that crosses one or two members belongs to one handle and no other
    pub belongs : 1 ≤ crossings net t s → Respects net t s → Belongs net t s
    unfolding crossings crossed
    belongs a b = go (crossings net t s) refl a b
      where
        go : (n : ℕ) → crossings net t s ≡ n → 1 ≤ n → n ≤ 2 → Belongs net t s
        go zero e a b = absurd (omega arith)
        go (suc zero) e a b = belongs_one (count-one (link_count net) crossed e)
        go (suc (suc zero)) e a b = belongs_two (count-two (link_count net) crossed e)
        go (suc (suc (suc n))) e a b = absurd (omega arith)
