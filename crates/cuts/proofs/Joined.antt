-- What `joined` is: the least set with the root that no chosen link leaves, and of at most one node more than there are chosen links.
-- Assumes nothing.
use Prim.Native.Nat.{ℕ, zero, suc, ◌+◌, ◌≤◌, ◌<◌}
use mathlib.Core.Path.{◌≡◌, refl, sym, ap, ◌∙◌, subst}
use mathlib.Core.Logic.{◌⊎◌, inl, inr}
use mathlib.Core.Bool.{Bool, true, false, ◌&&◌, ◌||◌, xor, cond, and-eq-true_iff}
use mathlib.Core.List.{List}
use native.Mathlib.Nat.{eq-or-lt_of_le}
use native.Mathlib.Omega.{arith}
use lib.ListN.{length}
use lib.Seq.{ext_get_or}
use lib.Dec.{eqb}
use borrow.Author.Tests.{eqb-true, eq-eqb}
use Rattle.cuts.specs.Sums.{sum_to, only, any_to, count_to}
use Rattle.cuts.specs.Network.{Network, flag, link_at, link_count, Linked}
use Rattle.cuts.specs.Cut.{Side, crosses, size}
use Rattle.cuts.specs.Tree.{joins, spread, spreads, root, joined}
use Rattle.cuts.specs.Paths.{Meets, forth, back}
use Rattle.cuts.proofs.FlagLaws.{clash, agree, either, or_left, or_right, xor_comm, eqb_comm}
use Rattle.cuts.proofs.SumLaws.{any_to-some, any_to-at, sum_congr, sum_mono, sum-add, sum-swap, sum-entry, sum_tight, sum-single, count_most, table-length, table_at}

pub turned : {net : Network} {k x y : ℕ} → Meets net k x y → Meets net k y x
turned (forth p q) = back q p
turned (back p q) = forth q p

pub crosses-meets : {net : Network} {k x y : ℕ} (s : Side) → Meets net k x y → crosses net s k ≡ xor (flag s x) (flag s y)
unfolding crosses
crosses-meets s (forth p q) = rw (p, q)
crosses-meets {x} {y} s (back p q) = rw (p, q) (xor_comm (flag s y) (flag s x))

pub meets_in : {net : Network} {k x y : ℕ} → Linked net → k < link_count net → Meets net k x y → x < net.nodes
meets_in {net} {k} l b (forth p q) = subst (λ (z : ℕ). z < net.nodes) p (l.first_in k b)
meets_in {net} {k} l b (back p q) = subst (λ (z : ℕ). z < net.nodes) p (l.second_in k b)

joins_at : {net : Network} {k x y : ℕ} (s : Side) → Meets net k x y → flag s y ≡ true → joins net s x k ≡ true
unfolding joins
joins_at {net} {k} {x} s (forth p q) h = rw (eq-eqb (link_at net k).first x p, q) (or_left _ _ h)
joins_at {net} {k} {x} s (back p q) h =
    or_right (eqb (link_at net k).first x && flag s (link_at net k).second) (eqb (link_at net k).second x && flag s (link_at net k).first) (rw (eq-eqb (link_at net k).second x p, q) h)

joins-some : (net : Network) (s : Side) (x k : ℕ) → joins net s x k ≡ true → (y : ℕ) × Meets net k x y × (flag s y ≡ true)
unfolding joins
joins-some net s x k h = step (either _ _ h)
  where
    step : ((eqb (link_at net k).first x && flag s (link_at net k).second) ≡ true) ⊎ ((eqb (link_at net k).second x && flag s (link_at net k).first) ≡ true)
        → (y : ℕ) × Meets net k x y × (flag s y ≡ true)
    step (inl e) = let r = (and-eq-true_iff _ _).0 e in ((link_at net k).second, forth (eqb-true _ x r.0) refl, r.1)
    step (inr e) = let r = (and-eq-true_iff _ _).0 e in ((link_at net k).first, back (eqb-true _ x r.0) refl, r.1)

-- link k of the chosen ones leads from x to a node of s
pub record Lead (net : Network) (chosen : List Bool) (s : Side) (x : ℕ) : Type 0 where
  pub link : ℕ
  pub far : ℕ
  pub is_link : link < link_count net
  pub is_chosen : flag chosen link ≡ true
  pub meets : Meets net link x far
  pub inside : flag s far ≡ true

-- both ends of link k lie in s
abbrev pub held : Network → Side → ℕ → Bool
held net s k = flag s (link_at net k).first && flag s (link_at net k).second

module _ (net : Network) (chosen : List Bool) where
  module _ (s : Side) (x : ℕ) (b : x < net.nodes) where
    spread_at : flag (spread net chosen s) x ≡ (flag s x || any_to (link_count net) (λ k. flag chosen k && joins net s x k))
    unfolding spread
    spread_at = table_at false net.nodes _ x b

    pub spread-keep : flag s x ≡ true → flag (spread net chosen s) x ≡ true
    spread-keep h = rw spread_at (or_left _ _ h)

    pub spread-lead : Lead net chosen s x → flag (spread net chosen s) x ≡ true
    spread-lead l =
        rw spread_at (or_right (flag s x) _ (any_to-at (link_count net) (λ k. flag chosen k && joins net s x k) l.link l.is_link
        (rw l.is_chosen (joins_at s l.meets l.inside))))

    pub spread-from : flag (spread net chosen s) x ≡ true → (flag s x ≡ true) ⊎ Lead net chosen s x
    spread-from h = step (either _ _ (rw spread_at at h))
      where
        step : (flag s x ≡ true) ⊎ (any_to (link_count net) (λ k. flag chosen k && joins net s x k) ≡ true) → (flag s x ≡ true) ⊎ Lead net chosen s x
        step (inl e) = inl e
        step (inr e) =
            let a = any_to-some (link_count net) (λ k. flag chosen k && joins net s x k) e in
            let c = (and-eq-true_iff _ _).0 a.2 in
            let j = joins-some net s x a.0 c.1 in
            inr (record { link = a.0; far = j.0; is_link = a.1; is_chosen = c.0; meets = j.1; inside = j.2 })

  pub spread-length : (s : Side) → length (spread net chosen s) ≡ net.nodes
  unfolding spread
  spread-length s = table-length net.nodes _

  pub spreads-length : (r : ℕ) → length (spreads r net chosen (root net)) ≡ net.nodes
  unfolding spreads root
  spreads-length zero = table-length net.nodes _
  spreads-length (suc r) = spread-length (spreads r net chosen (root net))

  -- no chosen link leaves what they join, and nothing less that holds the root is so
  pub joined-within : (q : ℕ → Bool) → Linked net → q 0 ≡ true
      → ((k : ℕ) → k < link_count net → flag chosen k ≡ true → q (link_at net k).first ≡ q (link_at net k).second)
      → (x : ℕ) → x < net.nodes → flag (joined net chosen) x ≡ true → q x ≡ true
  unfolding joined
  joined-within q l z h x b = go net.nodes x b
    where
      follow : {k x y : ℕ} → q (link_at net k).first ≡ q (link_at net k).second → Meets net k x y → q y ≡ true → q x ≡ true
      follow e (forth m n) i = cc (ap q m, ap q n)
      follow e (back m n) i = cc (ap q m, ap q n)

      step : {s : Side} {x : ℕ} → ((y : ℕ) → y < net.nodes → flag s y ≡ true → q y ≡ true) → (flag s x ≡ true) ⊎ Lead net chosen s x → x < net.nodes → q x ≡ true
      step {x = x} r (inl e) b = r x b e
      step r (inr d) b = follow (h d.link d.is_link d.is_chosen) d.meets (r d.far (meets_in l d.is_link (turned d.meets)) d.inside)

      go : (r : ℕ) (x : ℕ) → x < net.nodes → flag (spreads r net chosen (root net)) x ≡ true → q x ≡ true
      go zero x b e = ap q (eqb-true x 0 (sym (table_at false net.nodes (λ y. eqb y 0) x b) ∙ e)) ∙ z
      go (suc r) x b e = step (go r) (spread-from (spreads r net chosen (root net)) x b e) b

  -- a spread either changes nothing or adds a node, so that as many spreads as nodes come to rest
  grows : (s : Side) → length s ≡ net.nodes → (spread net chosen s ≡ s) ⊎ (size net s < size net (spread net chosen s))
  unfolding size
  grows s e = step (eq-or-lt_of_le more)
    where
      rises : (a b : Bool) → (a ≡ true → b ≡ true) → only a 1 ≤ only b 1
      rises false b h = omega arith
      rises true b h = rw (h refl) (omega arith)

      same : (a b : Bool) → only a 1 ≡ only b 1 → b ≡ a
      same true true h = refl
      same true false h = absurd (omega arith)
      same false true h = absurd (omega arith)
      same false false h = refl

      kept : (x : ℕ) → x < net.nodes → only (flag s x) 1 ≤ only (flag (spread net chosen s) x) 1
      kept x b = rises _ _ (spread-keep s x b)

      more : size net s ≤ size net (spread net chosen s)
      more = sum_mono net.nodes _ _ kept

      step : (size net s ≡ size net (spread net chosen s)) ⊎ (size net s < size net (spread net chosen s)) → (spread net chosen s ≡ s) ⊎ (size net s < size net (spread net chosen s))
      step (inr l) = inr l
      step (inl p) = inl (ext_get_or false (spread net chosen s) s (spread-length s ∙ sym e)
          (λ x b. same _ _ (sum_tight net.nodes _ _ kept (omega arith) x (rw (spread-length s) at b))))

  rest : (r : ℕ) → (spread net chosen (spreads r net chosen (root net)) ≡ spreads r net chosen (root net)) ⊎ (r ≤ size net (spreads r net chosen (root net)))
  unfolding spreads
  rest zero = inr (omega arith)
  rest (suc r) = step (rest r) (grows (spreads r net chosen (root net)) (spreads-length r))
    where
      step : {s : Side} → (spread net chosen s ≡ s) ⊎ (r ≤ size net s) → (spread net chosen s ≡ s) ⊎ (size net s < size net (spread net chosen s))
          → (spread net chosen (spread net chosen s) ≡ spread net chosen s) ⊎ (suc r ≤ size net (spread net chosen s))
      step (inl e) g = inl (ap (spread net chosen) e)
      step (inr e) (inl g) = inl (ap (spread net chosen) g)
      step (inr e) (inr g) = inr (omega arith)

  pub size-most : (s : Side) → size net s ≤ net.nodes
  unfolding size
  size-most s = count_most net.nodes (flag s)

  pub joined_rests : spread net chosen (joined net chosen) ≡ joined net chosen
  unfolding joined
  joined_rests = step (rest net.nodes) (grows (joined net chosen) (spreads-length net.nodes))
    where
      step : (spread net chosen (joined net chosen) ≡ joined net chosen) ⊎ (net.nodes ≤ size net (joined net chosen))
          → (spread net chosen (joined net chosen) ≡ joined net chosen) ⊎ (size net (joined net chosen) < size net (spread net chosen (joined net chosen)))
          → spread net chosen (joined net chosen) ≡ joined net chosen
      step (inl e) g = e
      step (inr e) (inl g) = g
      step (inr e) (inr g) = let m = size-most (spread net chosen (joined net chosen)) in absurd (omega arith)

  pub joined_length : length (joined net chosen) ≡ net.nodes
  unfolding joined
  joined_length = spreads-length net.nodes

  pub joined-root : Linked net → flag (joined net chosen) 0 ≡ true
  unfolding joined spreads root
  joined-root l = go net.nodes
    where
      go : (r : ℕ) → flag (spreads r net chosen (root net)) 0 ≡ true
      go zero = table_at false net.nodes (λ y. eqb y 0) 0 l.rooted
      go (suc r) = spread-keep (spreads r net chosen (root net)) 0 l.rooted (go r)

  pub joined-lead : (x : ℕ) → x < net.nodes → Lead net chosen (joined net chosen) x → flag (joined net chosen) x ≡ true
  joined-lead x b d = rw joined_rests at (spread-lead (joined net chosen) x b d)

  pub joined-closed : Linked net → (k : ℕ) → k < link_count net → flag chosen k ≡ true
      → flag (joined net chosen) (link_at net k).first ≡ flag (joined net chosen) (link_at net k).second
  joined-closed l k b c = agree _ _ (go (link_at net k).first (link_at net k).second (forth refl refl)) (go (link_at net k).second (link_at net k).first (back refl refl))
    where
      go : (x y : ℕ) → Meets net k x y → flag (joined net chosen) y ≡ true → flag (joined net chosen) x ≡ true
      go x y m h = joined-lead x (meets_in l b m) (record { link = k; far = y; is_link = b; is_chosen = c; meets = m; inside = h })

  -- of the chosen links, those with both ends in s
  used : Side → ℕ
  used s = count_to (link_count net) (λ k. flag chosen k && held net s k)

  -- the end outside s of a link that crosses s
  tip : Side → ℕ → ℕ
  tip s k = cond (flag s (link_at net k).first) (link_at net k).second (link_at net k).first

  -- each node that a spread adds brings a link of its own
  module _ (l : Linked net) (s : Side) where
    brings : ℕ → ℕ → ℕ
    brings x k = only (eqb (tip s k) x) (only (flag chosen k && crosses net s k) 1)

    tip-meets : {k x y : ℕ} → Meets net k x y → flag s x ≡ false → flag s y ≡ true → tip s k ≡ x
    unfolding tip
    tip-meets (forth p q) f t = rw (ap (flag s) p ∙ f) p
    tip-meets (back p q) f t = rw (ap (flag s) q ∙ t) p

    brings-lead : {x : ℕ} (d : Lead net chosen s x) → flag s x ≡ false → brings x d.link ≡ 1
    unfolding brings xor
    brings-lead {x} d f = rw (eq-eqb (tip s d.link) x (tip-meets d.meets f d.inside), d.is_chosen, crosses-meets s d.meets, f, d.inside)

    added : (x : ℕ) → x < net.nodes → only (flag (spread net chosen s) x) 1 ≤ only (flag s x) 1 + sum_to (link_count net) (brings x)
    added x b = step (flag s x) refl (flag (spread net chosen s) x) refl
      where
        from : (flag s x ≡ true) ⊎ Lead net chosen s x → flag s x ≡ false → 1 ≤ sum_to (link_count net) (brings x)
        from (inl t) f = clash t f
        from (inr d) f = let e = brings-lead d f in let u = sum-entry (link_count net) (brings x) d.link d.is_link in omega arith

        step : (a : Bool) → flag s x ≡ a → (c : Bool) → flag (spread net chosen s) x ≡ c → only c 1 ≤ only a 1 + sum_to (link_count net) (brings x)
        step a p false q = omega arith
        step true p true q = omega arith
        step false p true q = let u = from (spread-from s x b q) p in omega arith

    tip_in : (k : ℕ) → k < link_count net → tip s k < net.nodes
    unfolding tip
    tip_in k b = go (flag s (link_at net k).first)
      where
        go : (c : Bool) → cond c (link_at net k).second (link_at net k).first < net.nodes
        go true = l.second_in k b
        go false = l.first_in k b

    spent : (k : ℕ) → k < link_count net
        → only (flag chosen k && held net s k) 1 + sum_to net.nodes (λ x. brings x k) ≤ only (flag chosen k && held net (spread net chosen s) k) 1
    unfolding brings crosses xor
    spent k b =
        rw (sum-single net.nodes (tip s k) (λ x. only (flag chosen k && crosses net s k) 1) (tip_in k b))
        (fits (flag chosen k) (flag s (link_at net k).first) (flag s (link_at net k).second) (held net (spread net chosen s) k) near far)
      where
        pair : {a c : Bool} → a ≡ true → c ≡ true → (a && c) ≡ true
        pair p q = rw (p, q)

        lead : (x y : ℕ) → flag chosen k ≡ true → Meets net k x y → flag s y ≡ true → flag (spread net chosen s) x ≡ true
        lead x y c m t = spread-lead s x (meets_in l b m) (record { link = k; far = y; is_link = b; is_chosen = c; meets = m; inside = t })

        near : flag chosen k ≡ true → flag s (link_at net k).first ≡ true → held net (spread net chosen s) k ≡ true
        near c t = pair (spread-keep s _ (l.first_in k b) t) (lead _ _ c (back refl refl) t)

        far : flag chosen k ≡ true → flag s (link_at net k).second ≡ true → held net (spread net chosen s) k ≡ true
        far c t = pair (lead _ _ c (forth refl refl) t) (spread-keep s _ (l.second_in k b) t)

        fits : (c a d z : Bool) → (c ≡ true → a ≡ true → z ≡ true) → (c ≡ true → d ≡ true → z ≡ true) → only (c && (a && d)) 1 + only (c && xor a d) 1 ≤ only (c && z) 1
        fits false a d z f g = omega arith
        fits true true true z f g = rw (f refl refl) (omega arith)
        fits true true false z f g = rw (f refl refl) (omega arith)
        fits true false true z f g = rw (g refl refl) (omega arith)
        fits true false false z f g = omega arith

    spread-count : size net (spread net chosen s) + used s ≤ size net s + used (spread net chosen s)
    unfolding size used
    spread-count =
        let a = sum_mono net.nodes _ _ added in
        let b = sum-add net.nodes (λ x. only (flag s x) 1) (λ x. sum_to (link_count net) (brings x)) in
        let c = sum-swap net.nodes (link_count net) brings in
        let d = sum_mono (link_count net) _ _ spent in
        let e = sum-add (link_count net) (λ k. only (flag chosen k && held net s k) 1) (λ k. sum_to net.nodes (λ x. brings x k)) in
        omega arith

  pub root-size : Linked net → size net (root net) ≡ 1
  unfolding size root
  root-size l =
      sum_congr net.nodes _ (λ x. only (eqb 0 x) 1) (λ x b. ap (λ (c : Bool). only c 1) (table_at false net.nodes (λ y. eqb y 0) x b ∙ eqb_comm x 0))
      ∙ sum-single net.nodes 0 (λ x. 1) l.rooted

  pub joined-count : Linked net → size net (joined net chosen) ≤ suc (count_to (link_count net) (λ k. flag chosen k))
  unfolding joined used
  joined-count l = let a = go net.nodes in let b = sum_mono (link_count net) _ _ (λ k _. part (flag chosen k) (held net (joined net chosen) k)) in omega arith
    where
      part : (c z : Bool) → only (c && z) 1 ≤ only c 1
      part true true = omega arith
      part true false = omega arith
      part false z = omega arith

      go : (r : ℕ) → size net (spreads r net chosen (root net)) ≤ suc (used (spreads r net chosen (root net)))
      go zero = let e = root-size l in omega arith
      go (suc r) = let a = go r in let b = spread-count l (spreads r net chosen (root net)) in omega arith
