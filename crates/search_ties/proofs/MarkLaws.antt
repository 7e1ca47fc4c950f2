-- Those of what was passed that weigh no more than the limit, one more at a time: a heavier one changes nothing, and of any other the bit of
-- its cell is set.
-- Assumes nothing.
use Prim.Native.Nat.{ℕ, zero, suc, ◌+◌, ◌-◌, ◌≤◌, ◌<◌}
use mathlib.Core.Path.{◌≡◌, refl, sym, ◌∙◌, subst}
use mathlib.Core.Logic.{◌⊎◌, inl, inr}
use mathlib.Core.Bool.{true, ◌||◌}
use mathlib.Core.List.{List}
use native.Mathlib.Omega.{arith}
use lib.ListN.{replicate}
use lib.Dec.{eqb}
use borrow.Author.Tests.{eqb-true, eq-eqb}
use Rattle.cuts.specs.Network.{Network, Tree}
use Rattle.cuts.proofs.FlagLaws.{either, or_left, or_right, clash}
use Rattle.search_order.specs.Visits.{passed}
use Rattle.search_order.proofs.PassedLaws.{passed_none, passed-begun, passed-behind, passed-wider, passed-new}
use Rattle.bit_table.specs.Bits.{bit_of}
use Rattle.bit_table.proofs.BitLaws.{bit_of-clear}
use Rattle.search_ties.specs.Ties.{cell_at, weight_of_places, InRows, LightMarked}

module _ {net : Network} {t : Tree} {links rank : List ℕ} {limit : ℕ} where
  -- the same pairs, said another way
  marked-same : {among other : ℕ → ℕ → Type 0} {table : List ℕ}
      → ((x y : ℕ) → among x y → other x y) → ((x y : ℕ) → other x y → among x y)
      → LightMarked net t links rank among limit table → LightMarked net t links rank other limit table
  marked-same to of h = record {
    of = λ q e. let r = h.of q e in (r.0, r.1, to r.0 r.1 r.2, r.3, r.4);
    every = λ x y m. h.every x y (of x y m);
  }

  -- one pair more
  module _ {among more : ℕ → ℕ → Type 0} {u v : ℕ} {table : List ℕ} (to : (x y : ℕ) → among x y → more x y) (new : more u v)
      (of : (x y : ℕ) → more x y → among x y ⊎ ((x ≡ u) × (y ≡ v))) (h : LightMarked net t links rank among limit table) where
    each : (P : ℕ → ℕ → Type 0) → ((x y : ℕ) → among x y → P x y) → P u v → (x y : ℕ) → more x y → P x y
    each P a b x y m = go (of x y m)
      where
        go : among x y ⊎ ((x ≡ u) × (y ≡ v)) → P x y
        go (inl s) = a x y s
        go (inr s) = rw (s.0, s.1) b

    marked-heavy : limit < weight_of_places net t links u v → LightMarked net t links rank more limit table
    marked-heavy l = record {
      of = λ q e. let r = h.of q e in (r.0, r.1, to r.0 r.1 r.2, r.3, r.4);
      every = each (λ x y. weight_of_places net t links x y ≤ limit → bit_of table (cell_at rank x y) ≡ true) h.every (λ e. absurd (omega arith));
    }

    marked-light : {after : List ℕ} → weight_of_places net t links u v ≤ limit → ((k : ℕ) → bit_of after k ≡ (bit_of table k || eqb k (cell_at rank u v)))
        → LightMarked net t links rank more limit after
    marked-light {after} l k = record {
      of = λ q e. marked q (either (bit_of table q) (eqb q (cell_at rank u v)) (sym (k q) ∙ e));
      every = each (λ x y. weight_of_places net t links x y ≤ limit → bit_of after (cell_at rank x y) ≡ true)
          (λ x y m e. k _ ∙ or_left _ _ (h.every x y m e))
          (λ _. k (cell_at rank u v) ∙ or_right (bit_of table (cell_at rank u v)) _ (eq-eqb (cell_at rank u v) (cell_at rank u v) refl));
    }
      where
        marked : (q : ℕ) → (bit_of table q ≡ true) ⊎ (eqb q (cell_at rank u v) ≡ true)
            → (x : ℕ) × (y : ℕ) × more x y × (weight_of_places net t links x y ≤ limit) × (cell_at rank x y ≡ q)
        marked q (inl e) = let r = h.of q e in (r.0, r.1, to r.0 r.1 r.2, r.3, r.4)
        marked q (inr e) = (u, v, new, l, sym (eqb-true q (cell_at rank u v) e))

-- ---- by rows

module _ (nodes u v : ℕ) where
  wider : (x y : ℕ) → InRows nodes u v x y → InRows nodes u (v + 1) x y
  wider x y m = (m.0, m.1, m.2, passed-wider u v x y m.3)

  narrower : (x y : ℕ) → InRows nodes u (v + 1) x y → InRows nodes u v x y ⊎ ((x ≡ u) × (y ≡ v))
  narrower x y m = step (passed-new u v x y m.3)
    where
      step : passed u v x y ⊎ ((x ≡ u) × (y ≡ v)) → InRows nodes u v x y ⊎ ((x ≡ u) × (y ≡ v))
      step (inl d) = inl (m.0, m.1, m.2, d)
      step (inr q) = inr q

module _ {net : Network} {t : Tree} {links rank : List ℕ} {limit nodes : ℕ} where
  -- before the last row nothing is passed
  pub marked_start : (u v n : ℕ) → nodes ≤ u → LightMarked net t links rank (InRows nodes u v) limit (replicate n 0)
  marked_start u v n b = record { of = λ q e. clash e (bit_of-clear n q); every = λ x y m. absurd (passed_none u v x y nodes b m.1 m.2 m.3) }

module _ {net : Network} {t : Tree} {links rank : List ℕ} {limit nodes : ℕ} {table : List ℕ} where
  -- with the row behind it done, row u begins
  pub row-start : (u : ℕ) → LightMarked net t links rank (InRows nodes (u + 1) nodes) limit table
      → LightMarked net t links rank (InRows nodes u u) limit table
  row-start u =
      marked-same (λ x y m. (m.0, m.1, m.2, passed-begun u nodes x y m.3))
      (λ x y m. (m.0, m.1, m.2, passed-behind u nodes x y nodes (omega arith) m.1 m.2 m.3))

  -- the next pair, or the row's link alone
  module _ (u v : ℕ) (z : 0 < u) (l : u ≤ v) (b : v < nodes) (h : LightMarked net t links rank (InRows nodes u v) limit table) where
    pub mark_pair : {after : List ℕ} {q : ℕ} → weight_of_places net t links u v ≤ limit → q ≡ cell_at rank u v
        → ((k : ℕ) → bit_of after k ≡ (bit_of table k || eqb k q)) → LightMarked net t links rank (InRows nodes u (v + 1)) limit after
    mark_pair w e k = marked-light (wider nodes u v) (z, l, b, inr (refl, omega arith)) (narrower nodes u v) h w (λ i. rw (← e) (k i))

    pub pass_pair : limit < weight_of_places net t links u v → LightMarked net t links rank (InRows nodes u (v + 1)) limit table
    pass_pair w = marked-heavy (wider nodes u v) (z, l, b, inr (refl, omega arith)) (narrower nodes u v) h w

  -- a run of heavier ones
  so_many : (u from n : ℕ) → 0 < u → u ≤ from → from + n ≤ nodes → ((v : ℕ) → from ≤ v → v < from + n → limit < weight_of_places net t links u v)
      → LightMarked net t links rank (InRows nodes u from) limit table
      → LightMarked net t links rank (InRows nodes u (from + n)) limit table
  so_many u from zero z l b w h = subst (λ (v : ℕ). LightMarked net t links rank (InRows nodes u v) limit table) (omega arith) h
  so_many u from (suc n) z l b w h =
      subst (λ (v : ℕ). LightMarked net t links rank (InRows nodes u v) limit table) (omega arith)
      (pass_pair u (from + n) z (omega arith) (omega arith) (so_many u from n z l (omega arith) (λ v a d. w v a (omega arith)) h) (w (from + n) (omega arith) (omega arith)))

  pub pass_run : (u from to : ℕ) → 0 < u → u ≤ from → from ≤ to → to ≤ nodes → ((v : ℕ) → from ≤ v → v < to → limit < weight_of_places net t links u v)
      → LightMarked net t links rank (InRows nodes u from) limit table → LightMarked net t links rank (InRows nodes u to) limit table
  pass_run u from to z l a b w h =
      subst (λ (v : ℕ). LightMarked net t links rank (InRows nodes u v) limit table) (omega arith)
      (so_many u from (to - from) z l (omega arith) (λ v p q. w v p (omega arith)) h)
