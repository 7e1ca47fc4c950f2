-- A row made from the row behind it: where it starts, one node's links more, and the weights read off.
-- Assumes nothing.
use Rattle.std.proofs.Common.{◌≡◌, ℕ, zero, suc, ◌+◌, ◌^◌, ◌<◌, ◌≤◌, ◌⊎◌, List, ◌++◌, length, set, replicate, sym, refl, ap, ◌∙◌, inl, inr, eq-or-lt_of_le, arith, get_or-set_other, get_or-set_same}
use Rattle.cuts.specs.Network.{Tree, Network}
use Rattle.cuts.specs.Candidate.{one, weight_of}
use Rattle.cuts.specs.Limits.{Light}
use Rattle.arrays.specs.Lists.{entry}
use Rattle.arrays.specs.Kept.{Kept}
use Rattle.tree_places.proofs.StopLaws.{stops_nest}
use Rattle.search_order.specs.Visits.{handle_at}
use Rattle.tree_rows.specs.declared.Figures.{Figures}
use Rattle.tree_rows.specs.Rows.{tally, Added, Tallied, Summed, RowTallied, Row}
use Rattle.tree_rows.specs.Making.{RowStart}
use Rattle.tree_rows.proofs.CrossLaws.{tally_join, tally-none, tally-small, crossing-small}
use Rattle.tree_rows.proofs.PairLaws.{single-sum, pair-sum, pair-room}
use Rattle.tree_rows.proofs.WrapLaws.{less, more, wrap_pair}

-- behind the last place there is no row yet
pub row_end : (net : Network) (t : Tree) (place stops links : List ℕ) (u : ℕ) (figures : Figures) → net.nodes ≤ u → Row net t place stops links u figures
row_end net t place stops links u figures l = record { tallied = λ b. absurd (omega arith); summed = λ b. absurd (omega arith); alone = λ v a b. absurd (omega arith) }

-- ---- where a row starts

-- numbers cleared in front
pub cleared : {f : List ℕ} {m n : ℕ} (rest : List ℕ) → f ≡ replicate m 0 → m ≡ n → (y : ℕ) → y < n → entry (f ++ rest) y ≡ 0
cleared {f} {m} {n} rest e q y b = ap (λ (l : List ℕ). entry (l ++ rest) y) e ∙ zeros m y (omega arith) where
  zeros : (n y : ℕ) → y < n → entry (replicate n 0 ++ rest) y ≡ 0
  zeros zero y b = absurd (omega arith)
  zeros (suc n) zero b = refl
  zeros (suc n) (suc y) b = zeros n y (omega arith)

module _ {net : Network} {t : Tree} {place node stops links : List ℕ} (w : Kept net t place node stops links) where
  pub start-child : {f : List ℕ} (u : ℕ) → 0 < u → u < net.nodes → suc u < entry stops u → RowTallied net place stops (suc u) f
      → RowStart net place stops u (entry stops (suc u)) f
  start-child u z b c h =
      let d : suc u < net.nodes = omega (arith, w.most u b) in
      record { behind = omega (arith, w.some (suc u) d); up_to = stops_nest w u (suc u) z (omega arith) d c; tallied = h d }

  pub start_leaf : {f : List ℕ} (u : ℕ) → u < net.nodes → ((y : ℕ) → y < net.nodes → entry f y ≡ 0) → RowStart net place stops u (suc u) f
  start_leaf u b h = record {
    behind = omega arith;
    up_to = w.some u b;
    tallied = record { is = λ y c. h y c ∙ sym (tally-none net place (suc u) (suc u) y (omega arith)) };
  }

  -- ---- one node more

  module _ (l : Light net) {f g : List ℕ} (p : ℕ) (b : p < net.nodes) (d : Added net place (entry place (entry node p)) f g) where
    added_at : (y : ℕ) → y < net.nodes → (sum : ℕ) → entry f y + tally net place p (suc p) y ≡ sum → sum < 2 ^ 64 → entry g y ≡ sum
    added_at y c sum e s = let q = w.forth p b in rw q at (d.is y c) (omega arith) ∙ e

    -- behind a run
    pub tallied_behind : (from : ℕ) → from ≤ p → Tallied net place from p f → Tallied net place from (suc p) g
    tallied_behind from a h = record {
      is = λ y c.
          let j = tally_join net place from p (suc p) y a (omega arith) in
          let s = tally-small net place l from (suc p) y in
          let i = h.is y c in
          added_at y c (tally net place from (suc p) y) (omega arith) (omega arith);
    }

    -- in front of a run
    pub tallied_front : (to : ℕ) → suc p ≤ to → Tallied net place (suc p) to f → Tallied net place p to g
    tallied_front to a h = record {
      is = λ y c.
          let j = tally_join net place p (suc p) to y (omega arith) a in
          let s = tally-small net place l p to y in
          let i = h.is y c in
          added_at y c (tally net place p to y) (omega arith) (omega arith);
    }

-- ---- the weights

module _ {net : Network} {t : Tree} {place node stops links : List ℕ} (w : Kept net t place node stops links) (u : ℕ) (z : 0 < u) where
  -- from the tallies and sums of u and the singles behind it
  pub row_made : {before figures : Figures} → u < net.nodes → Row net t place stops links (suc u) before
      → Tallied net place u (entry stops u) figures.tallies → Summed net place u (entry stops u) net.nodes figures.sums
      → figures.singles ≡ set before.singles u (entry figures.sums (entry stops u)) → u < length before.singles
      → Row net t place stops links u figures
  row_made {before} {figures} b r k m o i = record { tallied = λ _. k; summed = λ _. m; alone = λ v a d. go v d (eq-or-lt_of_le a) }
    where
      at : (v : ℕ) → entry figures.singles v ≡ entry (set before.singles u (entry figures.sums (entry stops u))) v
      at v = ap (λ (l : List ℕ). entry l v) o

      go : (v : ℕ) → v < net.nodes → (u ≡ v) ⊎ (u < v) → entry figures.singles v ≡ weight_of net t (one (entry links v))
      go v d (inl q) =
          rw (← q)
          (at u ∙ get_or-set_same before.singles u _ 0 i ∙ m.is (entry stops u) (omega (arith, w.some u b)) (w.most u b) ∙ sym (single-sum w u z b))
      go v d (inr q) = at v ∙ get_or-set_other before.singles u v _ 0 (λ n. omega arith) ∙ r.alone v q d

  pub row-pair : {figures : Figures} → Light net → Row net t place stops links u figures → (v : ℕ) → u < v → v < net.nodes
      → less (more (entry figures.singles u) (entry figures.singles v))
      (more (less (entry figures.sums (entry stops v)) (entry figures.sums v)) (less (entry figures.sums (entry stops v)) (entry figures.sums v)))
      ≡ weight_of net t (handle_at links u v)
  row-pair {figures} l k v a b =
      let c : u < net.nodes = omega arith in
      let x = (k.summed c).is v (omega arith) (omega arith) in
      let y = (k.summed c).is (entry stops v) (omega (arith, w.some v b)) (w.most v b) in
      let su = k.alone u (omega arith) c in
      let sv = k.alone v (omega arith) b in
      let o = pair-room w u v z a b in
      let tu = single-sum w u z c in
      let tv = single-sum w v (omega arith) b in
      let bu = crossing-small net place l u (entry stops u) u (entry stops u) in
      let bv = crossing-small net place l v (entry stops v) v (entry stops v) in
      let by = crossing-small net place l u (entry stops u) u (entry stops v) in
      wrap_pair (entry figures.singles u) (entry figures.singles v) (entry figures.sums (entry stops v)) (entry figures.sums v)
      (omega (arith, o.0)) (omega (arith, y)) (rw (x, y, su, sv) o.1) (omega arith)
      ∙ rw (x, y, su, sv) (sym (pair-sum w u v z a b))
