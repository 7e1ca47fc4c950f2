-- The sums of what crosses the places below a link, place by place.
-- Assumes nothing.
use Rattle.std.proofs.Common.{◌≡◌, ℕ, suc, ◌+◌, ◌%◌, ◌^◌, ◌<◌, ◌≤◌, ◌⊎◌, List, length, set, sym, ap, ◌∙◌, inl, inr, eq-or-lt_of_le, add-one, arith, get_or-set_other, get_or-set_same}
use Rattle.cuts.specs.Network.{Network}
use Rattle.cuts.specs.Limits.{Light}
use Rattle.arrays.specs.Lists.{entry}
use Rattle.tree_places.proofs.WithinLaws.{within_in, within-behind}
use Rattle.tree_rows.specs.Rows.{sum_over, crossing, PlaceDegrees, Tallied, Summed}
use Rattle.tree_rows.specs.Making.{Summable}
use Rattle.tree_rows.proofs.OverLaws.{over_none, over-suc}
use Rattle.tree_rows.proofs.CrossLaws.{tally-most, degree-small, crossing-small}
use Rattle.tree_rows.proofs.WrapLaws.{less, wrap_add, wrap_sub}

-- ---- what crosses at a place, and one sum more

module _ {net : Network} {place : List ℕ} (l : Light net) (u s : ℕ) where
  -- what crosses at one of the places: the difference
  pub crossing_in : {f degrees : List ℕ} → PlaceDegrees net place degrees → Tallied net place u s f → (y : ℕ) → y < net.nodes → u ≤ y → y < s
      → less (entry degrees y) (entry f y) ≡ crossing net place u s y
  unfolding crossing
  crossing_in {f} {degrees} w k y c a b =
      let i = k.is y c in
      let j = w.is y c in
      let n = tally-most net place u s y in
      let m = degree-small net place l y in
      rw (within_in u s y a b) (wrap_sub (entry degrees y) (entry f y) (omega arith) (omega arith) ∙ omega arith)

  -- and elsewhere
  pub crossing_out : {f : List ℕ} → Tallied net place u s f → (y : ℕ) → y < net.nodes → s ≤ y → entry f y ≡ crossing net place u s y
  unfolding crossing
  crossing_out k y c b = rw (within-behind u s y b) (k.is y c)

  pub summed-start : (h : List ℕ) → u < length h → Summed net place u s u (set h u 0)
  summed-start h b = record { is = λ y a c. let e : y ≡ u = omega arith in rw e (get_or-set_same h u 0 0 b ∙ sym (over_none u u _ (omega arith))) }

  pub summed-more : {h : List ℕ} {d r : ℕ} (y : ℕ) → u ≤ y → y + 1 < length h → Summed net place u s y h → d ≡ crossing net place u s y → r ≡ (entry h y + d) % 2 ^ 64
      → Summed net place u s (y + 1) (set h (y + 1) r)
  summed-more {h} {d} {r} y a b k e m = record { is = λ z i j. go z i (eq-or-lt_of_le j) }
    where
      go : (z : ℕ) → u ≤ z → (z ≡ y + 1) ⊎ (z < y + 1) → entry (set h (y + 1) r) z ≡ sum_over u z (crossing net place u s)
      go z i (inl q) =
          let o = over-suc u y (crossing net place u s) a in
          let n = crossing-small net place l u s u (suc y) in
          let p = k.is y a (omega arith) in
          let v = wrap_add (entry h y) d m (omega arith) in
          rw (q, get_or-set_same h (y + 1) r 0 b, add-one) (omega arith)
      go z i (inr q) = get_or-set_other h (y + 1) z r 0 (λ n. omega arith) ∙ k.is z i (omega arith)

-- ---- one sum after the other

-- `sum` is the last of the sums up to y, which are made
pub record Summing (degrees tallies : List ℕ) (stop nodes u : ℕ) (sums : List ℕ) (sum y : ℕ) : Type 0 where
  pub so_far : (net : Network) (place : List ℕ) → Summable net place degrees tallies stop nodes u
      → (sum ≡ entry sums y) × Summed net place u stop y sums

module _ {degrees tallies : List ℕ} {stop nodes u : ℕ} where
  pub summing_start : (sums : List ℕ) → u < length sums → Summing degrees tallies stop nodes u (set sums u 0) 0 u
  summing_start sums b = record { so_far = λ net place g. (sym (get_or-set_same sums u 0 0 b), summed-start g.light u stop sums b) }

  pub summing_more : {sums : List ℕ} {sum y : ℕ} (d : ℕ) → Summing degrees tallies stop nodes u sums sum y → y + 1 < length sums
      → ((net : Network) (place : List ℕ) → Summable net place degrees tallies stop nodes u → (u ≤ y) × (d ≡ crossing net place u stop y))
      → Summing degrees tallies stop nodes u (set sums (y + 1) ((sum + d) % 2 ^ 64)) ((sum + d) % 2 ^ 64) (y + 1)
  summing_more {sums} {sum} {y} d s b c = record {
    so_far = λ net place g.
        let o = s.so_far net place g in
        let e = c net place g in (
          sym (get_or-set_same sums (y + 1) ((sum + d) % 2 ^ 64) 0 b),
          summed-more g.light u stop y e.0 b o.1 e.1 (ap (λ (n : ℕ). (n + d) % 2 ^ 64) o.0),
        );
  }

  -- what is added at a place: inside the run the difference, behind it the tally
  pub step_in : (y : ℕ) → u ≤ y → y < stop → {net : Network} {place : List ℕ} → Summable net place degrees tallies stop nodes u
      → (u ≤ y) × (less (entry degrees y) (entry tallies y) ≡ crossing net place u stop y)
  step_in y a b k =
      let i = k.inside in
      let n = k.sized in
      (a, crossing_in k.light u stop k.weighed k.tallied y (omega arith) a b)

  pub step_out : (y : ℕ) → stop ≤ y → y < nodes → {net : Network} {place : List ℕ} → Summable net place degrees tallies stop nodes u
      → (u ≤ y) × (entry tallies y ≡ crossing net place u stop y)
  step_out y a b k =
      let n = k.sized in
      let i = k.above in
      (omega arith, crossing_out k.light u stop k.tallied y (omega arith) a)
