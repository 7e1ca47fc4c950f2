-- The table of the weights between the corners of two sides: its entries add up to what the sides and the corners weigh, and two lightest sides
-- that cross have Lemma 2.2's table, since the four corners together weigh twice both sides less twice what goes between opposite corners.
--   corner_weight_to m net r s i j   the weight of those of the first m links that go between the corners i and j
--   corner_table_to m net r s        the table as it is filled link by link, with the first m links
-- Assumes nothing.
use Prim.Native.Nat.{ℕ, zero, suc, ◌+◌, ◌*◌, ◌≤◌, ◌<◌}
use mathlib.Core.Path.{◌≡◌, refl, sym, ap, ap₂, ◌∙◌, subst}
use mathlib.Core.Logic.{◌⊎◌, inl, inr}
use mathlib.Core.Bool.{Bool, true, false, ◌&&◌, ◌||◌, not}
use mathlib.Core.List.{List}
use native.Mathlib.Omega.{arith}
use lib.Dec.{eqb}
use borrow.Author.Tests.{eqb-true, eqb-false, eq-eqb, ne_eqb}
use Rattle.cuts.specs.Sums.{sum_to, only, table}
use Rattle.cuts.specs.Network.{Network, Linked, flag, link_at, link_count}
use Rattle.cuts.specs.Cut.{Side, Proper, crosses, cut_weight, size}
use Rattle.cuts.proofs.FlagLaws.{truth}
use Rattle.cuts.proofs.SumLaws.{sum_congr, sum_mono, sum_const, sum-zero, count-lacks, count-last, table-length, table_at}
use Rattle.cuts.proofs.CutLaws.{crosses-is}
use Rattle.corners.specs.Corners.{both, first_only, second_only, neither, corner_of, corner_side, joins, weight_between, corner_weight, corner_table, cell, Four, Lightest, Cornered, OwedCorners}
use Rattle.corners.specs.CornersTold.{no_table}
use Rattle.corners.proofs.TableLaws.{raised, four_ext, table-four, table-cell, raised-four, raised_at}
use Rattle.corners.proofs.EndLaws.{goes, sum-four, part-first, part-second, part-row, goes-mirror, goes_same, goes_raise}

unfoldable pub corner_weight_to : ℕ → Network → Side → Side → ℕ → ℕ → ℕ
unfolding sum_to
corner_weight_to m net r s i j =
    sum_to m (λ k. only (goes i j (corner_of r s (link_at net k).first) (corner_of r s (link_at net k).second)) (link_at net k).weight)

unfoldable pub corner_table_to : ℕ → Network → Side → Side → List (List ℕ)
unfolding table corner_weight_to
corner_table_to m net r s = table 4 (λ i. table 4 (λ j. corner_weight_to m net r s i j))

-- what holds of each corner
each : (P : ℕ → Type 0) → P 0 → P 1 → P 2 → P 3 → (i : ℕ) → i < 4 → P i
each P a b c d zero l = a
each P a b c d (suc zero) l = b
each P a b c d (suc (suc zero)) l = c
each P a b c d (suc (suc (suc zero))) l = d
each P a b c d (suc (suc (suc (suc i)))) l = absurd (omega arith)

module _ (net : Network) (r s : Side) where
  -- link k goes between the corners i and j
  abbrev along : ℕ → ℕ → ℕ → Bool
  along i j k = goes i j (corner_of r s (link_at net k).first) (corner_of r s (link_at net k).second)

  abbrev weight : ℕ → ℕ → ℕ
  weight i j = corner_weight_to (link_count net) net r s i j

  -- ---- the entries

  weight-mirror : (i j : ℕ) → weight i j ≡ weight j i
  unfolding corner_weight_to
  weight-mirror i j =
      sum_congr (link_count net) _ _ (λ k _. ap (λ (b : Bool). only b (link_at net k).weight)
      (goes-mirror i j (corner_of r s (link_at net k).first) (corner_of r s (link_at net k).second)))

  weight-diagonal : (i : ℕ) → weight i i ≡ 0
  unfolding corner_weight_to
  weight-diagonal i = sum-zero (link_count net) _ (λ k _. rw (eq-eqb i i refl))

  pub corner_table_to-four : (m : ℕ) → Four (corner_table_to m net r s)
  unfolding corner_table_to
  corner_table_to-four m = table-four (λ i j. corner_weight_to m net r s i j)

  pub corner_table_to-cell : (m i j : ℕ) → i < 4 → j < 4 → cell (corner_table_to m net r s) i j ≡ corner_weight_to m net r s i j
  unfolding corner_table_to
  corner_table_to-cell m i j b c = table-cell (λ i j. corner_weight_to m net r s i j) i j b c

  pub corner_table-four : Four (corner_table net r s)
  unfolding corner_table
  corner_table-four = table-four (corner_weight net r s)

  -- rows of the first side's two corners, columns of the other two; likewise for the second
  weight-first : weight both second_only + weight both neither + weight first_only second_only + weight first_only neither ≡ cut_weight net r
  unfolding corner_weight_to cut_weight
  weight-first =
      sum-four (link_count net) (λ k. (link_at net k).weight) (along 0 2) (along 0 3) (along 1 2) (along 1 3) (crosses net r) (λ k _. rw (crosses-is net r k)
      (part-first (flag r (link_at net k).first) (flag s (link_at net k).first) (flag r (link_at net k).second) (flag s (link_at net k).second)))

  weight-second : weight both first_only + weight both neither + weight second_only first_only + weight second_only neither ≡ cut_weight net s
  unfolding corner_weight_to cut_weight
  weight-second =
      sum-four (link_count net) (λ k. (link_at net k).weight) (along 0 1) (along 0 3) (along 2 1) (along 2 3) (crosses net s) (λ k _. rw (crosses-is net s k)
      (part-second (flag r (link_at net k).first) (flag s (link_at net k).first) (flag r (link_at net k).second) (flag s (link_at net k).second)))

  -- ---- filled link by link

  pub corner_table_to-zero : corner_table_to 0 net r s ≡ no_table
  unfolding corner_table_to
  corner_table_to-zero = refl

  weight_to_suc : (m i j : ℕ) → corner_weight_to (suc m) net r s i j ≡ corner_weight_to m net r s i j + only (along i j m) (link_at net m).weight
  unfolding corner_weight_to
  weight_to_suc m i j = refl

  -- a link within one corner leaves the table, any other raises two entries that mirror each other
  pub corner_table_to-same : (m : ℕ) → corner_of r s (link_at net m).first ≡ corner_of r s (link_at net m).second
      → corner_table_to m net r s ≡ corner_table_to (suc m) net r s
  corner_table_to-same m e =
      four_ext _ _ (corner_table_to-four m) (corner_table_to-four (suc m)) (λ i j b c.
      let f = weight_to_suc m i j in
      let n = rw (goes_same i j (corner_of r s (link_at net m).first) (corner_of r s (link_at net m).second) e) at f in
      let k = corner_table_to-cell m i j b c in
      let z = corner_table_to-cell (suc m) i j b c in
      omega arith)

  pub corner_table_to-raised : (m x y : ℕ) → corner_of r s (link_at net m).first ≡ x → corner_of r s (link_at net m).second ≡ y → (x ≡ y → ⊥)
      → raised (raised (corner_table_to m net r s) x y (link_at net m).weight) y x (link_at net m).weight ≡ corner_table_to (suc m) net r s
  corner_table_to-raised m x y p q n =
      let w : ℕ = (link_at net m).weight in
      let t : List (List ℕ) = corner_table_to m net r s in
      let u : Four (raised t x y w) = raised-four t x y w (corner_table_to-four m) in
      four_ext _ _ (raised-four (raised t x y w) y x w u) (corner_table_to-four (suc m)) (λ i j b c.
      let f = weight_to_suc m i j in
      let g = rw (p, q) at f in
      let h = goes_raise i j x y w n in
      let a = raised_at t x y w (corner_table_to-four m) i j b c in
      let d = raised_at (raised t x y w) y x w u i j b c in
      let k = corner_table_to-cell m i j b c in
      let z = corner_table_to-cell (suc m) i j b c in
      omega arith)

  -- no entry is more than the first m links weigh together, each at most w
  pub corner_table_to-most : (m w : ℕ) → ((k : ℕ) → k < m → (link_at net k).weight ≤ w) → (i j : ℕ) → i < 4 → j < 4 → cell (corner_table_to m net r s) i j ≤ m * w
  unfolding corner_weight_to
  corner_table_to-most m w h i j b c =
      let e = corner_table_to-cell m i j b c in
      let a = sum_mono m (λ k. only (along i j k) (link_at net k).weight) (λ k. w) (λ k d. at_most (along i j k) (h k d)) in
      let d = sum_const m w in
      omega arith
    where
      at_most : (c : Bool) {x : ℕ} → x ≤ w → only c x ≤ w
      at_most true l = l
      at_most false l = omega arith

  -- ---- Lemma 2.2

  module _ (l : Linked net) where
    first-flag : (i k : ℕ) → k < link_count net → flag (corner_side net r s i) (link_at net k).first ≡ eqb (corner_of r s (link_at net k).first) i
    unfolding corner_side
    first-flag i k c = table_at false net.nodes (λ x. eqb (corner_of r s x) i) (link_at net k).first (l.first_in k c)

    second-flag : (i k : ℕ) → k < link_count net → flag (corner_side net r s i) (link_at net k).second ≡ eqb (corner_of r s (link_at net k).second) i
    unfolding corner_side
    second-flag i k c = table_at false net.nodes (λ x. eqb (corner_of r s x) i) (link_at net k).second (l.second_in k c)

    along-joins : (i j : ℕ) → (i ≡ j → ⊥) → (k : ℕ) → k < link_count net → along i j k ≡ joins net (corner_side net r s i) (corner_side net r s j) k
    along-joins i j n k c =
        ap (λ (b : Bool). not b && (eqb (x k) i && eqb (y k) j || eqb (y k) i && eqb (x k) j)) (ne_eqb i j n)
        ∙ sym (ap₂ ◌||◌ (ap₂ ◌&&◌ (first-flag i k c) (second-flag j k c)) (ap₂ ◌&&◌ (second-flag i k c) (first-flag j k c)))
      where
        x : ℕ → ℕ
        x k = corner_of r s (link_at net k).first

        y : ℕ → ℕ
        y k = corner_of r s (link_at net k).second

    weight-between : (i j : ℕ) → (i ≡ j → ⊥) → weight i j ≡ weight_between net (corner_side net r s i) (corner_side net r s j)
    unfolding corner_weight_to weight_between
    weight-between i j n =
        sum_congr (link_count net) _ _ (λ k c. ap (λ (b : Bool). only b (link_at net k).weight) (along-joins i j n k c))

    -- the table filled with all links is the table
    corner_weight-is : (i j : ℕ) → (eqb i j ≡ true) ⊎ (eqb i j ≡ false) → corner_weight net r s i j ≡ weight i j
    unfolding corner_weight
    corner_weight-is i j (inl e) =
        ap (λ (b : Bool). only (not b) (weight_between net (corner_side net r s i) (corner_side net r s j))) e
        ∙ subst (λ (k : ℕ). 0 ≡ weight i k) (eqb-true i j e) (sym (weight-diagonal i))
    corner_weight-is i j (inr e) =
        ap (λ (b : Bool). only (not b) (weight_between net (corner_side net r s i) (corner_side net r s j))) e
        ∙ sym (weight-between i j (eqb-false i j e))

    corner_table-cell : (i j : ℕ) → i < 4 → j < 4 → cell (corner_table net r s) i j ≡ weight i j
    unfolding corner_table
    corner_table-cell i j b c = table-cell (corner_weight net r s) i j b c ∙ corner_weight-is i j (truth (eqb i j))

    pub corner_table-filled : corner_table_to (link_count net) net r s ≡ corner_table net r s
    corner_table-filled =
        four_ext _ _ (corner_table_to-four (link_count net)) corner_table-four
        (λ i j b c. corner_table_to-cell (link_count net) i j b c ∙ sym (corner_table-cell i j b c))

    -- a corner weighs what its row adds up to
    corner-row : (i : ℕ) → i < 4 → weight i 0 + weight i 1 + weight i 2 + weight i 3 ≡ cut_weight net (corner_side net r s i)
    unfolding corner_weight_to cut_weight
    corner-row i b =
        sum-four (link_count net) (λ k. (link_at net k).weight) (along i 0) (along i 1) (along i 2) (along i 3) (crosses net (corner_side net r s i))
        (λ k c. rw (crosses-is net (corner_side net r s i) k, first-flag i k c, second-flag i k c)
        (part-row i b (flag r (link_at net k).first) (flag s (link_at net k).first) (flag r (link_at net k).second) (flag s (link_at net k).second)))

    module _ (some : Cornered net r s) where
      -- where no corner is empty each is a side
      corner-proper : (i j : ℕ) → i < 4 → j < 4 → (i ≡ j → ⊥) → Proper net (corner_side net r s i)
      unfolding corner_side size
      corner-proper i j b c n =
          let y = count-last net.nodes (flag (corner_side net r s j)) (some j c) in
          let e : corner_of r s y.at ≡ j =
          eqb-true _ j (sym (table_at false net.nodes (λ x. eqb (corner_of r s x) j) y.at y.under) ∙ y.holds) in
          record {
            sized = table-length net.nodes _;
            not_empty = some i b;
            not_full = count-lacks net.nodes (flag (corner_side net r s i)) y.at y.under
                (table_at false net.nodes (λ x. eqb (corner_of r s x) i) y.at y.under ∙ ne_eqb (corner_of r s y.at) i (λ q. n (sym q ∙ e)));
          }

      module _ (first : Lightest net r) (second : Lightest net s) where
        -- the four corners weigh at least four times the least; so do both sides twice, and what goes between opposite corners counts
        -- twice more in the sides
        crossing : ((i : ℕ) → i < 4 → cut_weight net (corner_side net r s i) ≡ cut_weight net r) × (weight both neither ≡ 0) × (weight first_only second_only ≡ 0)
        crossing =
            let a = first.least s second.proper in let b = second.least r first.proper in
            let l0 = first.least _ (corner-proper 0 1 (omega arith) (omega arith) (λ e. omega arith)) in
            let l1 = first.least _ (corner-proper 1 0 (omega arith) (omega arith) (λ e. omega arith)) in
            let l2 = first.least _ (corner-proper 2 0 (omega arith) (omega arith) (λ e. omega arith)) in
            let l3 = first.least _ (corner-proper 3 0 (omega arith) (omega arith) (λ e. omega arith)) in
            let r0 = corner-row 0 (omega arith) in let r1 = corner-row 1 (omega arith) in
            let r2 = corner-row 2 (omega arith) in let r3 = corner-row 3 (omega arith) in
            let d0 = weight-diagonal 0 in let d1 = weight-diagonal 1 in let d2 = weight-diagonal 2 in let d3 = weight-diagonal 3 in
            let m1 = weight-mirror 0 1 in let m2 = weight-mirror 0 2 in let m3 = weight-mirror 0 3 in
            let m4 = weight-mirror 1 2 in let m5 = weight-mirror 1 3 in let m6 = weight-mirror 2 3 in
            let f = weight-first in let g = weight-second in
            (each (λ i. cut_weight net (corner_side net r s i) ≡ cut_weight net r) (omega arith) (omega arith) (omega arith) (omega arith), omega arith, omega arith)

        corner_least : (i : ℕ) → i < 4 → Lightest net (corner_side net r s i)
        corner_least i b = record {
          proper = each (λ i. Proper net (corner_side net r s i))
              (corner-proper 0 1 (omega arith) (omega arith) (λ e. omega arith)) (corner-proper 1 0 (omega arith) (omega arith) (λ e. omega arith))
              (corner-proper 2 0 (omega arith) (omega arith) (λ e. omega arith)) (corner-proper 3 0 (omega arith) (omega arith) (λ e. omega arith)) i b;
          least = λ u p. let e = crossing.0 i b in let k = first.least u p in omega arith;
        }

    -- ---- what is owed of the table

    pub table_owed : OwedCorners net r s (corner_table net r s)
    table_owed =
        let at : (i j : ℕ) → i < 4 → j < 4 → cell (corner_table net r s) i j ≡ weight i j = corner_table-cell in
        record {
          four = corner_table-four;
          between = λ i j b c d. at i j b c ∙ weight-between i j d;
          diagonal = λ i b. at i i b b ∙ weight-diagonal i;
          mirror = λ i j b c. at i j b c ∙ weight-mirror i j ∙ sym (at j i c b);
          first_adds = rw (at 0 2 (omega arith) (omega arith), at 0 3 (omega arith) (omega arith), at 1 2 (omega arith) (omega arith), at 1 3 (omega arith) (omega arith)) weight-first;
          second_adds = rw (at 0 1 (omega arith) (omega arith), at 0 3 (omega arith) (omega arith), at 2 1 (omega arith) (omega arith), at 2 3 (omega arith) (omega arith)) weight-second;
          corners_least = λ first second some. corner_least some first second;
          opposite = λ first second some. let c = crossing some first second in (at 0 3 (omega arith) (omega arith) ∙ c.1, at 1 2 (omega arith) (omega arith) ∙ c.2);
        }

    -- and of no other
    pub owed_table : (t : List (List ℕ)) → OwedCorners net r s t → t ≡ corner_table net r s
    owed_table t o =
        four_ext t (corner_table net r s) o.four corner_table-four (λ i j b c. step i j b c (truth (eqb i j)))
      where
        step : (i j : ℕ) → i < 4 → j < 4 → (eqb i j ≡ true) ⊎ (eqb i j ≡ false) → cell t i j ≡ cell (corner_table net r s) i j
        step i j b c (inl e) =
            let q = eqb-true i j e in subst (λ (k : ℕ). cell t i k ≡ cell (corner_table net r s) i k) q (o.diagonal i b ∙ sym (table_owed.diagonal i b))
        step i j b c (inr e) = let n = eqb-false i j e in o.between i j b c n ∙ sym (table_owed.between i j b c n)

    -- a corner weighs what its row adds up to
    pub row_weighs : (t : List (List ℕ)) → OwedCorners net r s t → (i : ℕ) → i < 4
        → cell t i both + cell t i first_only + cell t i second_only + cell t i neither ≡ cut_weight net (corner_side net r s i)
    row_weighs t o i b =
        rw (owed_table t o, corner_table-cell i 0 b (omega arith), corner_table-cell i 1 b (omega arith), corner_table-cell i 2 b (omega arith), corner_table-cell i 3 b (omega arith)) (corner-row i b)
