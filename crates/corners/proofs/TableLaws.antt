-- Tables of four rows of four, by their entries, and one with an entry raised.
--   raised t x y w    the table t with w added in row x, column y
-- Assumes nothing.
use Prim.Native.Nat.{ℕ, ◌+◌, ◌*◌, ◌<◌}
use mathlib.Core.Path.{◌≡◌, sym, ◌∙◌}
use mathlib.Core.Logic.{◌⊎◌, inl, inr}
use mathlib.Core.Bool.{true, false, ◌&&◌}
use mathlib.Core.List.{List, []}
use native.Mathlib.Omega.{arith}
use lib.ListN.{length, get_or, set, length-set}
use lib.Seq.{get_or-set_same, get_or-set_other, ext_get_or}
use lib.Dec.{eqb}
use borrow.Author.Tests.{eqb-true, eqb-false}
use Rattle.cuts.specs.Sums.{only, table}
use Rattle.cuts.proofs.FlagLaws.{truth}
use Rattle.cuts.proofs.SumLaws.{table-length, table_at}
use Rattle.corners.specs.Corners.{Four, cell}
use Rattle.corners.specs.CornersTold.{table_read}

unfoldable pub raised : List (List ℕ) → ℕ → ℕ → ℕ → List (List ℕ)
raised t x y w = set t x (set (get_or t x []) y (cell t x y + w))

pub four_ext : (t u : List (List ℕ)) → Four t → Four u → ((i j : ℕ) → i < 4 → j < 4 → cell t i j ≡ cell u i j) → t ≡ u
four_ext t u p q h =
    ext_get_or [] t u (p.rows ∙ sym q.rows) (λ i b.
    let c : i < 4 = let e = p.rows in omega arith in
    ext_get_or 0 (get_or t i []) (get_or u i []) (p.columns i c ∙ sym (q.columns i c)) (λ j d. h i j c (let e = p.columns i c in omega arith)))

module _ (f : ℕ → ℕ → ℕ) where
  pub table-four : Four (table 4 (λ i. table 4 (λ j. f i j)))
  table-four = record {
    rows = table-length 4 (λ i. table 4 (λ j. f i j));
    columns = λ i b. rw (table_at [] 4 (λ i. table 4 (λ j. f i j)) i b) (table-length 4 (λ j. f i j));
  }

  pub table-cell : (i j : ℕ) → i < 4 → j < 4 → cell (table 4 (λ i. table 4 (λ j. f i j))) i j ≡ f i j
  table-cell i j b c = rw (table_at [] 4 (λ i. table 4 (λ j. f i j)) i b) (table_at 0 4 (λ j. f i j) j c)

-- ---- an entry raised

pub raised-four : (t : List (List ℕ)) (x y w : ℕ) → Four t → Four (raised t x y w)
unfolding raised
raised-four t x y w f = record {
  rows = length-set t x _ ∙ f.rows;
  columns = λ i b. step i b (truth (eqb x i));
}
  where
    v : List ℕ
    v = set (get_or t x []) y (get_or (get_or t x []) y 0 + w)

    step : (i : ℕ) → i < 4 → (eqb x i ≡ true) ⊎ (eqb x i ≡ false) → length (get_or (set t x v) i []) ≡ 4
    step i b (inl q) =
        let e = eqb-true x i q in
        rw (← e) (rw (get_or-set_same t x v [] (let l = f.rows in omega arith)) (length-set (get_or t x []) y _ ∙ f.columns x (omega arith)))
    step i b (inr q) = rw (get_or-set_other t x i v [] (λ e. eqb-false x i q (sym e))) (f.columns i b)

pub raised_at : (t : List (List ℕ)) (x y w : ℕ) → Four t → (i j : ℕ) → i < 4 → j < 4
    → cell (raised t x y w) i j ≡ cell t i j + only (eqb x i && eqb y j) w
unfolding raised
raised_at t x y w f i j b c = step (truth (eqb x i)) (truth (eqb y j))
  where
    old : ℕ
    old = get_or (get_or t x []) y 0

    v : List ℕ
    v = set (get_or t x []) y (old + w)

    in_row : x ≡ i → get_or (set t x v) i [] ≡ v
    in_row e = rw (← e) (get_or-set_same t x v [] (let l = f.rows in omega arith))

    step : (eqb x i ≡ true) ⊎ (eqb x i ≡ false) → (eqb y j ≡ true) ⊎ (eqb y j ≡ false)
        → get_or (get_or (set t x v) i []) j 0 ≡ cell t i j + only (eqb x i && eqb y j) w
    step (inl p) (inl q) =
        let d = eqb-true x i p in let e = eqb-true y j q in
        rw (p, q, in_row d, ← d, ← e) (get_or-set_same (get_or t x []) y (old + w) 0 (let l = f.columns x (omega arith) in omega arith))
    step (inl p) (inr q) =
        let d = eqb-true x i p in
        rw (p, q, in_row d, ← d) (let a = get_or-set_other (get_or t x []) y j (old + w) 0 (λ e. eqb-false y j q (sym e)) in omega arith)
    step (inr p) q = rw (p, get_or-set_other t x i v [] (λ e. eqb-false x i p (sym e))) (omega arith)

-- ---- rows one behind the other

-- what stands in 16 numbers is read back
pub table_read-is : (cells : List ℕ) (t : List (List ℕ)) → Four t → ((i j : ℕ) → i < 4 → j < 4 → get_or cells (4 * i + j) 0 ≡ cell t i j) → table_read cells ≡ t
unfolding table_read
table_read-is cells t f h =
    four_ext _ t (table-four (λ i j. get_or cells (4 * i + j) 0)) f (λ i j b c. table-cell (λ i j. get_or cells (4 * i + j) 0) i j b c ∙ h i j b c)
