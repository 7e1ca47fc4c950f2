-- Adding the links of one node, link by link, to a number for each place.
-- Assumes nothing.
use Rattle.std.proofs.Common.{◌≡◌, ℕ, suc, ◌+◌, ◌%◌, ◌^◌, ◌<◌, ◌≤◌, true, false, eqb, ◌⊎◌, List, length, set, sym, ap, ◌∙◌, inl, inr, add-one, arith, get_or-set_other, get_or-set_same, eqb-true}
use borrow.Author.Tests.{eqb-false}
use Rattle.cuts.specs.Sums.{sum_to, only}
use Rattle.cuts.proofs.FlagLaws.{truth}
use Rattle.cuts.proofs.SumLaws.{sum_less}
use Rattle.arrays.specs.Lists.{entry}
use Rattle.tree_rows.proofs.WrapLaws.{wrap_add}

-- f is f₀ with g y 0, .., g y (i - 1) added to each number y, wherever all of them up to `end` fit
pub record Adding (f₀ f : List ℕ) (g : ℕ → ℕ → ℕ) (i end : ℕ) : Type 0 where
  pub is : (y : ℕ) → entry f₀ y + sum_to end (g y) < 2 ^ 64 → entry f y ≡ entry f₀ y + sum_to i (g y)

pub adding_start : (f : List ℕ) (g : ℕ → ℕ → ℕ) (end : ℕ) → Adding f f g 0 end
unfolding sum_to
adding_start f g end = record { is = λ y l. omega arith }

pub adding_more : {f₀ f : List ℕ} {g : ℕ → ℕ → ℕ} {i end : ℕ} (z w r : ℕ) → Adding f₀ f g i end → i < end → z < length f
    → ((y : ℕ) → g y i ≡ only (eqb z y) w) → r ≡ (entry f z + w) % 2 ^ 64 → Adding f₀ (set f z r) g (i + 1) end
unfolding sum_to
adding_more {f₀} {f} {g} {i} {end} z w r k b c e h = rw add-one (record { is = at })
  where
    go : (y : ℕ) → entry f₀ y + sum_to end (g y) < 2 ^ 64 → sum_to i (g y) + g y i ≤ sum_to end (g y) → entry f y ≡ entry f₀ y + sum_to i (g y)
        → g y i ≡ only (eqb z y) w → (eqb z y ≡ true) ⊎ (eqb z y ≡ false) → entry (set f z r) y ≡ entry f₀ y + (sum_to i (g y) + g y i)
    go y l m p q (inl x) =
        let v : g y i ≡ w = q ∙ rw x in
        let s : entry f z ≡ entry f y = ap (entry f) (eqb-true z y x) in
        let t = wrap_add (entry f z) w h (omega arith) in
        let u : entry (set f z r) y ≡ r = ap (entry (set f z r)) (sym (eqb-true z y x)) ∙ get_or-set_same f z r 0 c in
        omega arith
    go y l m p q (inr x) =
        let v : g y i ≡ 0 = q ∙ rw x in
        let u = get_or-set_other f z y r 0 (λ n. eqb-false z y x (sym n)) in
        omega arith

    at : (y : ℕ) → entry f₀ y + sum_to end (g y) < 2 ^ 64 → entry (set f z r) y ≡ entry f₀ y + sum_to (suc i) (g y)
    at y l = go y l (sum_less (suc i) end (g y) b) (k.is y l) (e y) (truth (eqb z y))
