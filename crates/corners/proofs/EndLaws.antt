-- Where a link goes, by the corners of its ends: it adds to a side's weight as its ends say, and raises two entries or none.
--   goes i j x y    a link with its ends in the corners x and y goes between the corners i and j, which differ
-- Assumes nothing.
use Prim.Native.Nat.{ℕ, zero, suc, ◌+◌, ◌*◌, ◌<◌}
use mathlib.Core.Path.{◌≡◌, refl, ap}
use mathlib.Core.Logic.{◌⊎◌, inl, inr}
use mathlib.Core.Bool.{Bool, true, false, ◌&&◌, ◌||◌, not, xor, and_comm, or_comm, and-eq-true_iff}
use native.Mathlib.Omega.{arith}
use lib.Dec.{eqb}
use borrow.Author.Tests.{eqb-true, eq-eqb, ne_eqb, not-true}
use Rattle.cuts.specs.Sums.{sum_to, only}
use Rattle.cuts.proofs.FlagLaws.{clash, truth, either, eqb_comm, one_table}
use Rattle.corners.specs.Corners.{corner}

abbrev pub goes : ℕ → ℕ → ℕ → ℕ → Bool
goes i j x y = not (eqb i j) && (eqb x i && eqb y j || eqb y i && eqb x j)

-- the numbers at which at most one of four tests holds, added up by the test that holds
pub sum-four : (m : ℕ) (w : ℕ → ℕ) (p q u v t : ℕ → Bool)
    → ((k : ℕ) → k < m → only (p k) 1 + only (q k) 1 + only (u k) 1 + only (v k) 1 ≡ only (t k) 1)
    → sum_to m (λ k. only (p k) (w k)) + sum_to m (λ k. only (q k) (w k)) + sum_to m (λ k. only (u k) (w k)) + sum_to m (λ k. only (v k) (w k))
    ≡ sum_to m (λ k. only (t k) (w k))
unfolding sum_to
sum-four zero w p q u v t h = refl
sum-four (suc m) w p q u v t h =
    let r = sum-four m w p q u v t (λ k b. h k (omega arith)) in
    let e = scaled (p m) (q m) (u m) (v m) (t m) (h m (omega arith)) (w m) in
    omega arith
  where
    times : (b : Bool) (x : ℕ) → only b x ≡ x * only b 1
    times true x = omega arith
    times false x = omega arith

    scaled : (p q u v t : Bool) → only p 1 + only q 1 + only u 1 + only v 1 ≡ only t 1
        → (x : ℕ) → only p x + only q x + only u x + only v x ≡ only t x
    scaled p q u v t h x =
        let a = times p x in let b = times q x in let c = times u x in let d = times v x in let e = times t x in
        let f : x * (only p 1 + only q 1 + only u 1 + only v 1) ≡ x * only t 1 = ap (λ (y : ℕ). x * y) h in
        omega arith

-- 1 where a link with one end in the sides as a and b say, and the other as c and d say, goes between the corners i and j
abbrev part : ℕ → ℕ → Bool → Bool → Bool → Bool → ℕ
part i j a b c d = only (goes i j (corner a b) (corner c d)) 1

-- two functions of four flags that have one table of numbers are the same
number-table : (f g : Bool → Bool → Bool → Bool → ℕ) → ((a b c d : Bool) → eqb (f a b c d) (g a b c d) ≡ true)
    → (a b c d : Bool) → f a b c d ≡ g a b c d
number-table f g h a b c d = eqb-true _ _ (h a b c d)

pub part-first : (a b c d : Bool) → part 0 2 a b c d + part 0 3 a b c d + part 1 2 a b c d + part 1 3 a b c d ≡ only (xor a c) 1
unfolding xor
part-first =
    number-table _ _ (one_table 4 (λ a b c d. eqb (part 0 2 a b c d + part 0 3 a b c d + part 1 2 a b c d + part 1 3 a b c d) (only (xor a c) 1))
    (λ a b c d. true) refl)

pub part-second : (a b c d : Bool) → part 0 1 a b c d + part 0 3 a b c d + part 2 1 a b c d + part 2 3 a b c d ≡ only (xor b d) 1
unfolding xor
part-second =
    number-table _ _ (one_table 4 (λ a b c d. eqb (part 0 1 a b c d + part 0 3 a b c d + part 2 1 a b c d + part 2 3 a b c d) (only (xor b d) 1))
    (λ a b c d. true) refl)

abbrev row_is : ℕ → Bool → Bool → Bool → Bool → Bool
row_is i a b c d =
    eqb (part i 0 a b c d + part i 1 a b c d + part i 2 a b c d + part i 3 a b c d) (only (xor (eqb (corner a b) i) (eqb (corner c d) i)) 1)

pub part-row : (i : ℕ) → i < 4 → (a b c d : Bool)
    → part i 0 a b c d + part i 1 a b c d + part i 2 a b c d + part i 3 a b c d ≡ only (xor (eqb (corner a b) i) (eqb (corner c d) i)) 1
unfolding xor
part-row zero l = number-table _ _ (one_table 4 (row_is 0) (λ a b c d. true) refl)
part-row (suc zero) l = number-table _ _ (one_table 4 (row_is 1) (λ a b c d. true) refl)
part-row (suc (suc zero)) l = number-table _ _ (one_table 4 (row_is 2) (λ a b c d. true) refl)
part-row (suc (suc (suc zero))) l = number-table _ _ (one_table 4 (row_is 3) (λ a b c d. true) refl)
part-row (suc (suc (suc (suc i)))) l = absurd (omega arith)

pub goes-mirror : (i j x y : ℕ) → goes i j x y ≡ goes j i x y
goes-mirror i j x y =
    rw (eqb_comm i j, and_comm (eqb x i) (eqb y j), and_comm (eqb y i) (eqb x j), or_comm (eqb y j && eqb x i) (eqb x j && eqb y i))

pub corner-below : (a b : Bool) → corner a b < 4
corner-below true true = omega arith
corner-below true false = omega arith
corner-below false true = omega arith
corner-below false false = omega arith

both_ends : (x y i j : ℕ) → (eqb x i && eqb y j) ≡ true → (x ≡ i) × (y ≡ j)
both_ends x y i j h = let p = (and-eq-true_iff (eqb x i) (eqb y j)).0 h in (eqb-true x i p.0, eqb-true y j p.1)

-- of two ends in one corner
pub goes_same : (i j x y : ℕ) → x ≡ y → goes i j x y ≡ false
goes_same i j x y e = step (truth (goes i j x y))
  where
    meet : (eqb x i && eqb y j ≡ true) ⊎ (eqb y i && eqb x j ≡ true) → i ≡ j
    meet (inl h) = let a = both_ends x y i j h in omega (arith, a.0, a.1)
    meet (inr h) = let a = both_ends y x i j h in omega (arith, a.0, a.1)

    step : (goes i j x y ≡ true) ⊎ (goes i j x y ≡ false) → goes i j x y ≡ false
    step (inr f) = f
    step (inl h) =
        let p = (and-eq-true_iff (not (eqb i j)) (eqb x i && eqb y j || eqb y i && eqb x j)).0 h in
        clash (eq-eqb i j (meet (either (eqb x i && eqb y j) (eqb y i && eqb x j) p.1))) (not-true (eqb i j) p.0)

-- of two ends in different corners
pub goes_raise : (i j x y w : ℕ) → (x ≡ y → ⊥) → only (goes i j x y) w ≡ only (eqb x i && eqb y j) w + only (eqb y i && eqb x j) w
goes_raise i j x y w n =
    go (not (eqb i j)) (eqb x i && eqb y j) (eqb y i && eqb x j)
    (λ h k. n (let a = both_ends x y i j h in let b = both_ends y x i j k in omega (arith, a.0, a.1, b.0, b.1)))
    (λ h. ap not (ne_eqb i j (λ e. n (let a = both_ends x y i j h in omega (arith, a.0, a.1)))))
    (λ h. ap not (ne_eqb i j (λ e. n (let a = both_ends y x i j h in omega (arith, a.0, a.1)))))
  where
    go : (c a b : Bool) → (a ≡ true → b ≡ true → ⊥) → (a ≡ true → c ≡ true) → (b ≡ true → c ≡ true) → only (c && (a || b)) w ≡ only a w + only b w
    go c true true f g h = absurd (f refl refl)
    go true true false f g h = omega arith
    go false true false f g h = clash (g refl) refl
    go true false true f g h = omega arith
    go false false true f g h = clash (h refl) refl
    go true false false f g h = refl
    go false false false f g h = refl
