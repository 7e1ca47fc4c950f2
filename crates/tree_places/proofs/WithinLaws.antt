-- Which places lie in a run of places.
-- Assumes nothing.
use Prim.Native.Nat.{ℕ, ◌+◌, ◌≤◌, ◌<◌}
use mathlib.Core.Path.{◌≡◌}
use mathlib.Core.Logic.{◌⊎◌, inl, inr}
use mathlib.Core.Bool.{true, false, xor}
use native.Mathlib.Decide.{dec_lt}
use native.Mathlib.Omega.{arith}
use lib.Dec.{leb, ltb}
use borrow.Author.Tests.{leb-true, leb-false, ltb-true, ltb-false, le-leb, lt-leb, lt-ltb, le-ltb}
use Rattle.cuts.specs.Sums.{only}
use Rattle.cuts.proofs.FlagLaws.{truth, clash}
use Rattle.arrays.specs.Kept.{within}

pub within_in : (from to p : ℕ) → from ≤ p → p < to → within from to p ≡ true
within_in from to p a b = rw (le-leb from p a, lt-ltb p to b)

pub within-before : (from to p : ℕ) → p < from → within from to p ≡ false
within-before from to p a = rw (lt-leb from p a)

pub within-behind : (from to p : ℕ) → to ≤ p → within from to p ≡ false
within-behind from to p a = go (truth (leb from p))
  where
    go : (leb from p ≡ true) ⊎ (leb from p ≡ false) → within from to p ≡ false
    go (inl e) = rw (e, le-ltb p to a)
    go (inr e) = rw e

pub within-is : (from to p : ℕ) → within from to p ≡ true → (from ≤ p) × (p < to)
within-is from to p h = go (truth (leb from p)) (truth (ltb p to))
  where
    go : (leb from p ≡ true) ⊎ (leb from p ≡ false) → (ltb p to ≡ true) ⊎ (ltb p to ≡ false) → (from ≤ p) × (p < to)
    go (inl a) (inl b) = (leb-true from p a, ltb-true p to b)
    go (inl a) (inr b) = clash h (within-behind from to p (ltb-false p to b))
    go (inr a) b = clash h (within-before from to p (leb-false from p a))

-- a run cut in two
pub within_join : (u v s p w : ℕ) → u ≤ v → v ≤ s → only (within u s p) w ≡ only (within u v p) w + only (within v s p) w
within_join u v s p w a b = go (dec_lt p v) (dec_lt p u) (dec_lt p s)
  where
    go : Dec (p < v) → Dec (p < u) → Dec (p < s) → only (within u s p) w ≡ only (within u v p) w + only (within v s p) w
    go (yes c) (yes d) _ = rw (within-before u s p d, within-before u v p d, within-before v s p c)
    go (yes c) (no d) _ = rw (within_in u s p (omega arith) (omega arith), within_in u v p (omega arith) c, within-before v s p c) (omega arith)
    go (no c) _ (yes e) = rw (within_in u s p (omega arith) e, within-behind u v p (omega arith), within_in v s p (omega arith) e) (omega arith)
    go (no c) _ (no e) = rw (within-behind u s p (omega arith), within-behind u v p (omega arith), within-behind v s p (omega arith))

-- the places before its end, less those before its start
pub within-xor : (from to p : ℕ) → from ≤ to → within from to p ≡ xor (ltb p to) (ltb p from)
unfolding xor
within-xor from to p l = go (dec_lt p from) (dec_lt p to)
  where
    go : Dec (p < from) → Dec (p < to) → within from to p ≡ xor (ltb p to) (ltb p from)
    go (yes b) d = rw (lt-leb from p b, lt-ltb p to (omega arith), lt-ltb p from b)
    go (no b) (yes d) = rw (le-leb from p (omega arith), lt-ltb p to d, le-ltb p from (omega arith))
    go (no b) (no d) = rw (le-leb from p (omega arith), le-ltb p to (omega arith), le-ltb p from (omega arith))
