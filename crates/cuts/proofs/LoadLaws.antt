-- What one tree more, behind the others, adds to the loads and to the shares, and that a longer run of trees has no less of either.
-- Assumes nothing.
use Prim.Native.Nat.{ℕ, zero, suc, ◌+◌, ◌≤◌}
use mathlib.Core.Path.{◌≡◌}
use mathlib.Core.List.{List, [], ◌∷◌, ◌++◌}
use native.Mathlib.Omega.{arith}
use lib.ListN.{take}
use Rattle.cuts.specs.Sums.{only}
use Rattle.cuts.specs.Network.{Tree, flag}
use Rattle.cuts.specs.Bound.{load, shares}

pub load-append : (ts : List Tree) (t : Tree) (k : ℕ) → load (ts ++ t ∷ []) k ≡ load ts k + only (flag t.members k) t.share
unfolding load
load-append [] t k = omega arith
load-append (u ∷ ts) t k = let r = load-append ts t k in omega arith

pub shares-append : (ts : List Tree) (t : Tree) → shares (ts ++ t ∷ []) ≡ shares ts + t.share
unfolding shares
shares-append [] t = omega arith
shares-append (u ∷ ts) t = let r = shares-append ts t in omega arith

pub load-take : (ts : List Tree) (m n k : ℕ) → m ≤ n → load (take m ts) k ≤ load (take n ts) k
unfolding load
load-take ts zero n k l = omega arith
load-take ts (suc m) zero k l = absurd (omega arith)
load-take [] (suc m) (suc n) k l = omega arith
load-take (t ∷ ts) (suc m) (suc n) k l = let r = load-take ts m n k (omega arith) in omega arith

pub shares-take : (ts : List Tree) (m n : ℕ) → m ≤ n → shares (take m ts) ≤ shares (take n ts)
unfolding shares
shares-take ts zero n l = omega arith
shares-take ts (suc m) zero l = absurd (omega arith)
shares-take [] (suc m) (suc n) l = omega arith
shares-take (t ∷ ts) (suc m) (suc n) l = let r = shares-take ts m n (omega arith) in omega arith
