-- The bound of a tree packing: a cut that each of its trees crosses c times weighs at least c times the shares.
-- Assumes nothing.
use Prim.Native.Nat.{ℕ, ◌+◌, ◌*◌, ◌≤◌}
use mathlib.Core.Path.{◌≡◌, refl}
use mathlib.Core.Bool.{Bool, true, false, ◌&&◌}
use mathlib.Core.List.{List, [], ◌∷◌, Memᴰ}
use native.Mathlib.Nat.{mul-le-mul_left}
use native.Mathlib.Omega.{arith}
use Rattle.cuts.specs.Sums.{sum_to, only}
use Rattle.cuts.specs.Network.{Tree, Network, flag, link_count}
use Rattle.cuts.specs.Cut.{Side, crosses, cut_weight, crossings}
use Rattle.cuts.specs.Bound.{load, shares, Packed}
use Rattle.cuts.proofs.SumLaws.{sum_congr, sum_mono, sum-add, sum_scale}

module _ (net : Network) (s : Side) (c : ℕ) where
  -- the loads that cross the side, tree by tree
  loads : (ts : List Tree) → ((t : Tree) → Memᴰ t ts → c ≤ crossings net t s) → c * shares ts ≤ sum_to (link_count net) (λ k. only (crosses net s k) (load ts k))
  unfolding shares load crossings
  loads [] h = omega arith
  loads (t ∷ ts) h =
      let m : ℕ = link_count net in
      let r = loads ts (λ u i. h u (Memᴰ.tail i)) in
      let q = mul-le-mul_left t.share (h t (Memᴰ.head refl)) in
      let a = sum_congr m (λ k. only (crosses net s k) (load (t ∷ ts) k)) (λ k. t.share * only (flag t.members k && crosses net s k) 1 + only (crosses net s k) (load ts k))
      (λ k _. split (flag t.members k) (crosses net s k) t.share (load ts k)) in
      let b = sum-add m (λ k. t.share * only (flag t.members k && crosses net s k) 1) (λ k. only (crosses net s k) (load ts k)) in
      let d = sum_scale m t.share (λ k. only (flag t.members k && crosses net s k) 1) in
      omega arith
    where
      split : (f x : Bool) (w l : ℕ) → only x (only f w + l) ≡ w * only (f && x) 1 + only x l
      split true true w l = omega arith
      split false true w l = omega arith
      split true false w l = omega arith
      split false false w l = omega arith

  pub packing : (ts : List Tree) → Packed net ts → ((t : Tree) → Memᴰ t ts → c ≤ crossings net t s) → c * shares ts ≤ cut_weight net s
  unfolding cut_weight
  packing ts p h = let l = loads ts h in let m = sum_mono (link_count net) _ _ (λ k b. fits (crosses net s k) (p k b)) in omega arith
    where
      fits : (b : Bool) {x y : ℕ} → x ≤ y → only b x ≤ only b y
      fits true h = h
      fits false h = omega arith
