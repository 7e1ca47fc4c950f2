-- Crossing the symmetric difference of two sides and the complement of a side, and the weights of both.
-- Assumes nothing.
use Prim.Native.Nat.{ℕ, zero, suc, ◌+◌, ◌*◌, ◌≤◌, ◌<◌}
use mathlib.Core.Path.{◌≡◌, refl, sym, ap, ◌∙◌}
use mathlib.Core.Bool.{Bool, true, false, ◌&&◌, not, xor}
use mathlib.Core.List.{[], ◌∷◌, map}
use native.Mathlib.Nat.{not-suc-le-zero, le_of_suc-le-suc}
use native.Mathlib.Omega.{arith}
use lib.ListN.{length}
use Rattle.cuts.specs.Sums.{only}
use Rattle.cuts.specs.Network.{Tree, Network, flag, link_at, link_count, Linked}
use Rattle.cuts.specs.Cut.{Side, crosses, cut_weight, crossings, sym_diff}
use Rattle.cuts.specs.Tree.{below}
use Rattle.cuts.specs.Candidate.{Handle, one, two, shared_weight, pair_weight, side_of, weight_of}
use Rattle.cuts.proofs.FlagLaws.{xor_comm, xor-false, xor-swap, xor-not}
use Rattle.cuts.proofs.SumLaws.{sum_congr, sum_mono, sum-add, sum_const, sum_scale}

-- ---- the symmetric difference

pub flag-sym_diff : (r s : Side) (x : ℕ) → flag (sym_diff r s) x ≡ xor (flag r x) (flag s x)
unfolding sym_diff xor
flag-sym_diff [] s x = sym (xor_comm false (flag s x) ∙ xor-false (flag s x))
flag-sym_diff (a ∷ r) [] x = sym (xor-false (flag (a ∷ r) x))
flag-sym_diff (a ∷ r) (b ∷ s) zero = refl
flag-sym_diff (a ∷ r) (b ∷ s) (suc x) = flag-sym_diff r s x

pub sym_diff-length : (r s : Side) → length r ≡ length s → length (sym_diff r s) ≡ length s
unfolding sym_diff
sym_diff-length [] s e = refl
sym_diff-length (a ∷ r) [] e = e
sym_diff-length (a ∷ r) (b ∷ s) e = ap suc (sym_diff-length r s (omega arith))

-- `crosses` with `xor` left shut
pub crosses-is : (net : Network) (s : Side) (k : ℕ) → crosses net s k ≡ xor (flag s (link_at net k).first) (flag s (link_at net k).second)
unfolding crosses
crosses-is net s k = refl

pub crosses-sym_diff : (net : Network) (r s : Side) (k : ℕ) → crosses net (sym_diff r s) k ≡ xor (crosses net r k) (crosses net s k)
crosses-sym_diff net r s k = simp (crosses-is, flag-sym_diff) (xor-swap _ _ _ _)

pub pair_weight-is : (net : Network) (r s : Side) → pair_weight net r s ≡ cut_weight net (sym_diff r s)
unfolding pair_weight
pair_weight-is net r s =
    let m : ℕ = link_count net in
    let w : ℕ → ℕ = λ k. (link_at net k).weight in
    let a = sum-add m (λ k. only (crosses net r k) (w k)) (λ k. only (crosses net s k) (w k)) in
    let b = sum-add m (λ k. only (crosses net (sym_diff r s) k) (w k)) (λ k. 2 * only (crosses net r k && crosses net s k) (w k)) in
    let c = sum_scale m 2 (λ k. only (crosses net r k && crosses net s k) (w k)) in
    let d = sum_congr m (λ k. only (crosses net (sym_diff r s) k) (w k) + 2 * only (crosses net r k && crosses net s k) (w k))
    (λ k. only (crosses net r k) (w k) + only (crosses net s k) (w k)) (λ k _. rw (crosses-sym_diff net r s k) (split (crosses net r k) (crosses net s k) (w k))) in
    omega arith
  where
    split : (p q : Bool) (x : ℕ) → only (xor p q) x + 2 * only (p && q) x ≡ only p x + only q x
    split true true x = omega arith
    split true false x = omega arith
    split false true x = omega arith
    split false false x = omega arith

pub weight_of-is : (net : Network) (t : Tree) (h : Handle) → weight_of net t h ≡ cut_weight net (side_of net t h)
unfolding weight_of side_of
weight_of-is net t (one e) = refl
weight_of-is net t (two e f) = pair_weight-is net (below net t e) (below net t f)

pub shared_weight-most : (net : Network) (r s : Side) → (shared_weight net r s ≤ cut_weight net r) × (shared_weight net r s ≤ cut_weight net s)
unfolding shared_weight cut_weight
shared_weight-most net r s = (
  sum_mono (link_count net) _ _ (λ k _. left (crosses net r k) (crosses net s k) (link_at net k).weight),
  sum_mono (link_count net) _ _ (λ k _. right (crosses net r k) (crosses net s k) (link_at net k).weight),
)
  where
    left : (p q : Bool) (x : ℕ) → only (p && q) x ≤ only p x
    left true true x = omega arith
    left true false x = omega arith
    left false q x = omega arith

    right : (p q : Bool) (x : ℕ) → only (p && q) x ≤ only q x
    right true q x = omega arith
    right false q x = omega arith

-- no cut weighs more than all links at the largest weight
pub cut_weight-most : (net : Network) (w : ℕ) → ((k : ℕ) → k < link_count net → (link_at net k).weight ≤ w) → (s : Side) → cut_weight net s ≤ link_count net * w
unfolding cut_weight
cut_weight-most net w h s =
    let a = sum_mono (link_count net) (λ k. only (crosses net s k) (link_at net k).weight) (λ k. w) (λ k b. at_most (crosses net s k) (h k b)) in
    let b = sum_const (link_count net) w in
    omega arith
  where
    at_most : (c : Bool) {x : ℕ} → x ≤ w → only c x ≤ w
    at_most true l = l
    at_most false l = omega arith

-- ---- the complement

pub flag-not : (s : Side) (x : ℕ) → x < length s → flag (map not s) x ≡ not (flag s x)
flag-not [] x b = absurd (not-suc-le-zero b)
flag-not (a ∷ s) zero b = refl
flag-not (a ∷ s) (suc x) b = flag-not s x (le_of_suc-le-suc b)

module _ (net : Network) (l : Linked net) (s : Side) (e : length s ≡ net.nodes) where
  pub crosses-not : (k : ℕ) → k < link_count net → crosses net (map not s) k ≡ crosses net s k
  crosses-not k b = simp crosses-is (rw (flag-not s (link_at net k).first (rw e (l.first_in k b)), flag-not s (link_at net k).second (rw e (l.second_in k b))) (xor-not _ _))

  pub cut_weight-not : cut_weight net (map not s) ≡ cut_weight net s
  unfolding cut_weight
  cut_weight-not = sum_congr (link_count net) _ _ (λ k b. ap (λ (c : Bool). only c (link_at net k).weight) (crosses-not k b))

  pub crossings-not : (t : Tree) → crossings net t (map not s) ≡ crossings net t s
  unfolding crossings
  crossings-not t = sum_congr (link_count net) _ _ (λ k b. ap (λ (c : Bool). only (flag t.members k && c) 1) (crosses-not k b))
