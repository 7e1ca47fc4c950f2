-- The trees that count. A link's load does not fall from one run of trees to a longer one, so that the runs that load no link past its
-- weight are those of at most as many trees as the longest; what is computed is that one, and there is no other.
-- Assumes nothing.
use Prim.Native.Nat.{ℕ, zero, suc, ◌≤◌, ◌<◌}
use mathlib.Core.Path.{◌≡◌, refl, sym, ap, ◌∙◌, subst}
use mathlib.Core.Logic.{◌⊎◌, inl, inr}
use mathlib.Core.Bool.{Bool, true, false, cond}
use mathlib.Core.List.Memᴰ
use mathlib.Core.List.{List, [], Memᴰ}
use native.Mathlib.Decide.{dec_lt}
use native.Mathlib.Omega.{arith}
use lib.ListN.{length, take, drop, take-append-drop}
use lib.Seq.{take-length}
use lib.Dec.{ltb}
use borrow.Author.Tests.{ltb-true, lt-ltb}
use Rattle.cuts.specs.Network.{Tree, Network, link_at, link_count}
use Rattle.cuts.specs.Bound.{load, Packed, Overloads, overloaded, LongestRun, Counting, all_or_none, longest_run, CountedBy, run_within, counted}
use Rattle.cuts.proofs.FlagLaws.{clash}
use Rattle.cuts.proofs.SumLaws.{any_to-some, any_to-at}
use Rattle.cuts.proofs.LoadLaws.{load-take}

module _ (net : Network) where
  -- ---- `overloaded` in words

  overloaded-some : (ts : List Tree) → overloaded net ts ≡ true → Overloads net ts
  unfolding overloaded
  overloaded-some ts e = let r = any_to-some (link_count net) (λ k. ltb (link_at net k).weight (load ts k)) e in (r.0, r.1, ltb-true _ _ r.2)

  overloaded-at : (ts : List Tree) → Overloads net ts → overloaded net ts ≡ true
  unfolding overloaded
  overloaded-at ts r = any_to-at (link_count net) (λ k. ltb (link_at net k).weight (load ts k)) r.0 r.1 (lt-ltb _ _ r.2)

  -- a packing overloads nothing
  packed-not : (ts : List Tree) → Packed net ts → Overloads net ts → ⊥
  packed-not ts p r = let a = p r.0 r.1 in omega (arith, r.2)

  overloaded-packed : (ts : List Tree) → overloaded net ts ≡ false → Packed net ts
  overloaded-packed ts e k b = step (dec_lt (link_at net k).weight (load ts k))
    where
      step : Dec ((link_at net k).weight < load ts k) → load ts k ≤ (link_at net k).weight
      step (yes l) = clash (overloaded-at ts (k, b, l)) e
      step (no l) = omega arith

module _ (net : Network) (ts : List Tree) where
  -- a run that overloads a link goes on overloading it
  overloads_on : (m n : ℕ) → m ≤ n → Overloads net (take m ts) → Overloads net (take n ts)
  overloads_on m n l r = let o = load-take ts m n r.0 l in (r.0, r.1, omega (arith, r.2))

  -- ---- the longest run

  -- every longer run overloads a link
  pub longer_overloads : (n : ℕ) → LongestRun net ts n → (m : ℕ) → n < m → m ≤ length ts → Overloads net (take m ts)
  longer_overloads n r m l b = step r.full
    where
      step : (n ≡ length ts) ⊎ Overloads net (take (suc n) ts) → Overloads net (take m ts)
      step (inl e) = absurd (omega arith)
      step (inr o) = overloads_on (suc n) m (omega arith) o

  -- and none that is a packing is longer
  pub packed-within : (m n : ℕ) → LongestRun net ts m → n ≤ length ts → Packed net (take n ts) → n ≤ m
  packed-within m n r b p = step (dec_lt m n)
    where
      step : Dec (m < n) → n ≤ m
      step (yes l) = absurd (packed-not net (take n ts) p (longer_overloads m r n l b))
      step (no l) = omega arith

  -- there is one longest run
  longest-one : (m n : ℕ) → LongestRun net ts m → LongestRun net ts n → m ≡ n
  longest-one m n r s =
      let a = packed-within n m s r.listed r.packed in
      let b = packed-within m n r s.listed s.packed in
      omega arith

  -- what is computed of the first n trees is the longest of their runs, as a run of all trees up to the n-th
  record Within (n i : ℕ) : Type 0 where
    most : i ≤ n
    packed : Packed net (take i ts)
    full : (i ≡ n) ⊎ Overloads net (take (suc i) ts)

  within : (n : ℕ) → Within n (run_within net ts n)
  unfolding run_within load
  within zero = record { most = omega arith; packed = λ k b. omega arith; full = inl refl }
  within (suc n) = step (overloaded net (take (suc n) ts)) refl (within n)
    where
      more : {i : ℕ} → Overloads net (take (suc n) ts) → (i ≡ n) ⊎ Overloads net (take (suc i) ts) → (i ≡ suc n) ⊎ Overloads net (take (suc i) ts)
      more o (inl e) = inr (subst (λ (j : ℕ). Overloads net (take (suc j) ts)) (sym e) o)
      more o (inr p) = inr p

      step : (b : Bool) → overloaded net (take (suc n) ts) ≡ b → Within n (run_within net ts n) → Within (suc n) (cond b (run_within net ts n) (suc n))
      step true e w = record { most = let m = w.most in omega arith; packed = w.packed; full = more (overloaded-some net (take (suc n) ts) e) w.full }
      step false e w = record { most = omega arith; packed = overloaded-packed net (take (suc n) ts) e; full = inl refl }

  pub run_longest : LongestRun net ts (run_within net ts (length ts))
  run_longest = let w = within (length ts) in record { listed = w.most; packed = w.packed; full = w.full }

  -- ---- the trees that count

  -- what is computed are the trees that count
  pub counted_counts : (r : Counting) → CountedBy r net ts (counted r net ts)
  unfolding counted
  counted_counts longest_run = (run_within net ts (length ts), run_longest, refl)
  counted_counts all_or_none = step (overloaded net ts) refl
    where
      step : (b : Bool) → overloaded net ts ≡ b → (Packed net ts × (cond b [] ts ≡ ts)) ⊎ (Overloads net ts × (cond b [] ts ≡ []))
      step true e = inr (overloaded-some net ts e, refl)
      step false e = inl (overloaded-packed net ts e, refl)

  -- and no others count
  pub counts_one : (r : Counting) (cs ds : List Tree) → CountedBy r net ts cs → CountedBy r net ts ds → cs ≡ ds
  counts_one longest_run cs ds c d = c.2 ∙ ap (λ (n : ℕ). take n ts) (longest-one c.0 d.0 c.1 d.1) ∙ sym d.2
  counts_one all_or_none cs ds (inl c) (inl d) = c.1 ∙ sym d.1
  counts_one all_or_none cs ds (inr c) (inr d) = c.1 ∙ sym d.1
  counts_one all_or_none cs ds (inl c) (inr d) = absurd (packed-not net ts c.0 d.0)
  counts_one all_or_none cs ds (inr c) (inl d) = absurd (packed-not net ts d.0 c.0)

  -- they are a packing
  pub counts_packed : (r : Counting) (cs : List Tree) → CountedBy r net ts cs → Packed net cs
  unfolding load
  counts_packed longest_run cs c = subst (Packed net) (sym c.2) c.1.packed
  counts_packed all_or_none cs (inl c) = subst (Packed net) (sym c.1) c.0
  counts_packed all_or_none cs (inr c) = subst (Packed net) (sym c.1) (λ k b. omega arith)

  -- of listed trees
  pub counts_listed : (r : Counting) (cs : List Tree) → CountedBy r net ts cs → (t : Tree) → Memᴰ t cs → Memᴰ t ts
  counts_listed longest_run cs c t m = rw take-append-drop at (Memᴰ.append_left (drop c.0 ts) (subst (Memᴰ t) c.2 m))
  counts_listed all_or_none cs (inl c) t m = subst (Memᴰ t) c.1 m
  counts_listed all_or_none cs (inr c) t m = absurd (Memᴰ.not-nil (subst (Memᴰ t) c.1 m))

  pub counted_run : (n : ℕ) → LongestRun net ts n → counted longest_run net ts ≡ take n ts
  counted_run n r = counts_one longest_run (counted longest_run net ts) (take n ts) (counted_counts longest_run) (n, r, refl)

  -- where all trees are a packing all count, by every rule
  pub counted_all : (r : Counting) → Packed net ts → counted r net ts ≡ ts
  counted_all r p = counts_one r (counted r net ts) ts (counted_counts r) (all r)
    where
      all : (r : Counting) → CountedBy r net ts ts
      all all_or_none = inl (p, refl)
      all longest_run = (length ts, record { listed = omega arith; packed = rw take-length p; full = inl refl }, sym (take-length ts))
