-- Numbers up to most_nodes, and arrays of as many numbers, below a bound: a sum that is at most most_nodes loses nothing when it is taken modulo
-- stop_numbers, and an array stays below its bound when such a number is put in. The nodes after the root, as a part of the order.
-- Assumes nothing.
use Prim.Native.Nat.{ℕ, ◌+◌, ◌-◌, ◌%◌, ◌≤◌, ◌<◌}
use mathlib.Core.Path.{◌≡◌, sym, ap, ◌∙◌}
use mathlib.Core.Logic.{◌⊎◌, inl, inr}
use mathlib.Core.Bool.{true, false}
use mathlib.Core.List.{List}
use native.Mathlib.Omega.{arith}
use lib.ListN.{length, set, replicate, get_or-replicate}
use lib.Seq.{get_or-set_same, get_or-set_other}
use lib.Dec.{eqb}
use borrow.Author.Tests.{eqb-true, eqb-false}
use Rattle.std.specs.List.{between}
use Rattle.std.proofs.lemmas.List.Edits.{length-between, get_or-between}
use Rattle.cuts.proofs.FlagLaws.{truth}
use Rattle.cuts.specs.Limits.{most_nodes}
use Rattle.arrays.specs.Lists.{entry, Within}
use Rattle.tree_places.specs.Places.{stop_numbers}

pub small : (n : ℕ) → n ≤ most_nodes → n % stop_numbers ≡ n
small n b = omega arith

pub zeros_within : (m : ℕ) → 0 < m → Within (replicate most_nodes 0) most_nodes m
zeros_within m z i b = rw (get_or-replicate {A = ℕ} most_nodes i 0 0 b) z

pub set-within : (s : List ℕ) (x n m : ℕ) → length s ≡ most_nodes → n < m → Within s most_nodes m → Within (set s x n) most_nodes m
set-within s x n m l b h i c = go (truth (eqb x i))
  where
    go : (eqb x i ≡ true) ⊎ (eqb x i ≡ false) → entry (set s x n) i < m
    go (inl q) = let e = eqb-true x i q in rw (← e, get_or-set_same s x n 0 (omega arith)) b
    go (inr q) = rw (get_or-set_other s x i n 0 (λ e. eqb-false x i q (sym e))) (h i c)

-- the nodes after the root, in an order of at least n
module _ (order : List ℕ) (n : ℕ) where
  pub after_root-length : n ≤ length order → length (between 1 n order) ≡ n - 1
  after_root-length l = length-between order 1 n l

  pub after_root : (k : ℕ) → k + 1 < n → entry (between 1 n order) k ≡ entry order (k + 1)
  after_root k b = get_or-between order 1 n k 0 (omega arith) ∙ ap (entry order) (omega arith)
