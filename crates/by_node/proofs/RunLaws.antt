-- For those who use the runs: the links of a network have their ends in the arrays, and a sum over a node's run is one over all links.
-- Assumes nothing.
use Prim.Native.Nat.{ℕ, zero, suc, ◌+◌, ◌-◌, ◌≤◌, ◌<◌}
use mathlib.Core.Path.{◌≡◌, refl, sym, ap, ◌∙◌}
use mathlib.Core.Bool.{Bool, true, false, cond}
use mathlib.Core.List.{List, [], ◌∷◌, ◌++◌, append-nil}
use native.Mathlib.Omega.{arith}
use native.Mathlib.Numerals.{add-one}
use lib.ListN.{length, length-append, get_or-append}
use lib.Seq.{get_or_at}
use Rattle.cuts.specs.Sums.{sum_to, only, table}
use Rattle.cuts.specs.Network.{Network, link_count}
use Rattle.cuts.proofs.SumLaws.{sum_congr}
use Rattle.arrays.specs.Lists.{entry}
use Rattle.arrays.specs.Links.{Held, Ending}
use Rattle.arrays.specs.ByNode.{touches, links_at, ByNode}
use Rattle.by_node.proofs.CountLaws.{links_at-append, links_at-one}
use Rattle.by_node.proofs.EndsLaws.{run_at, run_length}

-- ---- the links of a network

pub held-ending : {net : Network} {fs ss : List ℕ} {nodes : ℕ} → Held net fs ss nodes → link_count net ≤ length fs → link_count net ≤ length ss
    → (k : ℕ) → k < link_count net → Ending fs ss nodes k
held-ending {nodes = nodes} h a b k c = record {
  in_firsts = omega arith;
  in_seconds = omega arith;
  first_in = let e = h.firsts k c in let s = h.sized in omega (arith, h.linked.first_in k c);
  second_in = let e = h.seconds k c in let s = h.sized in omega (arith, h.linked.second_in k c);
}

-- ---- sums over a run

-- of the numbers that f gives to the entries of a list
sum_of : List ℕ → (ℕ → ℕ) → ℕ
sum_of xs f = sum_to (length xs) (λ j. f (entry xs j))

sum_snoc : (xs : List ℕ) (b : Bool) (k : ℕ) (f : ℕ → ℕ) → sum_of (xs ++ cond b (k ∷ []) []) f ≡ sum_of xs f + only b (f k)
unfolding sum_of sum_to
sum_snoc xs false k f = ap (λ (ys : List ℕ). sum_of ys f) (append-nil xs) ∙ omega arith
sum_snoc xs true k f =
    let n = length-append xs (k ∷ []) ∙ add-one (length xs) in
    let c = sum_congr (length xs) (λ j. f (entry (xs ++ k ∷ []) j)) (λ j. f (entry xs j)) (λ j b. ap f (get_or-append xs (k ∷ []) 0 j b)) in
    let l = ap f (get_or_at xs k [] 0 (length xs) refl) in
    ap (λ (m : ℕ). sum_to m (λ j. f (entry (xs ++ k ∷ []) j))) n ∙ omega arith

sum-links : (fs ss : List ℕ) (x m : ℕ) (f : ℕ → ℕ) → sum_of (links_at fs ss x (table m (λ k. k))) f ≡ sum_to m (λ k. only (touches fs ss x k) (f k))
unfolding sum_of sum_to table links_at
sum-links fs ss x zero f = refl
sum-links fs ss x (suc m) f =
    ap (λ (ys : List ℕ). sum_of ys f) (links_at-append fs ss x (table m (λ k. k)) (m ∷ []) ∙ ap (λ (ys : List ℕ). links_at fs ss x (table m (λ k. k)) ++ ys) (links_at-one fs ss x m))
    ∙ sum_snoc (links_at fs ss x (table m (λ k. k))) (touches fs ss x m) m f
    ∙ ap (λ (n : ℕ). n + only (touches fs ss x m) (f m)) (sum-links fs ss x m f)

-- over the run of x, where all of m links are listed
pub run-sum : {fs ss head ends : List ℕ} {nodes : ℕ} (m : ℕ) → ByNode fs ss (table m (λ k. k)) head ends nodes → (x : ℕ) → x < nodes → (f : ℕ → ℕ)
    → sum_to (entry head (x + 1) - entry head x) (λ i. f (entry ends (entry head x + i))) ≡ sum_to m (λ k. only (touches fs ss x k) (f k))
unfolding sum_of
run-sum {fs} {ss} {head} {ends} m e x b f =
    sum_congr (entry head (x + 1) - entry head x) (λ i. f (entry ends (entry head x + i))) (λ i. f (entry (links_at fs ss x (table m (λ k. k))) i))
    (λ i c. ap f (sym (run_at e b i (omega arith))))
    ∙ ap (λ (n : ℕ). sum_to n (λ i. f (entry (links_at fs ss x (table m (λ k. k))) i))) (sym (run_length e b)) ∙ sum-links fs ss x m f
