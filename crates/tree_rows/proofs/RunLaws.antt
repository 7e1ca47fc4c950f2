-- The links of one node: the tally of its place alone, from the run of its link numbers.
-- Assumes nothing.
use Rattle.std.proofs.Common.{◌≡◌, ℕ, suc, ◌+◌, ◌-◌, ◌<◌, ◌≤◌, true, false, cond, ◌||◌, eqb, ◌⊎◌, List, sym, ap, ◌∙◌, inl, inr, arith, eqb-true}
use borrow.Author.Tests.{eqb-false}
use Rattle.cuts.specs.Sums.{sum_to, only, table}
use Rattle.cuts.specs.Network.{Tree, Network, link_at, link_count}
use Rattle.cuts.proofs.FlagLaws.{truth}
use Rattle.cuts.proofs.SumLaws.{sum_congr, table-length, table_at}
use Rattle.cuts.proofs.ListLaws.{mem_at}
use Rattle.arrays.specs.Lists.{entry}
use Rattle.arrays.specs.Links.{Laid, Loopless}
use Rattle.arrays.specs.ByNode.{touches, far, ByNode}
use Rattle.by_node.proofs.EndsLaws.{links_at-of, run_mem}
use Rattle.by_node.proofs.RunLaws.{run-sum}
use Rattle.arrays.specs.Kept.{within, Kept}
use Rattle.tree_places.proofs.WithinLaws.{within_in, within-is}
use Rattle.tree_rows.specs.Rows.{weight_at, first_place, second_place, tally}

-- what link k gives to place y from its end at x, as the arrays have it
abbrev pub gives : List ℕ → List ℕ → List ℕ → List ℕ → ℕ → ℕ → ℕ → ℕ
gives fs ss ws place x y k = only (eqb (entry place (far fs ss x k)) y) (entry ws k)

-- its two ends, one of them at x
pub ends_of : (a b x : ℕ) (g : ℕ → ℕ) → (a ≡ b → ⊥) → only (eqb a x || eqb b x) (g (cond (eqb a x) b a)) ≡ only (eqb a x) (g b) + only (eqb b x) (g a)
ends_of a b x g apart = go (truth (eqb a x)) (truth (eqb b x))
  where
    go : (eqb a x ≡ true) ⊎ (eqb a x ≡ false) → (eqb b x ≡ true) ⊎ (eqb b x ≡ false)
        → only (eqb a x || eqb b x) (g (cond (eqb a x) b a)) ≡ only (eqb a x) (g b) + only (eqb b x) (g a)
    go (inl p) (inl q) = absurd (apart (eqb-true a x p ∙ sym (eqb-true b x q)))
    go (inl p) (inr q) = rw (p, q) (omega arith)
    go (inr p) (inl q) = rw (p, q) (omega arith)
    go (inr p) (inr q) = rw (p, q) (omega arith)

module _ {net : Network} {t : Tree} {place node stops ups : List ℕ} (w : Kept net t place node stops ups) where
  -- its own place alone
  at_own : (x z : ℕ) → x < net.nodes → z < net.nodes → eqb z x ≡ within (entry place x) (suc (entry place x)) (entry place z)
  at_own x z b c = go (truth (eqb z x))
    where
      go : (eqb z x ≡ true) ⊎ (eqb z x ≡ false) → eqb z x ≡ within (entry place x) (suc (entry place x)) (entry place z)
      go (inl e) = let q = ap (entry place) (eqb-true z x e) in e ∙ sym (within_in (entry place x) (suc (entry place x)) (entry place z) (omega arith) (omega arith))
      go (inr e) = e ∙ sym (beside (truth (within (entry place x) (suc (entry place x)) (entry place z))))
        where
          beside : (within (entry place x) (suc (entry place x)) (entry place z) ≡ true) ⊎ (within (entry place x) (suc (entry place x)) (entry place z) ≡ false)
              → within (entry place x) (suc (entry place x)) (entry place z) ≡ false
          beside (inr q) = q
          beside (inl q) =
              let r = within-is (entry place x) (suc (entry place x)) (entry place z) q in
              let s : entry place z ≡ entry place x = omega (arith, r.0, r.1) in
              absurd (eqb-false z x e (sym (w.back z c) ∙ ap (entry node) s ∙ w.back x b))

  -- the links of node x, by its run
  pub run-links : {fs ss ws head list : List ℕ} {nodes links : ℕ} → Laid net fs ss ws nodes links → Loopless net → ByNode fs ss (table links (λ k. k)) head list nodes
      → (x y : ℕ) → x < net.nodes
      → sum_to (entry head (x + 1) - entry head x) (λ i. gives fs ss ws place x y (entry list (entry head x + i))) ≡ tally net place (entry place x) (suc (entry place x)) y
  unfolding tally
  run-links {fs} {ss} {ws} {head} {list} {links = links} l apart e x y b =
      let s = l.held.sized in
      run-sum links e x (omega arith) (gives fs ss ws place x y)
      ∙ ap (λ (n : ℕ). sum_to n (λ k. only (touches fs ss x k) (gives fs ss ws place x y k))) (sym l.weighed.counted)
      ∙ sum_congr (link_count net) _ _ at
    where
      at : (k : ℕ) → k < link_count net
          → only (touches fs ss x k) (gives fs ss ws place x y k)
          ≡ only (within (entry place x) (suc (entry place x)) (first_place net place k)) (only (eqb (second_place net place k) y) (weight_at net k))
          + only (within (entry place x) (suc (entry place x)) (second_place net place k)) (only (eqb (first_place net place k) y) (weight_at net k))
      at k c =
          let i = w.spanning.linked.first_in k c in
          let j = w.spanning.linked.second_in k c in
          rw (← l.held.firsts k c, ← l.held.seconds k c, ← l.weighed.weights k c, ← at_own x (link_at net k).first b i, ← at_own x (link_at net k).second b j)
          (ends_of (link_at net k).first (link_at net k).second x (λ z. only (eqb (entry place z) y) (weight_at net k)) (apart k c))

-- a run of links 0, .., m - 1 has none but these
pub run-few : {fs ss head list : List ℕ} {nodes x j : ℕ} (m : ℕ) → ByNode fs ss (table m (λ k. k)) head list nodes → x < nodes
    → entry head x ≤ j → j < entry head (x + 1) → entry list j < m
run-few {fs} {ss} {x = x} m e b l c =
    let p = mem_at 0 (links_at-of fs ss x (table m (λ k. k)) (run_mem e b l c)).0 in
    let n = table-length m (λ k. k) in
    let i : p.0 < m = omega (arith, p.1) in
    let a = table_at 0 m (λ k. k) p.0 i in
    omega (arith, i, p.2)
