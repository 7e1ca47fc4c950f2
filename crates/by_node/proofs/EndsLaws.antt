-- The links at a node, as a list and as entries of the array.
-- Assumes nothing.
use Prim.Native.Nat.{ℕ, ◌+◌, ◌-◌, ◌≤◌, ◌<◌}
use mathlib.Core.Path.{◌≡◌, refl, sym, ap, ◌∙◌, subst}
use mathlib.Core.Logic.{◌⊎◌, inl, inr}
use mathlib.Core.Bool.{Bool, true, false, cond}
use mathlib.Core.List.Memᴰ
use mathlib.Core.List.{List, [], ◌∷◌, Memᴰ}
use native.Mathlib.Omega.{arith}
use lib.ListN.{length, take}
use lib.Seq.{length-slice, get_or-take, get_or-drop}
use lib.Dec.{eqb}
use Rattle.cuts.proofs.FlagLaws.{clash}
use Rattle.cuts.proofs.ListLaws.{at_mem, mem_at}
use Rattle.arrays.specs.Lists.{entry}
use Rattle.arrays.specs.ByNode.{touches, far, links_at, ByNode}
use Rattle.arrays.specs.Links.{Ending}

module _ (fs ss : List ℕ) (x : ℕ) where
  pub links_at-of : (ks : List ℕ) {k : ℕ} → Memᴰ k (links_at fs ss x ks) → Memᴰ k ks × (touches fs ss x k ≡ true)
  unfolding links_at
  links_at-of [] i = absurd (Memᴰ.not-nil i)
  links_at-of (j ∷ ks) {k} i = step (touches fs ss x j) refl i (links_at-of ks)
    where
      step : (b : Bool) → touches fs ss x j ≡ b → Memᴰ k (cond b (j ∷ links_at fs ss x ks) (links_at fs ss x ks))
          → (Memᴰ k (links_at fs ss x ks) → Memᴰ k ks × (touches fs ss x k ≡ true)) → Memᴰ k (j ∷ ks) × (touches fs ss x k ≡ true)
      step false q i r = let w = r i in (Memᴰ.tail w.0, w.1)
      step true q i r = from (Memᴰ.cases_cons i)
        where
          from : (k ≡ j) ⊎ Memᴰ k (links_at fs ss x ks) → Memᴰ k (j ∷ ks) × (touches fs ss x k ≡ true)
          from (inl e) = (Memᴰ.head e, ap (touches fs ss x) e ∙ q)
          from (inr m) = let w = r m in (Memᴰ.tail w.0, w.1)

  pub links_at_in : (ks : List ℕ) {k : ℕ} → Memᴰ k ks → touches fs ss x k ≡ true → Memᴰ k (links_at fs ss x ks)
  unfolding links_at
  links_at_in [] i t = absurd (Memᴰ.not-nil i)
  links_at_in (j ∷ ks) {k} i t = step (touches fs ss x j) refl (Memᴰ.cases_cons i) (links_at_in ks)
    where
      step : (b : Bool) → touches fs ss x j ≡ b → (k ≡ j) ⊎ Memᴰ k ks → (Memᴰ k ks → touches fs ss x k ≡ true → Memᴰ k (links_at fs ss x ks))
          → Memᴰ k (cond b (j ∷ links_at fs ss x ks) (links_at fs ss x ks))
      step true q (inl e) r = Memᴰ.head e
      step true q (inr m) r = Memᴰ.tail (r m t)
      step false q (inl e) r = clash (ap (touches fs ss x) (sym e) ∙ t) q
      step false q (inr m) r = r m t

module _ {fs ss ks head ends : List ℕ} {nodes : ℕ} (e : ByNode fs ss ks head ends nodes) {x : ℕ} (b : x < nodes) where
  pub run_at : (i : ℕ) → entry head x + i < entry head (x + 1) → entry (links_at fs ss x ks) i ≡ entry ends (entry head x + i)
  run_at i c =
      ap (λ (xs : List ℕ). entry xs i) (sym (e.at x b)) ∙ get_or-drop (entry head x) (take (entry head (x + 1)) ends) i 0
      ∙ get_or-take (entry head (x + 1)) ends (entry head x + i) 0 c

  pub run_length : length (links_at fs ss x ks) ≡ entry head (x + 1) - entry head x
  run_length = ap length (sym (e.at x b)) ∙ length-slice (entry head x) (entry head (x + 1)) ends (e.room x b)

  -- what an entry holds
  pub run_mem : {j : ℕ} → entry head x ≤ j → j < entry head (x + 1) → Memᴰ (entry ends j) (links_at fs ss x ks)
  run_mem {j} l c =
      let d : entry head x + (j - entry head x) ≡ j = omega arith in
      let n = run_length in
      subst (λ (k : ℕ). Memᴰ k (links_at fs ss x ks)) (run_at (j - entry head x) (omega arith) ∙ ap (entry ends) d)
      (at_mem 0 (links_at fs ss x ks) (j - entry head x) (omega arith))

  -- the entry that holds a link
  pub run-place : {k : ℕ} → Memᴰ k (links_at fs ss x ks) → (j : ℕ) × (entry head x ≤ j) × (j < entry head (x + 1)) × (entry ends j ≡ k)
  run-place m =
      let p = mem_at 0 m in
      let n = run_length in
      let c : entry head x + p.0 < entry head (x + 1) = omega (arith, p.1) in
      (entry head x + p.0, omega arith, c, sym (run_at p.0 c) ∙ p.2)

  pub run-known : {j : ℕ} → entry head x ≤ j → j < entry head (x + 1) → Ending fs ss nodes (entry ends j)
  run-known l c = e.known _ (links_at-of fs ss x ks (run_mem l c)).0

pub far_in : {fs ss : List ℕ} {nodes k : ℕ} (x : ℕ) → Ending fs ss nodes k → far fs ss x k < nodes
far_in {fs} {ss} {nodes} {k} x e = go (eqb (entry fs k) x)
  where
    go : (b : Bool) → cond b (entry ss k) (entry fs k) < nodes
    go true = e.second_in
    go false = e.first_in
