-- The first of what was found before and one tree's candidates, visited in any order, is the first lightest of the list; and what was
-- visited tree after tree is prior to the next one.
-- Assumes nothing.
use Prim.Native.Nat.{ℕ, suc, ◌+◌, ◌<◌}
use mathlib.Core.Path.{◌≡◌, refl, sym, ap, ◌∙◌, subst}
use mathlib.Core.Logic.{◌⊎◌, inl, inr}
use mathlib.Core.Bool.{Bool, true}
use mathlib.Core.List.Memᴰ
use mathlib.Core.List.{List, [], ◌∷◌, ◌++◌, append-nil, append_assoc, Memᴰ}
use native.Mathlib.Numerals.{add-one}
use native.Mathlib.Omega.{arith}
use lib.ListN.{length, take}
use lib.Seq.{take-suc, take-length, length-take-le}
use Rattle.cuts.specs.First.{first_from}
use Rattle.cuts.specs.Network.{Network, Tree, no_tree, tree_at}
use Rattle.cuts.specs.Candidate.{Handle, Fits, Candidate, candidate, candidates_from, candidates, handles, member_links, Earlier, Sooner}
use Rattle.cuts.proofs.ListLaws.{Each, each_map}
use Rattle.cuts.proofs.Least.{Order}
use Rattle.cuts.proofs.Handles.{handle-of, handles-order, members-rising}
use Rattle.search_order.specs.Choice.{FirstOf, earlier, comes_first, tree_candidates, first_trees, Prior, Visited}
use Rattle.search_order.proofs.OrderLaws.{first-same, first-brings, first-listed}
use Rattle.search_order.proofs.PrecedesLaws.{earlier_in}

each_mono : {A : Type 0} {R S : A → A → Type 0} → ((x y : A) → R x y → S x y) → (xs : List A) → Each R xs → Each S xs
each_mono h [] r = tt
each_mono h (x ∷ xs) r = (λ y m. h x y (r.0 y m), each_mono h xs r.1)

-- the first of a list in the order of trees and handles, with one in front
first-behind : {before : Candidate → Candidate → Bool} → Order before → (c : Candidate) (cs : List Candidate) → Each Earlier cs
    → ((d : Candidate) → Memᴰ d cs → (before d c ≡ true) ⊎ Earlier c d) → {f : Candidate}
    → FirstOf (comes_first before) (λ x. (x ≡ c) ⊎ Memᴰ x cs) f → f ≡ first_from before c cs
unfolding comes_first
first-behind {before} o c cs r p v =
    first-listed earlier o c cs ((λ d m. step d (p d m)), each_mono (λ x y e. inr (earlier_in x y e)) cs r) (first-same to (λ x m. Memᴰ.cases_cons m) v)
  where
    step : (d : Candidate) → (before d c ≡ true) ⊎ Earlier c d → (before d c ≡ true) ⊎ (earlier c d ≡ true)
    step d (inl e) = inl e
    step d (inr e) = inr (earlier_in c d e)

    to : (x : Candidate) → (x ≡ c) ⊎ Memᴰ x cs → Memᴰ x (c ∷ cs)
    to x (inl e) = Memᴰ.head e
    to x (inr m) = Memᴰ.tail m

-- ---- one tree

module _ (before : Candidate → Candidate → Bool) (net : Network) (i : ℕ) (t : Tree) where
  pub tree-first : Order before → (c : Candidate) → Prior before net i t c → {f : Candidate}
      → FirstOf (comes_first before) (λ x. (x ≡ c) ⊎ Memᴰ x (tree_candidates net i t)) f → f ≡ first_from before c (tree_candidates net i t)
  unfolding candidate
  tree-first o c p =
      first-behind o c (tree_candidates net i t)
      (each_map Sooner Earlier (λ h. candidate net i t h) (λ g h s. inr (refl, s)) (handles (member_links net t)) (handles-order (member_links net t) (members-rising net t)))
      (λ d m.
      let h = Memᴰ.of_map (λ h. candidate net i t h) (handles (member_links net t)) m in
      subst (λ (x : Candidate). (before x c ≡ true) ⊎ Earlier c x) h.2 (p h.0 (handle-of net t h.0 h.1)))

  -- one of a lower tree is earlier
  pub prior-tree : (c : Candidate) → c.tree < i → Prior before net i t c
  unfolding candidate
  prior-tree c l = λ h m. inr (inl l)

-- ---- the trees one after the other

candidates_from-append : (net : Network) (i : ℕ) (ts us : List Tree) → candidates_from net i (ts ++ us) ≡ candidates_from net i ts ++ candidates_from net (i + length ts) us
unfolding candidates_from
candidates_from-append net i [] us = ap (λ (k : ℕ). candidates_from net k us) (omega arith)
candidates_from-append net i (t ∷ ts) us =
    let e : suc i + length ts ≡ i + suc (length ts) = omega arith in
    ap (λ (cs : List Candidate). tree_candidates net i t ++ cs) (candidates_from-append net (suc i) ts us ∙ ap (λ (k : ℕ). candidates_from net (suc i) ts ++ candidates_from net k us) e)
    ∙ sym (append_assoc (tree_candidates net i t) (candidates_from net (suc i) ts) (candidates_from net (i + suc (length ts)) us))

pub first_trees-next : (net : Network) (i : ℕ) → i < length net.trees → first_trees net (i + 1) ≡ first_trees net i ++ tree_candidates net i (tree_at net i)
unfolding candidates_from
first_trees-next net i b =
    let t : Tree = tree_at net i in
    let e : 0 + length (take i net.trees) ≡ i = let l = length-take-le i net.trees (omega arith) in omega arith in
    ap (λ (k : ℕ). first_trees net k) (add-one i) ∙ ap (candidates_from net 0) (take-suc net.trees i no_tree b)
    ∙ candidates_from-append net 0 (take i net.trees) (t ∷ [])
    ∙ ap (λ (k : ℕ). first_trees net i ++ candidates_from net k (t ∷ [])) e
    ∙ ap (λ (cs : List Candidate). first_trees net i ++ cs) (append-nil (tree_candidates net i t))

pub first_trees-all : (net : Network) (i : ℕ) → i ≡ length net.trees → first_trees net i ≡ candidates net
unfolding candidates
first_trees-all net i e = ap (candidates_from net 0) (ap (λ (k : ℕ). take k net.trees) e ∙ take-length net.trees)

module _ (net : Network) (c : Candidate) (i : ℕ) (b : i < length net.trees) (x : Candidate) where
  visited_in : Visited net c i x ⊎ Memᴰ x (tree_candidates net i (tree_at net i)) → Visited net c (i + 1) x
  visited_in (inl (inl e)) = inl e
  visited_in (inl (inr m)) = inr (subst (Memᴰ x) (sym (first_trees-next net i b)) (Memᴰ.append_left (tree_candidates net i (tree_at net i)) m))
  visited_in (inr m) = inr (subst (Memᴰ x) (sym (first_trees-next net i b)) (Memᴰ.append_right (first_trees net i) m))

-- ---- what was visited before a tree is prior to it

candidates_from-below : (net : Network) (i : ℕ) (ts : List Tree) (x : Candidate) → Memᴰ x (candidates_from net i ts) → x.tree < i + length ts
unfolding candidates_from candidate
candidates_from-below net i [] x m = absurd (Memᴰ.not-nil m)
candidates_from-below net i (t ∷ ts) x m = step (candidates_from-below net (suc i) ts x) (Memᴰ.append_cases (tree_candidates net i t) m)
  where
    step : (Memᴰ x (candidates_from net (suc i) ts) → x.tree < suc i + length ts) → Memᴰ x (tree_candidates net i t) ⊎ Memᴰ x (candidates_from net (suc i) ts)
        → x.tree < i + suc (length ts)
    step r (inl k) =
        let h = Memᴰ.of_map (λ h. candidate net i t h) (handles (member_links net t)) k in
        let e : i ≡ x.tree = ap (λ (y : Candidate). y.tree) h.2 in
        omega arith
    step r (inr k) = let l = r k in omega arith

module _ (before : Candidate → Candidate → Bool) (net : Network) (start : Candidate) (i : ℕ) (b : i < length net.trees) (c : Candidate) (v : Visited net start i c) where
  pub prior-visited : ((h : Handle) → Fits net (tree_at net i) h → before (candidate net i (tree_at net i) h) start ≡ true) → Prior before net i (tree_at net i) c
  prior-visited l = step v
    where
      step : Visited net start i c → Prior before net i (tree_at net i) c
      step (inl e) = λ h m. inl (subst (λ (x : Candidate). before (candidate net i (tree_at net i) h) x ≡ true) (sym e) (l h m))
      step (inr m) =
          prior-tree before net i (tree_at net i) c
          (let k = candidates_from-below net 0 (take i net.trees) c m in let q = length-take-le i net.trees (omega arith) in omega arith)

  pub visited-more : Order before → Visited net start (i + 1) (first_from before c (tree_candidates net i (tree_at net i)))
  visited-more o = step _ (first-brings o c (tree_candidates net i (tree_at net i)))
    where
      step : (f : Candidate) → (f ≡ c) ⊎ ((before f c ≡ true) × Memᴰ f (tree_candidates net i (tree_at net i))) → Visited net start (i + 1) f
      step f (inl e) = visited_in net start i b f (inl (subst (Visited net start i) (sym e) v))
      step f (inr p) = visited_in net start i b f (inr p.1)
