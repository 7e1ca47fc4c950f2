-- The candidates of the trees still to come.
-- Assumes nothing.
use Prim.Native.Nat.{ℕ, ◌+◌, ◌<◌}
use native.Mathlib.Decide.{dec_lt}
use mathlib.Core.Path.{◌≡◌, refl, sym, ap, ◌∙◌, subst}
use mathlib.Core.Logic.{◌⊎◌, inl, inr}
use mathlib.Core.Bool.{true}
use mathlib.Core.List.Memᴰ
use mathlib.Core.List.{List, [], ◌++◌, Memᴰ}
use native.Mathlib.Numerals.{add-one}
use native.Mathlib.Omega.{arith}
use lib.ListN.{length, drop}
use lib.Seq.{drop-length, drop-cons}
use lib.Dec.{ltb}
use Rattle.cuts.specs.First.{first_from}
use Rattle.cuts.specs.Network.{Tree, Network, no_tree, tree_at}
use Rattle.cuts.specs.Cut.{cut_weight}
use Rattle.cuts.specs.Tree.{Sound}
use Rattle.cuts.specs.Limits.{Light}
use Rattle.cuts.specs.Candidate.{Candidate, candidate, handles, member_links, candidates_from, candidates, fewer_nodes, ahead, no_candidate, side_of}
use Rattle.cuts.specs.Answer.{reported}
use Rattle.cuts.proofs.CutLaws.{weight_of-is}
use Rattle.cuts.proofs.LimitLaws.{side-most}
use Rattle.cuts.proofs.Least.{first_from-first_of, first_from-append}
use Rattle.cuts.proofs.Handles.{candidate-of, candidate_in}
use Rattle.cuts.proofs.ThenLaws.{by-number_in}
use Rattle.cuts.proofs.Demands.{ahead-weighing, some-candidate}
use Rattle.search_order.specs.Choice.{Says, Prior, Visited, tree_candidates, first_trees, chosen, no_weight, unfound}
use Rattle.search_order.specs.declared.Found.{Found}
use Rattle.search_order.proofs.OrderLaws.{first-brings}
use Rattle.search_order.proofs.TreeLaws.{prior-visited, visited-more}

-- no candidate is as heavy as where a search starts
pub candidate-light : (net : Network) → Light net → (c : Candidate) → Memᴰ c (candidates net) → c.weight < no_weight
unfolding candidate
candidate-light net l c m =
    let t : Tree = tree_at net c.tree in
    let e : c.weight ≡ cut_weight net (side_of net t c.handle) = ap (λ (x : Candidate). x.weight) (candidate-of net c m).is ∙ weight_of-is net t c.handle in
    let w = side-most net l (side_of net t c.handle) in
    omega arith

ahead-unfound : (net : Network) → Light net → (c : Candidate) → Memᴰ c (candidates net) → ahead fewer_nodes c unfound ≡ true
unfolding ahead
ahead-unfound net l c m =
    by-number_in (λ c. c.weight) (λ c d. ltb (fewer_nodes c) (fewer_nodes d)) c unfound (inl (candidate-light net l c m))

-- those of one tree, then those of the trees behind it
candidates_from-drop : (net : Network) (i : ℕ) → i < length net.trees
    → candidates_from net i (drop i net.trees) ≡ tree_candidates net i (tree_at net i) ++ candidates_from net (i + 1) (drop (i + 1) net.trees)
unfolding candidates_from
candidates_from-drop net i b = rw (add-one i) (ap (candidates_from net i) (drop-cons net.trees i no_tree b))

-- what is found was visited in the trees before i, and with those from i on leads to the one that is reported
pub record Visiting (net : Network) (best : Found) (i : ℕ) : Type 0 where
  pub so_far : Candidate
  pub says : Says best so_far
  pub visited : Visited net unfound i so_far
  pub leads : first_from (ahead fewer_nodes) so_far (candidates_from net i (drop i net.trees)) ≡ reported fewer_nodes net

module _ (net : Network) (sound : Sound net) (light : Light net) {best : Found} where
  pub trees-start : Says best unfound → Visiting net best 0
  unfolding reported candidates
  trees-start h = record {
    so_far = unfound;
    says = h;
    visited = inl refl;
    leads = first_from-first_of (ahead fewer_nodes) no_candidate unfound (candidates net) (some-candidate net sound).1 (ahead-unfound net light);
  }

  prior : (i : ℕ) → i < length net.trees → (w : Visiting net best i) → Prior (ahead fewer_nodes) net i (tree_at net i) w.so_far
  prior i b w =
      prior-visited (ahead fewer_nodes) net unfound i b w.so_far w.visited
      (λ g f. ahead-unfound net light (candidate net i (tree_at net i) g) (candidate_in net i g b f))

  -- a tree searched
  pub trees-more : (i : ℕ) → i < length net.trees → {next : Found} → Visiting net best i
      → ((c : Candidate) → Prior (ahead fewer_nodes) net i (tree_at net i) c → Says best c → Says next (first_from (ahead fewer_nodes) c (tree_candidates net i (tree_at net i))))
      → Visiting net next (i + 1)
  trees-more i b w h =
      let c : Candidate = w.so_far in
      let t : Tree = tree_at net i in
      let xs : List Candidate = tree_candidates net i t in
      let ys : List Candidate = candidates_from net (i + 1) (drop (i + 1) net.trees) in
      record {
        so_far = first_from (ahead fewer_nodes) c xs;
        says = h c (prior i b w) w.says;
        visited = visited-more (ahead fewer_nodes) net unfound i b c w.visited (ahead-weighing fewer_nodes).order;
        leads = sym (first_from-append (ahead fewer_nodes) c xs ys) ∙ ap (first_from (ahead fewer_nodes) c) (sym (candidates_from-drop net i b)) ∙ w.leads;
      }

  -- where another tree than i brought what is found, it is what was found before
  pub brought_before : (i : ℕ) (b : i < length net.trees) → {next : Found} → Visiting net best i
      → ((c : Candidate) → Prior (ahead fewer_nodes) net i (tree_at net i) c → Says best c → Says next (first_from (ahead fewer_nodes) c (tree_candidates net i (tree_at net i))))
      → (next.tree ≡ i → ⊥) → (0 < i) × (next.tree ≡ best.tree) × (chosen next.first next.second ≡ chosen best.first best.second)
  unfolding candidates_from candidate
  brought_before i b {next} w h other = step (first-brings (ahead-weighing fewer_nodes).order c xs)
    where
      c : Candidate
      c = w.so_far

      xs : List Candidate
      xs = tree_candidates net i (tree_at net i)

      says : Says next (first_from (ahead fewer_nodes) c xs)
      says = h c (prior i b w) w.says

      -- before tree 0 nothing was found
      from_0 : i ≡ 0 → Visited net unfound i c → c.tree ≡ 0
      from_0 e (inl q) = ap (λ (x : Candidate). x.tree) q
      from_0 e (inr m) = absurd (Memᴰ.not-nil (subst (λ (k : ℕ). Memᴰ c (first_trees net k)) e m))

      step : (first_from (ahead fewer_nodes) c xs ≡ c) ⊎ ((ahead fewer_nodes (first_from (ahead fewer_nodes) c xs) c ≡ true) × Memᴰ (first_from (ahead fewer_nodes) c xs) xs)
          → (0 < i) × (next.tree ≡ best.tree) × (chosen next.first next.second ≡ chosen best.first best.second)
      step (inl e) =
          let tree : next.tree ≡ c.tree = says.tree ∙ ap (λ (x : Candidate). x.tree) e in (
            later (dec_lt 0 i) tree,
            tree ∙ sym w.says.tree,
            says.handle ∙ ap (λ (x : Candidate). x.handle) e ∙ sym w.says.handle,
          )
        where
          later : Dec (0 < i) → next.tree ≡ c.tree → 0 < i
          later (yes l) q = l
          later (no l) q = let z : i ≡ 0 = omega arith in absurd (other (q ∙ from_0 z w.visited ∙ sym z))
      step (inr m) = absurd (other (says.tree ∙ of_tree m.1))
        where
          of_tree : Memᴰ (first_from (ahead fewer_nodes) c xs) xs → (first_from (ahead fewer_nodes) c xs).tree ≡ i
          of_tree k = let g = Memᴰ.of_map (λ g. candidate net i (tree_at net i) g) (handles (member_links net (tree_at net i))) k in sym (ap (λ (x : Candidate). x.tree) g.2)

  pub trees_done : (i : ℕ) → i ≡ length net.trees → Visiting net best i → Says best (reported fewer_nodes net)
  unfolding candidates_from first_from
  trees_done i e w =
      let none : drop i net.trees ≡ [] = ap (λ (k : ℕ). drop k net.trees) e ∙ drop-length net.trees in
      subst (Says best) (ap (λ (ts : List Tree). first_from (ahead fewer_nodes) w.so_far (candidates_from net i ts)) (sym none) ∙ w.leads) w.says
