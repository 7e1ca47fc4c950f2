-- What is left to prove of `add_links`.
use Rattle.std.proofs.Common.{◌≡◌, ℕ, suc, ◌+◌, ◌-◌, ◌<◌, eqb, List, length, drop, sym, refl, ap, ◌∙◌, arith, length-drop, length-take-le, get_or-drop, get_or-take}
use Rattle.std.specs.List.{between}
use Rattle.cuts.specs.Sums.{sum_to, only}
use Rattle.cuts.specs.Limits.{most_links}
use Rattle.cuts.proofs.SumLaws.{sum_congr}
use Rattle.arrays.specs.Lists.{entry}
use Rattle.arrays.specs.ByNode.{LinksListed}
use Rattle.arrays.specs.declared.Index.{Index}
use Rattle.arrays.specs.declared.Links.{Links}
use Rattle.tree_rows.specs.Rows.{tally}
use Rattle.tree_rows.proofs.RunLaws.{gives, run-links, run-few}
use Rattle.tree_rows.proofs.AddLaws.{adding_start, adding_more}
use Rattle.tree_rows.proofs.add_links.Goals as goal
use Rattle.tree_rows.proofs.add_links.Goals.{In-loop-k}

-- the run of a node's links
abbrev run_of : Index → ℕ → List ℕ
run_of index x = between (entry index.starts x) (entry index.starts (x + 1)) index.runs

module _ (index : Index) (x : ℕ) where
  run-at : (i : ℕ) → entry index.starts x + i < entry index.starts (x + 1) → entry (run_of index x) i ≡ entry index.runs (entry index.starts x + i)
  run-at i l =
      get_or-take (entry index.starts (x + 1) - entry index.starts x) (drop (entry index.starts x) index.runs) i 0 (omega arith)
      ∙ get_or-drop (entry index.starts x) index.runs i 0

  module _ (links : Links) {nodes : ℕ} (h : LinksListed links index nodes) (b : x < nodes) where
    run-length : length (run_of index x) ≡ entry index.starts (x + 1) - entry index.starts x
    run-length = length-take-le _ (drop (entry index.starts x) index.runs) (rw length-drop (omega (arith, h.2.room x b)))

    run-inside : (i : ℕ) → i < length (run_of index x) → entry (run_of index x) i < most_links
    run-inside i l =
        let n = run-length in
        omega (arith, h.1, run-at i (omega arith), run-few {j = entry index.starts x + i} h.0 h.2 b (omega arith) (omega arith))

module _ (c : In-loop-k) where
  link-inside : entry (run_of c.args.index.now c.args.x) c.loop-k.k-index < most_links
  link-inside = let q = c.requires in run-inside c.args.index.now c.args.x c.args.links.now q.links_listed q.node_in c.loop-k.k-index (omega arith)

pub loop-k-init : goal.loop-k-init
loop-k-init c = adding_start _ _ _

pub bounds-links-k : goal.bounds-links-k
bounds-links-k c = link-inside (goal.at.bounds-links-k c).In-loop-k

pub bounds-links-k-in-loop-k : goal.bounds-links-k-in-loop-k
bounds-links-k-in-loop-k c = link-inside (goal.at.bounds-links-k-in-loop-k c).In-loop-k

pub bounds-links-k-in-loop-k-2 : goal.bounds-links-k-in-loop-k-2
bounds-links-k-in-loop-k-2 c = link-inside (goal.at.bounds-links-k-in-loop-k-2 c).In-loop-k

pub loop-k-preserved : goal.loop-k-preserved
loop-k-preserved c =
    let a = c.args in
    let k = entry (run_of a.index.now a.x) c.loop-k.k-index in
    adding_more _ _ _ c.loop-k.invariant (omega arith) (omega arith)
    (λ y. ap (λ (z : ℕ). only (eqb (entry a.p.now.place z) y) (entry a.links.now.weights k)) (sym c.far_end.ensures)) refl

pub returns : goal.returns
returns c net t _ nodes h b = record {
  is = λ y _ m.
      let a = c.args in
      let q = c.requires in
      let i = h.indexed in
      let n = i.laid.held.sized in
      let index : Index = a.index.now in
      let links : Links = a.links.now in
      let place = a.p.now.place in
      let g : ℕ → ℕ = gives links.firsts links.seconds links.weights place a.x y in
      let long = run-length index a.x links q.links_listed q.node_in in
      let sum : sum_to (length (run_of index a.x)) (λ j. g (entry (run_of index a.x) j)) ≡ tally net place (entry place a.x) (suc (entry place a.x)) y
      = sum_congr (length (run_of index a.x)) _ (λ j. g (entry index.runs (entry index.starts a.x + j))) (λ j l. ap g (run-at index a.x j (omega arith)))
      ∙ ap (λ (m : ℕ). sum_to m (λ j. g (entry index.runs (entry index.starts a.x + j)))) long
      ∙ run-links h.kept i.laid i.loopless i.by_node a.x y (omega arith) in
      let done : c.loop-k.k-index ≡ length (run_of index a.x) = omega arith in
      rw done at (c.loop-k.invariant.is y (rw sum m)) ∙ ap (λ (m : ℕ). entry a.tallies.now y + m) sum;
}
