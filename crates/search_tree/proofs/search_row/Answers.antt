-- What is left to prove of `search_row`.
use Rattle.std.proofs.Common.{ℕ, ◌+◌, ◌<◌, ◌≤◌, Option, Some, None, MatchOption, sym, ◌∙◌, subst, arith}
use Rattle.std.proofs.lemmas.Option.{MatchOption-at_some}
use Rattle.cuts.specs.Candidate.{fewer_nodes, ahead}
use Rattle.tree_rows.specs.Reading.{Heavy, NextLight}
use Rattle.search_order.specs.Visits.{Reached}
use Rattle.search_order.proofs.ReachedLaws.{reached-taken, reached-kept, reached-run}
use Rattle.search_tree.proofs.search_row.Invariants.{UpTo}
use Rattle.search_tree.proofs.search_row.Goals as goal
use Rattle.search_tree.proofs.search_row.Goals.{else-comes_first, then-comes_first, After-next_light-next}

module _ (c : After-next_light-next) where
  abbrev v : ℕ
  v = c.in-Some.v

  abbrev best-at : ℕ → Type 0
  best-at = let a = c.args in UpTo a.figures.now a.nodes a.stops.now a.links.now a.tree a.u a.before c.if-comes_first.best

  here : let a = c.args in (a.u ≤ v) × (v < a.nodes) × UpTo a.figures.now a.nodes a.stops.now a.links.now a.tree a.u a.before c.loop-next.best v
  here = MatchOption-at_some _ _ v c.in-Some.is c.loop-next.invariant

  -- the column v is tried
  tried : best-at (v + 1)
  tried net t x place node h n r =
      let a = c.args in
      let q : v < net.nodes = omega (arith, here.1) in
      let says = c.candidate_at-tried.ensures net t place node h q in
      let reached = here.2 net t x place node h n r in
      let With = Reached (ahead fewer_nodes) x net a.tree t a.links.now a.u (v + 1) in
      elim c.if-comes_first.branch [
        | then-comes_first m ↦
            subst With (sym m.best-is) (reached-taken a.u v h.some here.0 q reached says (sym c.comes_first.ensures ∙ m.if-comes_first.true))
        | else-comes_first m ↦
            subst With (sym m.best-is) (reached-kept a.u v h.some here.0 q reached says (sym c.comes_first.ensures ∙ m.if-comes_first.false))
      ]

  -- the columns that are passed over weigh more
  passed-over : let a = c.args in (to : ℕ) → v + 1 ≤ to → to ≤ a.nodes → Heavy a.figures.now a.nodes a.stops.now a.u (v + 1) c.if-comes_first.best.weight to → best-at to
  passed-over to l b heavy net t x place node h n r =
      reached-run c.args.u (v + 1) h.some (omega (arith, here.0)) (tried net t x place node h n r) to l (omega arith) (heavy net t place node c.args.links.now h n)

  turned : let a = c.args in let limit = c.if-comes_first.best.weight in (next : Option ℕ)
      → MatchOption next (Heavy a.figures.now a.nodes a.stops.now a.u (v + 1) limit a.nodes) (NextLight a.figures.now a.nodes a.stops.now a.u (v + 1) limit)
      → MatchOption next (best-at a.nodes) (λ w. (a.u ≤ w) × (w < a.nodes) × best-at w)
  turned (Some w) e = (omega (arith, here.0, e.behind), e.inside, passed-over w e.behind (omega (arith, e.inside)) e.heavy)
  turned None heavy = passed-over c.args.nodes (omega (arith, here.1)) (omega arith) heavy

pub loop-next-preserved : goal.loop-next-preserved
loop-next-preserved c = turned (goal.at.loop-next-preserved c).After-next_light-next c.next_light-next.result c.next_light-next.ensures
