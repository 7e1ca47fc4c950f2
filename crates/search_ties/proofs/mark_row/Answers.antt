-- What is left to prove of `mark_row`.
use Rattle.std.proofs.Common.{ℕ, ◌+◌, ◌<◌, ◌≤◌, List, Option, Some, None, MatchOption, sym, ap, ◌∙◌, subst, arith}
use Rattle.std.proofs.lemmas.Option.{MatchOption-at_some, MatchOption-at_none}
use Rattle.cuts.specs.Candidate.{weight_of}
use Rattle.search_order.proofs.LinkLaws.{handle-one}
use Rattle.tree_rows.specs.declared.Figures.{Figures}
use Rattle.tree_rows.specs.Reading.{Heavy, NextLight}
use Rattle.search_ties.specs.Ties.{InRows, LightMarked}
use Rattle.search_ties.proofs.MarkLaws.{row-start, mark_pair, pass_pair, pass_run}
use Rattle.search_ties.proofs.mark_row.Invariants.{UpTo, LightAt}
use Rattle.search_ties.proofs.mark_row.Goals as goal
use Rattle.search_ties.proofs.mark_row.Goals.{else-figures-u, then-figures-u}

-- from what was passed up to `from`, what is passed up to the next light pair, or to the end where there is none
turned : {figures : Figures} {nodes u limit : ℕ} {stops rank before table : List ℕ} (from : ℕ) (next : Option ℕ) → u < from → from ≤ nodes
    → UpTo figures nodes stops rank u limit before table from
    → MatchOption next (Heavy figures nodes stops u from limit nodes) (NextLight figures nodes stops u from limit)
    → MatchOption next (UpTo figures nodes stops rank u limit before table nodes)
    (λ v. (u < v) × (v < nodes) × LightAt figures nodes stops u limit v × UpTo figures nodes stops rank u limit before table v)
turned {u = u} from (Some v) a b h e = (
  omega (arith, e.behind),
  e.inside,
  e.light,
  λ net t place node links r n m. pass_run u from v r.some (omega arith) e.behind (omega (arith, e.inside)) (e.heavy net t place node links r n) (h net t place node links r n m),
)
turned {nodes = nodes} {u = u} from None a b h heavy =
    λ net t place node links r n m. pass_run u from nodes r.some (omega arith) b (omega arith) (heavy net t place node links r n) (h net t place node links r n m)

pub loop-next-init : goal.loop-next-init
loop-next-init c = turned (c.args.u + 1) c.next_light-next.result (omega arith) (omega (arith, c.requires.inside)) (λ net t place node links r n m. m) c.next_light-next.ensures

pub loop-next-preserved : goal.loop-next-preserved
loop-next-preserved c =
    let u = c.args.u in
    let v = c.in-Some.v in
    let here = MatchOption-at_some _ _ v c.in-Some.is c.loop-next.invariant in
    turned (v + 1) c.next_light-next-in-Some.result (omega (arith, here.0)) (omega (arith, here.1))
    (λ net t place node links r n m.
    mark_pair u v r.some (omega (arith, here.0)) here.1 (here.3 net t place node links r n m) (here.2 net t place node links r n)
    c.cell-in-Some.ensures.is c.set_bit-in-Some.ensures)
    c.next_light-next-in-Some.ensures

pub returns : goal.returns
returns c net t place node links h n r =
    let a = c.args in
    let u = a.u in
    let d : u < net.nodes = omega (arith, c.requires.inside) in
    let weight = h.row.alone u (omega arith) d ∙ ap (weight_of net t) (sym (handle-one links u)) in
    let begun = row-start u r in
    let With : List ℕ → Type 0 = LightMarked net t links a.rank.now (InRows a.nodes u (u + 1)) a.limit in
    let alone : With c.if-figures-u.table =
    elim c.if-figures-u.branch [
      | then-figures-u w ↦
          subst With (sym w.table-is) (mark_pair u u h.some (omega arith) c.requires.inside begun (rw (← weight) w.if-figures-u.true) w.cell.ensures.is w.set_bit.ensures)
      | else-figures-u w ↦
          subst With (sym w.table-is) (pass_pair u u h.some (omega arith) c.requires.inside begun (rw (← weight) w.if-figures-u.false))
    ] in
    let all : UpTo a.figures.now a.nodes a.stops.now a.rank.now u a.limit c.if-figures-u.table c.loop-next.table a.nodes
    = MatchOption-at_none _ _ c.in_default.is c.loop-next.invariant in
    all net t place node links h n alone
