-- `search_tree::candidate_at` meets its contract: the figures have the weight of the link alone, and the row gives that of a pair.
-- Assumes nothing.
use Prim.Native.Nat.{ℕ, ◌<◌}
use mathlib.Core.Path.{sym, ap, ◌∙◌, subst}
use native.Mathlib.Omega.{arith}
use Rattle.cuts.specs.Candidate.{candidate, weight_of}
use Rattle.search_order.specs.Choice.{Says}
use Rattle.search_order.specs.Visits.{handle_at}
use Rattle.search_order.proofs.ReachedLaws.{says-pair}
use Rattle.search_order.proofs.LinkLaws.{handle-one}
use Rattle.search_tree.proofs.candidate_at.Goals as goal

pub returns-then-u-v : goal.returns-then-u-v
returns-then-u-v c net t place node h b =
    let a = c.args in
    let u = a.u in
    let ls = a.links.now in
    let e = c.if-u-v.true in
    let d : u < net.nodes = omega (arith, e) in
    let weight = h.row.alone u (omega arith) d ∙ ap (weight_of net t) (sym (handle-one ls u)) in
    subst (λ (v : ℕ). Says c.pair_of.result (candidate net a.tree t (handle_at ls u v))) e
    (says-pair net t ls u u c.pair_of.ensures weight (c.single_count-below.ensures net t place node ls h.kept h.some d))

pub returns : goal.returns
returns c net t place node h b =
    let a = c.args in
    let ls = a.links.now in
    says-pair net t ls a.u a.v c.pair_of-2.ensures (c.pair_weight-weight.ensures net t place node ls h b) (c.pair_count-count.ensures net t place node ls h.kept h.some b)
