-- What is left to prove of `next_light`.
use Rattle.std.proofs.Common.{◌≡◌, ℕ, ◌<◌, ◌≤◌, List, add-one, arith}
use Rattle.cuts.specs.Network.{Network, Tree}
use Rattle.cuts.specs.Candidate.{weight_of}
use Rattle.cuts.proofs.SumLaws.{all-suc}
use Rattle.search_order.specs.Visits.{handle_at}
use Rattle.tree_rows.specs.Reading.{RowHeld}
use Rattle.tree_rows.proofs.Figures.next_light.Goals as goal
use Rattle.tree_rows.proofs.Figures.next_light.Goals.{After-pair_weight}

-- what the pair at the loop's place weighs
weighed : (c : After-pair_weight) → let a = c.args in let v = c.loop-v.v in
    (net : Network) (t : Tree) (place node links : List ℕ) → RowHeld net t place node a.stops.now links a.u a.self.now → net.nodes ≡ a.nodes
    → c.pair_weight.result ≡ weight_of net t (handle_at links a.u v)
weighed c net t place node links h n = c.pair_weight.ensures net t place node links h (omega arith)

pub returns-then-pair_weight-limit : goal.returns-then-pair_weight-limit
returns-then-pair_weight-limit c =
    let i = c.loop-v.invariant in
    record {
      behind = omega arith;
      inside = omega arith;
      heavy = i;
      light = λ net t place node links h n. rw (← weighed (goal.at.returns-then-pair_weight-limit c).After-pair_weight net t place node links h n) (omega arith);
    }

pub loop-v-preserved : goal.loop-v-preserved
loop-v-preserved c =
    let i = c.loop-v.invariant in
    let s = c.args in
    λ net t place node links h n x a d.
    all-suc (λ x. s.from ≤ x → s.limit < weight_of net t (handle_at links s.u x)) c.loop-v.v
    (λ x d a. i net t place node links h n x a d)
    (λ _. rw (← weighed (goal.at.loop-v-preserved c).After-pair_weight net t place node links h n) (omega arith))
    x (rw (← add-one c.loop-v.v) d) a

pub returns : goal.returns
returns c net t place node links h n x a b = c.loop-v.invariant net t place node links h n x a (omega arith)
