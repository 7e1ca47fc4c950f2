-- `tree_sides::counts::pair_count` meets its contract: below a link lie no more nodes than below one above it, and the nodes below two that are
-- apart have different places, so that neither the difference nor the sum wraps.
-- Assumes nothing.
use Rattle.std.proofs.Common.{◌≡◌, ℕ, ◌+◌, ◌<◌, List, arith}
use Rattle.cuts.specs.Network.{Network, Tree}
use Rattle.cuts.specs.Cut.{size}
use Rattle.cuts.specs.Candidate.{side_of}
use Rattle.arrays.specs.Lists.{entry}
use Rattle.arrays.specs.Kept.{Kept}
use Rattle.search_order.specs.Visits.{handle_at}
use Rattle.tree_sides.proofs.CountLaws.{single-count, pair_nested, pair-apart}
use Rattle.tree_sides.proofs.counts.pair_count.Goals as goal
use Rattle.tree_sides.proofs.counts.pair_count.Goals.{After-single_count-of_v}

stop-small : (c : After-single_count-of_v) → entry c.args.stops.now c.args.u < 257
stop-small c = let b = c.requires.place in c.requires.stops_known c.args.u (omega (arith, c.requires.rises))

-- how many nodes the links at the two places have below them, each: as many as places up to its stop, which is known
known : (c : After-single_count-of_v) → let a = c.args in
    (net : Network) (t : Tree) (place node links : List ℕ) → Kept net t place node a.stops.now links
    → 0 < a.u → a.v < net.nodes → let count : ℕ → ℕ = λ p. size net (side_of net t (handle_at links p p)) in
    (c.single_count-of_u.result ≡ count a.u) × (count a.u + a.u ≡ entry a.stops.now a.u) × (entry a.stops.now a.u < 257)
    × (c.single_count-of_v.result ≡ count a.v) × (count a.v + a.v ≡ entry a.stops.now a.v) × (entry a.stops.now a.v < 257)
known c net t place node links k z b =
    let l = c.requires.rises in (
      c.single_count-of_u.ensures net t place node links k z (omega arith),
      single-count k c.args.u z (omega arith),
      stop-small c,
      c.single_count-of_v.ensures net t place node links k (omega arith) b,
      single-count k c.args.v (omega arith) b,
      c.requires.stops_known c.args.v c.requires.place,
    )

pub returns-then-v-stops : goal.returns-then-v-stops
returns-then-v-stops c net t place node links k z b =
    let n = known (goal.at.returns-then-v-stops c).After-single_count-of_v net t place node links k z b in
    let nested = pair_nested k c.args.u c.args.v z c.requires.rises b c.if-v-stops.true in
    omega (arith, n.0, n.1, n.2, n.3)

pub returns : goal.returns
returns c net t place node links k z b =
    let n = known (goal.at.returns c).After-single_count-of_v net t place node links k z b in
    let apart = pair-apart k c.args.u c.args.v z c.requires.rises b c.if-v-stops.false in
    omega (arith, n.0, n.1, n.3, n.4, n.5)
