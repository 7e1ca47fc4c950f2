-- `tree_sides::counts::side_count` meets its contract: two places name the same links in either order. Assumes nothing.
use Rattle.std.proofs.Common.{◌≡◌, ℕ, min, max, List, ap, ◌∙◌, ap₂, arith}
use Rattle.cuts.specs.Network.{Network, Tree}
use Rattle.cuts.specs.Cut.{size}
use Rattle.cuts.specs.Candidate.{Handle, side_of}
use Rattle.arrays.specs.Lists.{entry}
use Rattle.search_order.specs.Choice.{chosen}
use Rattle.search_order.specs.Visits.{handle_at}
use Rattle.tree_sides.proofs.counts.side_count.Goals as goal

swapped : (net : Network) (t : Tree) (links : List ℕ) (u v : ℕ)
    → size net (side_of net t (handle_at links v u)) ≡ size net (side_of net t (handle_at links u v))
swapped net t links u v =
    let p : min (entry links v) (entry links u) ≡ min (entry links u) (entry links v) = omega arith in
    let q : max (entry links v) (entry links u) ≡ max (entry links u) (entry links v) = omega arith in
    ap (λ (h : Handle). size net (side_of net t h)) (ap₂ chosen p q)

pub returns-then-u-v : goal.returns-then-u-v
returns-then-u-v c net t place node links k i j =
    c.single_count.ensures net t place node links k i.behind i.within
    ∙ ap (λ (v : ℕ). size net (side_of net t (handle_at links c.args.u v))) c.if-u-v.true

pub returns-then-u-v-2 : goal.returns-then-u-v-2
returns-then-u-v-2 c net t place node links k i j = c.pair_count.ensures net t place node links k i.behind j.within

pub returns : goal.returns
returns c net t place node links k i j =
    let a = c.args in
    c.pair_count-2.ensures net t place node links k j.behind i.within ∙ swapped net t links a.u a.v
