-- What is left to prove of `place_nodes`.
use Prim.Native.Nat.{ℕ, ◌+◌, ◌%◌}
use mathlib.Core.Path.{◌≡◌, refl, ap, ◌∙◌}
use mathlib.Core.Bool.{cond}
use mathlib.Core.List.{List}
use native.Mathlib.Numerals.{add-one}
use native.Mathlib.Omega.{arith}
use lib.ListN.{length, set, replicate, length-set}
use lib.Dec.{eqb}
use Rattle.std.specs.List.{between}
use borrow.Author.Tests.{eq-eqb, ne_eqb}
use Rattle.cuts.specs.Limits.{most_nodes}
use Rattle.arrays.specs.Lists.{entry}
use Rattle.tree_places.specs.Places.{stop_numbers}
use Rattle.tree_places.specs.Passes.{seat}
use Rattle.tree_places.proofs.SmallLaws.{zeros_within, set-within, after_root, after_root-length}
use Rattle.tree_places.proofs.PlaceLaws.{placing_first, placing_turn}
use Rattle.tree_places.proofs.NestLaws.{placing_last}
use Rattle.tree_places.proofs.place_nodes.Goals as goal
use Rattle.tree_places.proofs.place_nodes.Goals.{Joined-heavy-p, else-heavy-p, then-heavy-p}

abbrev node : Joined-heavy-p → ℕ
node c = entry c.args.g.now.order (c.loop-x.x-index + 1)

abbrev parent : Joined-heavy-p → ℕ
parent c = entry c.args.g.now.parents (node c)

-- the node that is given its place
node-is : (c : Joined-heavy-p) → entry (between 1 c.args.nodes c.args.g.now.order) c.loop-x.x-index ≡ node c
node-is c =
    let a = c.args in
    let n = after_root-length a.g.now.order a.nodes (omega arith) in
    after_root a.g.now.order a.nodes c.loop-x.x-index (omega arith)

-- by either arm, the node has its seat, and its parent's first free place moves on
turn : (c : Joined-heavy-p) →
    let a = c.args in
    let l = c.loop-x in
    let x = node c in
    let p = parent c in
    (c.if-heavy-p.at ≡ seat a.heavy.now l.place l.free p x)
    × (c.if-heavy-p.free
    ≡ cond (eqb (entry a.heavy.now p) x) l.free (set l.free p ((entry l.free p + entry a.sizes.now x) % stop_numbers)))
turn c =
    elim c.if-heavy-p.branch [
      | then-heavy-p w ↦
          let n = ne_eqb _ _ (rw (node-is c) at w.if-heavy-p.true) in
          (rw (n, w.at-is, node-is c) refl, rw (n, w.free-is, w.sum.ensures, node-is c) refl)
      | else-heavy-p w ↦
          let n = eq-eqb _ _ (rw (node-is c) at w.if-heavy-p.false) in
          (rw (n, w.at-is, node-is c) refl, rw (n, w.free-is) refl)
    ]

free-length : (c : Joined-heavy-p) → length c.if-heavy-p.free ≡ most_nodes
free-length c =
    let e = c.loop-x.invariant.2 in
    elim c.if-heavy-p.branch [
      | then-heavy-p w ↦ ap length w.free-is ∙ simp length-set e
      | else-heavy-p w ↦ ap length w.free-is ∙ e
    ]

pub loop-x-init : goal.loop-x-init
loop-x-init c =
    let zeros : List ℕ = replicate most_nodes 0 in
    let e = c.settle.ensures in (
      rw e.place_set,
      rw e.stop_set,
      rw e.free_set,
      rw e.place_set (set-within zeros 0 0 most_nodes refl (omega arith) (zeros_within most_nodes (omega arith))),
      rw e.stop_set (set-within zeros 0 ((0 + entry c.args.sizes.now 0) % stop_numbers) stop_numbers refl (omega arith) (zeros_within stop_numbers (omega arith))),
      λ net t uplinks w s m. rw (e.place_set, e.stop_set, e.free_set, c.size_in.ensures) (placing_first w s m (omega arith) zeros zeros zeros refl refl refl),
    )

pub loop-x-preserved : goal.loop-x-preserved
loop-x-preserved c =
    let l = c.loop-x in
    let j = (goal.at.loop-x-preserved c).Joined-heavy-p in
    let i = l.x-index + 1 in
    let n = after_root-length c.args.g.now.order c.args.nodes (omega arith) in
    let e = c.settle-in-loop-x.ensures in (
      rw (e.place_set, length-set) l.invariant.0,
      rw (e.stop_set, length-set) l.invariant.1,
      rw (e.free_set, length-set) (free-length j),
      rw e.place_set (set-within l.place _ _ most_nodes l.invariant.0 (omega arith) l.invariant.3),
      rw e.stop_set (set-within l.stop _ _ stop_numbers l.invariant.1 (omega arith) l.invariant.4),
      λ net t uplinks w s m.
          rw (add-one i, e.place_set, e.stop_set, e.free_set, c.size_in-in-loop-x.ensures, node-is j)
          (placing_turn w s m (omega arith) i l.place l.stop l.free (omega arith) (omega arith) (l.invariant.5 net t uplinks w s m)
          l.invariant.0 l.invariant.1 l.invariant.2 c.if-heavy-p.at (turn j).0 c.if-heavy-p.free (turn j).1),
    )

pub returns : goal.returns
returns c =
    let l = c.loop-x in
    let n = after_root-length c.args.g.now.order c.args.nodes (omega arith) in
    record {
      stops_known = l.invariant.4;
      placed = λ net t uplinks w s m. placing_last w s m (l.x-index + 1) l.place l.stop l.free (omega arith) (l.invariant.5 net t uplinks w s m);
    }
