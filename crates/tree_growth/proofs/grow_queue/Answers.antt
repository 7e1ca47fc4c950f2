-- What is left to prove of `grow_queue`.
use Prim.Native.Nat.{ℕ, ◌<◌}
use mathlib.Core.Path.{◌≡◌, refl, ◌∙◌}
use mathlib.Core.List.{List}
use native.Mathlib.Omega.{arith}
use borrow.Author.Rules.{rules}
use lib.ListN.{length, replicate, get_or-replicate}
use Rattle.arrays.specs.Lists.{entry}
use Rattle.arrays.proofs.GrowthLaws.{growing-start}
use Rattle.arrays.specs.Links.{Ending}
use Rattle.by_node.proofs.EndsLaws.{far_in}
use Rattle.tree_growth.proofs.QueueLaws.{listed, marked-is, marks-set, listed-known, queue-start, queue-lacks, run_pass, run_step, run_end, grown_stuck, grown-done}
use Rattle.tree_growth.proofs.grow_queue.Goals as goal
use Rattle.tree_growth.proofs.grow_queue.Goals.{In-loop-k, Then-not-reached-y, else-not-reached-y, then-not-reached-y}

-- the members of the node that is taken
abbrev members : In-loop-k → List ℕ
members c = listed c.args.starts.now c.args.runs.now (entry c.loop-found.tree.order c.loop-found.i)

-- the node that is taken
module _ (c : In-loop-k) where
  x-next : c.loop-found.i < c.loop-found.found
  x-next = let q = c.loop-found.invariant.queue.behind in omega arith

  x_in : entry c.loop-found.tree.order c.loop-found.i < c.args.nodes
  x_in = let l = c.loop-found in l.invariant.queue.within l.i x-next

  -- its member at k
  k_in : c.loop-k.k-index < length (members c)
  k_in = c.loop-k-test.true

  k-known : Ending c.args.firsts.now c.args.seconds.now c.args.nodes (entry (members c) c.loop-k.k-index)
  k-known = listed-known c.requires.by_node x_in k_in

-- a node at its far end is not among those found
lacks : (c : Then-not-reached-y) → c.far_end-y.result < c.args.nodes → c.loop-k.found < 256
lacks c b =
    let y = c.far_end-y.result in
    queue-lacks c.loop-k.invariant.run.queue {y = y} (omega arith) (marked-is c.loop-k.reached y ∙ c.if-not-reached-y.true)

pub loop-found-init : goal.loop-found-init
loop-found-init c =
    let a = c.args in
    let z : (x : ℕ) → x < 256 → entry (replicate 256 0) x ≡ 0 = λ x b. get_or-replicate 256 x 0 0 b in
    record {
      parents_room = search rules;
      uplinks_room = search rules;
      queue = queue-start (replicate 256 0) a.tree.now.order (omega arith) refl (omega arith) z;
      growing = λ net t h e. let s = h.sized in
          growing-start h.linked (replicate 256 0) a.tree.now.order a.tree.now.parents a.tree.now.uplinks (omega arith) (omega arith) (omega arith) (omega arith)
          (λ x b. z x (omega arith));
    }

pub returns-then-i-found : goal.returns-then-i-found
returns-then-i-found c =
    λ net t h e.
    let r = c.loop-found.invariant in
    grown_stuck h e (r.growing net t h e) r.queue c.if-i-found.true c.loop-found-test.true

pub slice_bounds-k-items-end : goal.slice_bounds-k-items-end
slice_bounds-k-items-end c =
    let l = c.loop-found in
    let q = l.invariant.queue in
    c.requires.by_node.room _ (q.within l.i (let z = q.behind in omega arith))

pub bounds-firsts-k : goal.bounds-firsts-k
bounds-firsts-k c = (k-known (goal.at.bounds-firsts-k c).In-loop-k).in_firsts

pub bounds-seconds-k : goal.bounds-seconds-k
bounds-seconds-k c = (k-known (goal.at.bounds-seconds-k c).In-loop-k).in_seconds

pub bounds-tree-found : goal.bounds-tree-found
bounds-tree-found c =
    let y : c.far_end-y.result < c.args.nodes = rw c.far_end-y.ensures (far_in _ (k-known (goal.at.bounds-tree-found c).In-loop-k)) in
    lacks (goal.at.bounds-tree-found c).Then-not-reached-y y

pub overflow_add-found : goal.overflow_add-found
overflow_add-found c =
    let y : c.far_end-y.result < c.args.nodes = rw c.far_end-y.ensures (far_in _ (k-known (goal.at.overflow_add-found c).In-loop-k)) in
    omega (arith, lacks (goal.at.overflow_add-found c).Then-not-reached-y y)

pub loop-k-preserved : goal.loop-k-preserved
loop-k-preserved c =
    let r = c.loop-k.invariant in
    let i = (goal.at.loop-k-preserved c).In-loop-k in
    let y = c.far_end-y.result in
    let e = c.far_end-y.ensures in
    elim c.if-not-reached-y.branch [
      | then-not-reached-y w ↦
          rw (w.tree-is, w.reached-is, w.found-is, marks-set c.loop-k.reached y)
          (run_step r e (rw e (far_in _ (k-known i))) (omega arith) (k_in i) (marked-is c.loop-k.reached y ∙ w.if-not-reached-y.true))
      | else-not-reached-y w ↦ rw (w.tree-is, w.reached-is, w.found-is)
          (run_pass r (rw e at (marked-is c.loop-k.reached y ∙ w.if-not-reached-y.false)))
    ]

pub loop-found-preserved : goal.loop-found-preserved
loop-found-preserved c = run_end c.loop-k.invariant c.loop-k-test.false

pub returns : goal.returns
returns c =
    λ net t h e. grown-done h e (c.loop-found.invariant.growing net t h e) c.loop-found-test.false
