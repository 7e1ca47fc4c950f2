-- What is left to prove of `count_trees`.
use Prim.Native.Nat.{ℕ, ◌+◌, ◌≤◌}
use mathlib.Core.Path.{◌≡◌, refl, ap, ◌∙◌}
use native.Mathlib.Omega.{arith}
use lib.ListN.{length, drop}
use Rattle.cuts.specs.Limits.{most_links}
use Rattle.sheet.specs.Bytes.{number}
use Rattle.sheet.specs.Sheet.{tree_length}
use Rattle.arrays.specs.Records.{record_of, map_at}
use Rattle.read_sheet.proofs.TreeLaws.{record_inside}
use Rattle.packing.proofs.ShareLaws.{loaded-none, loaded-more, loaded-same, overfilled, all_counted, run_counted}
use Rattle.packing.proofs.count_trees.Goals as goal
use Rattle.packing.proofs.count_trees.Goals.{After-count_tree}

module _ (c : After-count_tree) where
  -- the map of the record
  slice : let a = c.args in c.tree_map-map.result.now ≡ map_at a.bytes.now (record_of a.layout c.loop-i.i) a.layout.links
  slice = let a = c.args in c.tree_map-map.ensures ∙ ap (λ (p : ℕ). map_at a.bytes.now p a.layout.links) c.record_at-at.ensures

  -- its share
  share_is : let a = c.args in c.four-share.result ≡ number 4 (drop (record_of a.layout c.loop-i.i) a.bytes.now)
  share_is = c.four-share.ensures ∙ ap (λ (p : ℕ). number 4 (drop p c.args.bytes.now)) c.record_at-at.ensures

  -- it ends within the sheet
  whole : let a = c.args in record_of a.layout c.loop-i.i + tree_length a.layout.links ≤ length a.bytes.now
  whole =
      let a = c.args in
      let l = a.layout in
      record_inside l.records l.trees (tree_length l.links) (length a.bytes.now) c.loop-i.i c.requires.trees_there.inside c.loop-i-test.true

pub loop-i-init : goal.loop-i-init
loop-i-init c =
    let a = c.args in
    rw c.requires.none (loaded-none a.bytes.now a.weights.now a.layout.records a.layout.links most_links refl c.requires.trees_there.few_links)

pub loop-i-preserved : goal.loop-i-preserved
loop-i-preserved c =
    let t = (goal.at.loop-i-preserved c).After-count_tree in
    rw c.from-sum.ensures (loaded-more c.loop-i.invariant refl (slice t) (whole t) (share_is t) c.count_tree.ensures c.count_tree.auto.loads
    c.if-not-count_tree.false c.four-share.type_inv)

pub returns-after-loop-i : goal.returns-after-loop-i
returns-after-loop-i c = all_counted c.requires.trees_there.few_trees c.loop-i.invariant (omega arith)

pub returns-then-not-count_tree : goal.returns-then-not-count_tree
returns-then-not-count_tree c =
    let t = (goal.at.returns-then-not-count_tree c).After-count_tree in
    let i = c.loop-i.invariant in
    let ends = c.if-not-count_tree.true in
    run_counted c.requires.trees_there.few_trees (loaded-same i refl (slice t) (whole t) (share_is t) c.count_tree.ensures c.count_tree.auto.loads ends)
    c.loop-i-test.true (overfilled i refl (slice t) (whole t) (share_is t) c.count_tree.ensures c.count_tree.auto.loads ends)
