-- `op_thickness::network_thickness` meets its contract: the two searches give the reported weights with the link at 0 and at the largest weight.
-- Assumes nothing.
use native.Mathlib.Omega.{arith}
use Rattle.op_thickness.proofs.StepLaws.{outside, low_held, high_held, enough, beyond, within, fits}
use Rattle.op_thickness.proofs.network_thickness.Goals as goal

pub returns-then-link-layout : goal.returns-then-link-layout
returns-then-link-layout c = outside c.requires c.args.link c.args.wanted c.if-link-layout.true

pub invariant_of-without : goal.invariant_of-without
invariant_of-without c = record { held = low_held c.requires c.args.link c.args.wanted c.if-link-layout.false }

pub returns-then-wanted-low : goal.returns-then-wanted-low
returns-then-wanted-low c =
    enough c.requires c.args.link c.args.wanted c.if-link-layout.false c.search_trees-low.ensures c.if-wanted-low.true

pub invariant_of-thickest : goal.invariant_of-thickest
invariant_of-thickest c = record { held = high_held c.requires c.args.link c.args.wanted c.if-link-layout.false }

pub returns-then-high-wanted : goal.returns-then-high-wanted
returns-then-high-wanted c =
    beyond c.requires c.args.link c.args.wanted c.if-link-layout.false c.search_trees-low.ensures c.search_trees-high.ensures (omega (arith, c.if-high-wanted.true))

pub overflow_cast-figure : goal.overflow_cast-figure
overflow_cast-figure c =
    let b = fits c.requires c.args.link c.args.wanted c.if-link-layout.false c.search_trees-low.ensures c.search_trees-high.ensures (omega (arith, c.if-high-wanted.false)) in
    omega arith

pub returns : goal.returns
returns c =
    within c.requires c.args.link c.args.wanted c.if-link-layout.false c.search_trees-low.ensures c.search_trees-high.ensures (omega (arith, c.if-high-wanted.false))
