-- What is left to prove of `search_listed`.
use mathlib.Core.Path.{◌≡◌, refl, sym, subst}
use lib.ListN.{length}
use native.Mathlib.Omega.{arith}
use Rattle.cuts.specs.First.{first_from}
use Rattle.cuts.specs.Network.{Network, tree_at}
use Rattle.cuts.specs.Candidate.{Candidate, fewer_nodes, ahead}
use Rattle.arrays.specs.Sheets.{network_of}
use Rattle.tree_rows.proofs.ListedLaws.{listed-searchable, listed-held}
use Rattle.search_order.specs.Choice.{Says, Prior, tree_candidates}
use Rattle.read_sheet.proofs.NetworkLaws.{network_at-trees}
use Rattle.sheet_trees.proofs.TreeLaws.{tree_listed}
use Rattle.search_sheet.proofs.ToComeLaws.{trees-start, trees-more, brought_before, trees_done}
use Rattle.search_sheet.proofs.SideLaws.{SideKept, side_same, side_made, side-reported}
use Rattle.search_sheet.proofs.search_listed.Goals as goal
use Rattle.search_sheet.proofs.search_listed.Goals.{After-search_tree-best, Joined-best-i, else-best-i, then-best-i}

-- what was found of the tree itself
searched : (c : After-search_tree-best) → let l = c.loop-i in let m = network_of c.args.n.now.sheet in let t = tree_at m l.i in
    (d : Candidate) → Prior (ahead fewer_nodes) m l.i t d → Says l.best d → Says c.search_tree-best.result (first_from (ahead fewer_nodes) d (tree_candidates m l.i t))
searched c d prior says =
    let n = c.args.n.now in
    let k = c.place_record-p.ensures.kept n.sheet.links.now.weights n.sheet.held in
    c.search_tree-best.ensures _ _ d (listed-held n k) n.listed.degrees_are prior says

-- the side of what is found: made where the tree brought it, else that of before
sided : (c : Joined-best-i) → SideKept (network_of c.args.n.now.sheet) c.search_tree-best.result c.if-best-i.side
sided c =
    let n = c.args.n.now.sheet in
    let net : Network = network_of n in
    let l = c.loop-i in
    let m = c.loop-i-test.true in
    let found = c.search_tree-best.result in
    elim c.if-best-i.branch [
      | then-best-i w ↦ subst (SideKept net found) (sym w.side-is) (side_made w.if-best-i.true
          (w.side_of-side.ensures net (tree_at net l.i) (c.place_record-p.ensures.kept n.links.now.weights n.held) refl))
      | else-best-i w ↦ let k = brought_before net c.args.n.now.sheet.held.accepted.sound c.args.n.now.listed.indexed.light l.i (omega (arith, m, network_at-trees c.args.n.now.sheet.held))
          l.invariant.0 (searched (goal.at.loop-i-preserved c).After-search_tree-best) w.if-best-i.false in
          subst (SideKept net found) (sym w.side-is) (side_same k.1 k.2 (l.invariant.1 k.0))
    ]

pub search_tree-best-requires : goal.search_tree-best-requires
search_tree-best-requires c = listed-searchable c.args.n.now c.place_record-p.ensures.places_known

pub place_record-p-requires : goal.place_record-p-requires
place_record-p-requires c = tree_listed c.args.n.now.sheet c.loop-i.i c.loop-i-test.true

pub loop-i-init : goal.loop-i-init
loop-i-init c =
    let net : Network = network_of c.args.n.now.sheet in
    (trees-start net c.args.n.now.sheet.held.accepted.sound c.args.n.now.listed.indexed.light c.unfound-best.ensures, λ z. absurd (omega arith))

pub loop-i-preserved : goal.loop-i-preserved
loop-i-preserved c =
    let net : Network = network_of c.args.n.now.sheet in
    let l = c.loop-i in
    let m = c.loop-i-test.true in (
      trees-more net c.args.n.now.sheet.held.accepted.sound c.args.n.now.listed.indexed.light l.i (omega (arith, m, network_at-trees c.args.n.now.sheet.held)) l.invariant.0 (searched (goal.at.loop-i-preserved c).After-search_tree-best),
      λ _. sided c,
    )

pub returns : goal.returns
returns c =
    let net : Network = network_of c.args.n.now.sheet in
    let l = c.loop-i in
    let h = c.args.n.now.sheet.held in
    let v = h.accepted.sound in
    let all : l.i ≡ length net.trees = omega (arith, c.loop-i-test.false, network_at-trees h) in
    let says = trees_done net v c.args.n.now.listed.indexed.light l.i all l.invariant.0 in
    record { says = says; side_is = side-reported v says (l.invariant.1 (omega (arith, all, v.listed))) }
