-- `tree_records::check_map` meets its contract. Each refusal number is that of the first check that fails, as the callees' answers
-- decide the checks. Assumes nothing.
use mathlib.Core.Path.{sym, ◌∙◌}
use Rattle.read_sheet.proofs.TreeLaws.{map-stray, map_miscounted, map-passed}
use Rattle.read_sheet.proofs.tree_records.check_map.Goals as goal

pub returns-then-stray_bit : goal.returns-then-stray_bit
returns-then-stray_bit c =
    sym (map-stray c.args.map.now c.args.nodes c.args.links c.requires.sized (sym c.stray_bit.ensures ∙ c.if-stray_bit.true))

pub returns-then-ones-nodes : goal.returns-then-ones-nodes
returns-then-ones-nodes c =
    let clean = sym c.stray_bit.ensures ∙ c.if-stray_bit.false in
    sym (map_miscounted c.args.map.now c.args.nodes c.args.links c.requires.sized clean (λ e. c.if-ones-nodes.true (c.ones.ensures ∙ e)))

pub returns : goal.returns
returns c =
    let clean = sym c.stray_bit.ensures ∙ c.if-stray_bit.false in
    sym (map-passed c.args.map.now c.args.nodes c.args.links c.requires.sized clean (sym c.ones.ensures ∙ c.if-ones-nodes.false))
