-- `search_answer::answer_sheet` meets its contract: the cut that the search found is the answer's, and floor and verdict follow from its
-- weight and the trees that count. Assumes nothing.
use mathlib.Core.Path.{sym, ◌∙◌}
use Rattle.sheet.specs.Sheet.{current}
use Rattle.arrays.specs.Sheets.{network_of}
use Rattle.read_sheet.proofs.NetworkLaws.{network_at-laid}
use Rattle.search_answer.proofs.AnswerLaws.{bound-held, says-best, floor_is, verdict-is}
use Rattle.search_answer.proofs.answer_sheet.Goals as goal

pub floor_of-floor-requires : goal.floor_of-floor-requires
floor_of-floor-requires c = let h = c.args.n.now.held in record { inside = h.inside; few_links = h.few_links; few_trees = h.few_trees }

pub returns : goal.returns
returns c =
    let n = c.args.n.now in
    let net = network_of n in
    let found = c.search_trees-best.ensures in
    let floor = bound-held current.rules n _ (c.floor_of-floor.ensures net (network_at-laid n.held).weighed) in
    record {
      best = says-best current.rules net found;
      floor = sym (floor_is current.rules net found floor);
      verdict = c.of-verdict.ensures ∙ sym (verdict-is current.rules net found floor);
    }
