-- `numbers::eight` meets its contract: the bytes that it takes are eight, and their number is their sum, each worth 256 times the one
-- before it. Assumes nothing.
use mathlib.Core.Path.{◌∙◌, ap}
use Rattle.sheet.specs.Bytes.{number}
use Rattle.std.proofs.lemmas.Result.{MatchResult-at_ok}
use Rattle.format.proofs.NumberLaws.{number-eight, number-taken}
use Rattle.format.proofs.numbers.eight.Goals as goal

pub returns : goal.returns
returns c =
    let whole = MatchResult-at_ok _ _ _ c.unwrap.ensures c.try_into.ensures.1 in
    c.from_le_bytes.ensures ∙ number-eight _ ∙ ap (number 8) whole.same ∙ number-taken 8 c.args.at c.args.s.now
