-- `read_header` meets its contract: a sheet of five bytes or more has its counts at their places, and is refused as they are.
-- Assumes nothing.
use mathlib.Core.Path.{◌≡◌, sym, ◌∙◌}
use native.Mathlib.Omega.{arith}
use lib.ListN.{drop}
use Rattle.std.proofs.lemmas.Result.{err_from_is_err_and}
use Rattle.sheet.specs.Reading.{accepted, unless}
use Rattle.sheet.specs.Sheet.{header_length, header_record}
use Rattle.format.specs.Refusals.{returned}
use Rattle.format.proofs.RefusalLaws.{unless-err}
use Rattle.read_header.proofs.HeaderLaws.{header-short, header-long, counts-at}
use Rattle.read_header.proofs.read_header.Goals as goal
use Rattle.read_header.proofs.read_header.Goals.{After-check_counts}

-- what the header says: the counts, unless one is refused
counted : (c : After-check_counts) → let s = c.args.s.now in
    header_record s
    ≡ unless (returned c.check_counts.result) (accepted (record { nodes = c.two.result; links = c.two-2.result; trees = c.from.result }) (drop header_length s))
counted c = header-long _ _ _ (omega arith) (counts-at _ _ c.two.ensures.same c.two-2.ensures.same c.from.ensures) c.check_counts.ensures

pub returns-then-s-lt-HEADER_LENGTH : goal.returns-then-s-lt-HEADER_LENGTH
returns-then-s-lt-HEADER_LENGTH c = sym (header-short _ (omega arith))

pub returns-in_err-check_counts : goal.returns-in_err-check_counts
returns-in_err-check_counts c =
    let p = err_from_is_err_and c.from_residual.result c.from_residual.ensures.1 in
    let q = counted (goal.at.returns-in_err-check_counts c).After-check_counts in
    let was = c.in_err-check_counts.was in
    rw (p.1, p.2) (sym (rw was at q ∙ unless-err _ _))

pub returns : goal.returns
returns c = let was = c.in_ok-check_counts.was in sym (rw was at (counted (goal.at.returns c).After-check_counts))
