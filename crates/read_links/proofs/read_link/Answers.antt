-- `read_link` meets its contract: the shape of a record is checked before its values, and a record whose shape is right ends where its last
-- field does. Assumes nothing.
use mathlib.Core.Path.{◌≡◌, sym, ◌∙◌}
use lib.ListN.{drop}
use Rattle.std.proofs.lemmas.Result.{err_from_is_err_and}
use Rattle.sheet.specs.Reading.{accepted, unless}
use Rattle.sheet.specs.Sheet.{current, link_record}
use Rattle.format.specs.Refusals.{returned}
use Rattle.format.proofs.RefusalLaws.{unless-err}
use Rattle.read_links.specs.LinksRead.{link_of}
use Rattle.read_links.proofs.RecordLaws.{record_misshapen, record_shaped}
use Rattle.read_links.proofs.read_link.Goals as goal
use Rattle.read_links.proofs.read_link.Goals.{After-check_ends}

-- what a record of the right shape says: its link, unless that is refused
shaped : (c : After-check_ends) → let a = c.args in
    link_record current a.nodes a.start (link_of a.before) (drop a.at a.s.now)
    ≡ unless (returned c.check_ends.result) (accepted (link_of c.link_fields-link.result) (drop c.in_ok-end.end a.s.now))
shaped c =
    let a = c.args in
    let ended = c.in_ok-end.ensures in
    record_shaped current _ _ _ _ _ _ a.at a.s.now ended.number c.link_fields-link.ensures c.check_ends.ensures ended.ends_at.here

pub returns-in_err-end : goal.returns-in_err-end
returns-in_err-end c =
    let p = err_from_is_err_and c.from_residual.result c.from_residual.ensures.1 in
    let ended = c.in_err-end.ensures in
    rw (p.1, p.2) (record { says = sym (record_misshapen _ _ _ _ _ _ ended.number ended.ends_at); inside = tt })

pub returns-in_err-check_ends : goal.returns-in_err-check_ends
returns-in_err-check_ends c =
    let r = c.from_residual-in_err-check_ends in
    let p = err_from_is_err_and r.result r.ensures.1 in
    let was = c.in_err-check_ends.was in
    let s = rw was at (shaped (goal.at.returns-in_err-check_ends c).After-check_ends) in
    rw (p.1, p.2) (record { says = sym (s ∙ unless-err _ _); inside = tt })

pub returns : goal.returns
returns c =
    let was = c.in_ok-check_ends.was in
    record { says = sym (rw was at (shaped (goal.at.returns c).After-check_ends)); inside = c.in_ok-end.ensures.ends_at.inside }
