-- `op_corners::corner_sheet` meets its contract: the maps' lengths decide first, then what the sheet's reading says, and of a network that was
-- read the sides. Assumes nothing.
use Rattle.std.proofs.lemmas.Result.{err_from_is_err_and}
use Rattle.read_sheet.proofs.NetworkLaws.{was_read, was_refused, sheet-held}
use Rattle.op_corners.specs.Tables.{MapsLong}
use Rattle.op_corners.proofs.LeftLaws.{first_short, second_short, sheet-refused, sides_decide, fillable}
use Rattle.op_corners.proofs.corner_sheet.Goals as goal
use Rattle.op_corners.proofs.corner_sheet.Goals.{Else-second-lt-SIDE_LENGTH, then-first-lt-SIDE_LENGTH-via-else-first-lt-SIDE_LENGTH+then-second-lt-SIDE_LENGTH, then-first-lt-SIDE_LENGTH-via-then-first-lt-SIDE_LENGTH}

-- both maps are long enough
long : (c : Else-second-lt-SIDE_LENGTH) → let a = c.args in MapsLong a.first.now a.second.now
long c = record { first_long = c.if-first-lt-SIDE_LENGTH.false; second_long = c.if-second-lt-SIDE_LENGTH.false }

pub returns-then-first-lt-SIDE_LENGTH : goal.returns-then-first-lt-SIDE_LENGTH
returns-then-first-lt-SIDE_LENGTH c =
    let a = c.args in
    elim c.then-first-lt-SIDE_LENGTH.branch [
      | then-first-lt-SIDE_LENGTH-via-then-first-lt-SIDE_LENGTH w ↦ first_short a.sheet.now a.first.now a.second.now w.if-first-lt-SIDE_LENGTH.true
      | then-first-lt-SIDE_LENGTH-via-else-first-lt-SIDE_LENGTH+then-second-lt-SIDE_LENGTH w ↦
          second_short a.sheet.now a.first.now a.second.now w.if-first-lt-SIDE_LENGTH.false w.if-second-lt-SIDE_LENGTH.true
    ]

pub invariant_of-maps : goal.invariant_of-maps
invariant_of-maps c = record { long = long (goal.at.invariant_of-maps c).Else-second-lt-SIDE_LENGTH }

pub corner_network-requires : goal.corner_network-requires
corner_network-requires c =
    let a = c.args in
    fillable a.first.now a.second.now (long (goal.at.corner_network-requires c).Else-second-lt-SIDE_LENGTH) a.sheet.now _ _
    (sheet-held c.read_sheet.ensures c.in_ok-layout.was)

pub returns : goal.returns
returns c =
    let a = c.args in
    sides_decide a.sheet.now a.first.now a.second.now (long (goal.at.returns c).Else-second-lt-SIDE_LENGTH) _
    (was_read c.read_sheet.ensures c.in_ok-layout.was) c.corner_network.ensures

pub returns-in_err-layout : goal.returns-in_err-layout
returns-in_err-layout c =
    let a = c.args in
    let p = err_from_is_err_and c.from_residual.result c.from_residual.ensures.1 in
    let both = long (goal.at.returns-in_err-layout c).Else-second-lt-SIDE_LENGTH in
    rw (p.1, p.2) (sheet-refused a.sheet.now a.first.now a.second.now both _ (was_refused c.read_sheet.ensures c.in_err-layout.was))
