-- `op_corners::corner_network` meets its contract, by what both maps give. Assumes nothing.
use mathlib.Core.Path.{sym, ap, ◌∙◌}
use Rattle.cuts.specs.Network.{Network}
use Rattle.op_corners.specs.Tables.{bare_network}
use Rattle.corners.specs.CornersTold.{table_read}
use Rattle.op_corners.proofs.FillLaws.{rows-read}
use Rattle.op_corners.proofs.LeftLaws.{first-refused, second-refused, filled-four, both-given}
use Rattle.op_corners.proofs.corner_network.Goals as goal
use Rattle.op_corners.proofs.corner_network.Goals.{After-no_side, then-no_side-via-else-no_side+then-no_side-2, then-no_side-via-then-no_side}

-- the network that was read
abbrev net : After-no_side → Network
net c = bare_network c.args.layout c.args.links.now

pub returns-then-no_side : goal.returns-then-no_side
returns-then-no_side c =
    let a = c.args in
    let n = net (goal.at.returns-then-no_side c).After-no_side in
    elim c.then-no_side.branch [
      | then-no_side-via-then-no_side w ↦ first-refused a.maps.now.first.now a.maps.now.second.now n (sym c.no_side.ensures ∙ w.if-no_side.true)
      | then-no_side-via-else-no_side+then-no_side-2 w ↦
          second-refused a.maps.now.first.now a.maps.now.second.now n (sym c.no_side.ensures ∙ w.if-no_side.false) (sym w.no_side-else-no_side.ensures ∙ w.if-no_side-2.true)
    ]

pub returns : goal.returns
returns c =
    let a = c.args in
    both-given a.maps.now.first.now a.maps.now.second.now (net (goal.at.returns c).After-no_side) c.corner_table-rows.ensures
    (sym c.no_side.ensures ∙ c.if-no_side.false) (sym c.no_side-else-no_side.ensures ∙ c.if-no_side-2.false) c.copy_from_slice.new.self
    (ap table_read (c.copy_from_slice.ensures.after ∙ c.as_flattened.ensures.value)
    ∙ rows-read c.corner_table-rows.result (filled-four a.maps.now.first.now a.maps.now.second.now (net (goal.at.returns c).After-no_side) c.corner_table-rows.ensures))
