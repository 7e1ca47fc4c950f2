-- `monitor::list::wcut_list` meets its contract: what the operation leaves is all that is promised. Assumes nothing.
use Rattle.monitor.proofs.ListLaws.{list_promised}
use Rattle.monitor.proofs.list.wcut_list.Goals as goal

pub returns : goal.returns
returns c = rw c.returned.ensures (list_promised c.args.sheet.now c.args.sides.now c.list_sheet.ensures)
