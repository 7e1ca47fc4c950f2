-- `read_links::trunks::trunk_start` meets its contract: the fields in front of the trunk number are both ends and the weight. Assumes nothing.
use mathlib.Core.Path.{sym}
use Rattle.read_links.proofs.RecordLaws.{current-fields, field_start_trunk}
use Rattle.read_links.proofs.trunks.trunk_start.Goals as goal

pub returns : goal.returns
returns c = sym (field_start_trunk current-fields c.args.m)
