-- `sheet_trees::index_sheet` meets its contract: of a sheet that was read the links can be listed by node. Assumes nothing.
use Rattle.sheet_trees.proofs.TreeLaws.{sheet-indexable, sheet-listed}
use Rattle.sheet_trees.proofs.index_sheet.Goals as goal

pub index_links-requires : goal.index_links-requires
index_links-requires c = sheet-indexable c.args.n.now

pub returns : goal.returns
returns c = sheet-listed c.args.n.now c.index_links.ensures
