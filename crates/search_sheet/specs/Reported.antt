-- The candidate that is reported, as a value. Assumes nothing.
--   ReportedSays r c   the struct r says the candidate c, with its side
use Rattle.cuts.specs.Candidate.{Candidate}
use Rattle.search_order.specs.Choice.{Says}
use Rattle.tree_sides.specs.NodeLayers.{SideWords}
use Rattle.search_sheet.specs.declared.Reported.{Reported}

pub record ReportedSays (r : Reported) (c : Candidate) : Type 0 where
  pub says : Says r.found c
  pub side_is : SideWords r.side c.side
