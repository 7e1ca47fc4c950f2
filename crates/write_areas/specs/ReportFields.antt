-- The fields of a report as a struct holds them. Assumes nothing.
--   values_of r   the fields that the struct holds, in their order in the report area
use Rattle.std.specs.Prelude.{ℕ, List, [], ◌∷◌}
use Rattle.write_areas.specs.declared.Report.{Report}

abbrev pub values_of : Report → List ℕ
values_of r = r.verdict ∷ r.tree ∷ r.count ∷ r.first ∷ r.second ∷ r.weight ∷ r.floor ∷ []
