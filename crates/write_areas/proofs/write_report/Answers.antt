-- `write_areas::write_report` meets its contract. The fields are put one behind the other, each where the one before it ends, and the area
-- keeps its length. Assumes nothing.
use Prim.Native.Nat.{◌<◌}
use mathlib.Core.Path.{ap, ◌∙◌}
use mathlib.Core.List.{[], ◌∷◌}
use native.Mathlib.Omega.{arith}
use lib.ListN.{set, length-set}
use Rattle.sheet.specs.Bytes.{Bytes, bytes_of, field_bytes}
use Rattle.sheet.specs.Sheet.{current}
use Rattle.sheet.specs.Areas.{report_widths}
use Rattle.format.proofs.PutLaws.{put, set-put, put_fields-put}
use Rattle.write_areas.proofs.write_report.Goals as goal

pub returns : goal.returns
unfolding field_bytes
returns c =
    let r = c.args.r in
    let old : Bytes = c.args.area.now in
    let verdict : r.verdict < 256 = omega (arith, c.well_formed.1.0) in
    let tree : r.tree < 256 = omega (arith, c.well_formed.1.0) in
    c.put_eight-2.ensures
    ∙ ap (put 16 (bytes_of 8 r.floor)) (c.put_eight.ensures
    ∙ ap (put 8 (bytes_of 8 r.weight)) (c.put_two-3.ensures
    ∙ ap (put 6 (bytes_of 2 r.second)) (c.put_two-2.ensures
    ∙ ap (put 4 (bytes_of 2 r.first)) (c.put_two.ensures
    ∙ ap (put 2 (bytes_of 2 r.count)) (set-put (set old 0 r.verdict) 1 r.tree (simp length-set (omega arith)) tree
    ∙ ap (put 1 (bytes_of 1 r.tree)) (set-put old 0 r.verdict (omega arith) verdict))))))
    ∙ put_fields-put 0 (report_widths current) (r.verdict ∷ r.tree ∷ r.count ∷ r.first ∷ r.second ∷ r.weight ∷ r.floor ∷ []) old (omega arith)
