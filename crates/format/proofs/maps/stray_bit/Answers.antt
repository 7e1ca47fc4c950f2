-- `maps::stray_bit` meets its contract: the bits looked at are those from the count up. Assumes nothing.
use Prim.Native.Nat.{◌*◌, ◌-◌}
use mathlib.Core.Path.{refl, ◌∙◌}
use Rattle.std.proofs.Common.{rules, tests}
use Rattle.std.proofs.lemmas.Iterator.{YieldsList-from_range}
use Rattle.std.proofs.lemmas.Iterator.Search.{any_from_yields_List}
use lib.ListN.{length}
use Rattle.sheet.specs.Bytes.{map_bit}
use Rattle.format.proofs.MapLaws.{any_from}
use Rattle.format.proofs.maps.stray_bit.Goals as goal

pub returns : goal.returns
returns c =
    let a = c.args in
    let end = 8 * length a.map.now in
    any_from_yields_List (map_bit a.map.now) _ _ _ c.any.ensures.ran (YieldsList-from_range a.count end (end - a.count) refl refl)
    (λ x b q k. search (rules, tests))
    ∙ any_from (map_bit a.map.now) a.count end
