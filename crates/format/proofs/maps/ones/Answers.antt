-- `maps::ones` meets its contract: the ones of all bytes are the bits that are set. Assumes nothing.
use mathlib.Core.Path.{◌∙◌}
use Rattle.std.proofs.Common.{rules, tests}
use Rattle.std.proofs.lemmas.Iterator.{YieldsList-from_slice, YieldsList-from_map}
use Rattle.std.proofs.lemmas.Iterator.Consumers.{sum_by_from_yields_List}
use native.Mathlib.Omega.{arith}
use lib.Count.{ones}
use Rattle.format.proofs.MapLaws.{count_bytes}
use Rattle.format.proofs.maps.ones.Goals as goal

pub returns : goal.returns
returns c =
    let map = c.args.map.now in
    sum_by_from_yields_List ones map c.map.result _ c.sum.ensures.ran
    (YieldsList-from_map _ ones (YieldsList-from_slice map cc) c.map.ensures.closure (λ x r q k. search (rules, tests)))
    ∙ count_bytes map (λ k. omega (arith, c.type_inv.map k))
