-- `packing::overloads` meets its contract: `any` goes through the links below the count, and where no load is past its weight the test of a link
-- is the definition's. Assumes nothing.
use Prim.Native.Nat.{ℕ, ◌-◌}
use mathlib.Core.Path.{refl, ◌∙◌}
use mathlib.Core.Bool.{Bool, ◌&&◌}
use lib.Dec.{ltb}
use native.Mathlib.Omega.{arith}
use borrow.Author.Tests.{tests}
use borrow.Author.Rules.{rules}
use Rattle.std.proofs.lemmas.Iterator.{YieldsList-from_range}
use Rattle.std.proofs.lemmas.Iterator.Search.{any_from_yields_List}
use Rattle.cuts.proofs.SumLaws.{any_to_congr}
use Rattle.arrays.specs.Lists.{entry}
use Rattle.sheet.specs.Bytes.{map_bit}
use Rattle.packing.specs.Loads.{overfull}
use Rattle.packing.proofs.ShareLaws.{any_in_range, overfull-left}
use Rattle.packing.proofs.overloads.Goals as goal

pub returns : goal.returns
returns c =
    let a = c.args in
    let test : ℕ → Bool = λ k. ltb (entry a.weights.now k - entry a.loads.now k) a.share && map_bit a.map.now k in
    any_from_yields_List test _ _ _ c.any.ensures.ran (YieldsList-from_range 0 a.links a.links refl (omega arith)) (λ x b q k. search (rules, tests))
    ∙ any_in_range test a.links
    ∙ any_to_congr a.links test (overfull a.map.now a.share a.weights.now a.loads.now)
    (λ k b. overfull-left a.map.now a.share a.weights.now a.loads.now k (c.requires.carried k b))
