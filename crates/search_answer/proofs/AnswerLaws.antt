-- The answer's figures, given the cut that the search found and the floor that was worked out of its weight. Assumes nothing.
use Prim.Native.Nat.{ℕ}
use mathlib.Core.Path.{◌≡◌, refl, sym}
use lib.ListN.{drop}
use Rattle.cuts.specs.Bound.{counted, floor}
use Rattle.cuts.specs.Network.{Network}
use Rattle.cuts.specs.Answer.{Rules, reported, answer, verdict_of}
use Rattle.sheet.specs.Sheet.{tree_in}
use Rattle.arrays.specs.Records.{trees_from}
use Rattle.arrays.specs.Sheets.{network_of}
use Rattle.arrays.specs.declared.sheets.Sheet.{Sheet}
use Rattle.search_sheet.specs.Reported.{ReportedSays}
use Rattle.search_sheet.specs.declared.Reported.{Reported}

trees-held : (n : Sheet) → trees_from (network_of n) n.layout.trees (drop n.layout.records n.bytes.now) ≡ (network_of n).trees
unfolding trees_from tree_in
trees-held n = refl

-- the floor of the trees in the records is that of the network's trees
pub bound-held : (r : Rules) (n : Sheet) (w : ℕ) {f : ℕ}
    → f ≡ floor (counted r.counting (network_of n) (trees_from (network_of n) n.layout.trees (drop n.layout.records n.bytes.now))) w
    → f ≡ floor (counted r.counting (network_of n) (network_of n).trees) w
bound-held r n w bound = rw (trees-held n) at bound

module _ (r : Rules) (net : Network) {best : Reported} (h : ReportedSays best (reported r.key net)) where
  pub says-best : ReportedSays best (answer r net).best
  unfolding answer
  says-best = h

  module _ {f : ℕ} (bound : f ≡ floor (counted r.counting net net.trees) best.found.weight) where
    pub floor_is : (answer r net).floor ≡ f
    unfolding answer
    floor_is = sym (rw (h.says.weight) at bound)

    pub verdict-is : (answer r net).verdict ≡ verdict_of f best.found.weight
    unfolding answer
    verdict-is = rw (← floor_is, h.says.weight)
