-- The invariant of the trees' loop in `search_sheet::search_listed`: what is found was visited in the first i trees, and with those still to come
-- leads to the answer; and from the first tree on its side is at hand.
-- Assumes nothing.
use Prim.Native.Nat.{◌<◌}
use Rattle.arrays.specs.Sheets.{network_of}
use Rattle.search_sheet.proofs.ToComeLaws.{Visiting}
use Rattle.search_sheet.proofs.SideLaws.{SideKept}
use Rattle.search_sheet.proofs.search_listed.Given as goal

abbrev pub invariant-loop-i : goal.invariant-loop-i
invariant-loop-i l = Visiting (network_of l.n.sheet) l.best l.i × (0 < l.i → SideKept (network_of l.n.sheet) l.best l.side)
