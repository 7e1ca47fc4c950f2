-- No refusal has the number 0, which is returned where nothing is refused. Assumes nothing.
use Prim.Native.Nat.{◌<◌}
use mathlib.Core.Path.{◌≡◌}
use native.Mathlib.Omega.{arith}
use Rattle.sheet.specs.Reading.{Reading, refused, unless}
use Rattle.sheet.proofs.ReadingLaws.{unless-refused}
use Rattle.format.specs.Refusals.{refusal_number}
use Rattle.format.specs.declared.refusals.Refusal.{Refusal}
use Rattle.format.specs.declared.refusals.Refusal.TheVariants.{ShortSide, ShortReport, ShortHeader, NodeCount, LinkCount, TreeCount, NoMapByte, MapByte, CutOffField, LinkEnds, CutOffTree, StrayBit, MemberCount, NotJoined, BytesLeft, NoLink, ShortList, OutOfReach, NoSide, NoTree, ShortPairs}

pub refusal_number-some : (r : Refusal) → 0 < refusal_number r
refusal_number-some ShortSide = omega arith
refusal_number-some ShortReport = omega arith
refusal_number-some ShortHeader = omega arith
refusal_number-some NodeCount = omega arith
refusal_number-some LinkCount = omega arith
refusal_number-some TreeCount = omega arith
refusal_number-some NoMapByte = omega arith
refusal_number-some MapByte = omega arith
refusal_number-some CutOffField = omega arith
refusal_number-some LinkEnds = omega arith
refusal_number-some CutOffTree = omega arith
refusal_number-some StrayBit = omega arith
refusal_number-some MemberCount = omega arith
refusal_number-some NotJoined = omega arith
refusal_number-some BytesLeft = omega arith
refusal_number-some NoLink = omega arith
refusal_number-some ShortList = omega arith
refusal_number-some OutOfReach = omega arith
refusal_number-some NoSide = omega arith
refusal_number-some NoTree = omega arith
refusal_number-some ShortPairs = omega arith

-- the checks that refuse decide the reading
pub unless-err : {A : Type 0} (r : Refusal) (reading : Reading A) → unless (refusal_number r) reading ≡ refused (refusal_number r)
unless-err r reading = unless-refused (refusal_number r) reading (λ e. let some = refusal_number-some r in omega arith)
