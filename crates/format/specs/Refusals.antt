-- The numbers of refusals. Assumes nothing.
--   refusal_number r   the number of the refusal r
--   returned r         the number that C is given for the answer r: that of its refusal, 0 where nothing is refused
use Rattle.std.specs.Prelude.{ℕ, ⊤, Result, Ok, Err}
use Rattle.format.specs.declared.refusals.Refusal.{Refusal}
use Rattle.format.specs.declared.refusals.Refusal.TheVariants.{ShortSide, ShortReport, ShortHeader, NodeCount, LinkCount, TreeCount, NoMapByte, MapByte, CutOffField, LinkEnds, CutOffTree, StrayBit, MemberCount, NotJoined, BytesLeft, NoLink, ShortList, OutOfReach, NoSide, NoTree, ShortPairs}

abbrev pub refusal_number : Refusal → ℕ
refusal_number ShortSide = 1
refusal_number ShortReport = 2
refusal_number ShortHeader = 3
refusal_number NodeCount = 4
refusal_number LinkCount = 5
refusal_number TreeCount = 6
refusal_number NoMapByte = 7
refusal_number MapByte = 8
refusal_number CutOffField = 9
refusal_number LinkEnds = 10
refusal_number CutOffTree = 12
refusal_number StrayBit = 13
refusal_number MemberCount = 14
refusal_number NotJoined = 15
refusal_number BytesLeft = 16
refusal_number NoLink = 18
refusal_number ShortList = 19
refusal_number OutOfReach = 20
refusal_number NoSide = 21
refusal_number NoTree = 23
refusal_number ShortPairs = 24

abbrev pub returned : Result ⊤ Refusal → ℕ
returned (Ok done) = 0
returned (Err refusal) = refusal_number refusal
