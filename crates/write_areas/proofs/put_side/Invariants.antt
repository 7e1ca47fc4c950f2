-- `write_areas::put_side` meets its contract. The loop's invariant: the words in front of word k are put one behind the other.
-- Assumes nothing.
use mathlib.Core.Path.{◌≡◌}
use lib.ListN.{take}
use Rattle.format.proofs.PutLaws.{put}
use Rattle.write_areas.proofs.WordLaws.{bytes_of_words}
use Rattle.write_areas.proofs.put_side.Given as goal

abbrev pub invariant-loop-k : goal.invariant-loop-k
invariant-loop-k l = l.area ≡ put l.from (bytes_of_words (take l.k l.word-items)) l.initial.area
