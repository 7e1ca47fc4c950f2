-- What is reported of a network. Assumes nothing.
--   Rules            what is settled of answers: which trees count for the floor, and the key of candidates of one weight
--   Answer           the reported candidate, the floor and the verdict
--   certified        verdict 2: the cut is a lightest one of the whole network. Document 01: whole
--   trees_only       verdict 1: it is a lightest one of those that 2-respect a listed tree. Document 01: trees only
--   verdict_of f w   certified where floor and weight are equal
--   reported k net   the candidate that is reported: the first in the order of the key k
--   judged n net c   the answer that reports the candidate c, where trees count by the rule n
--   answer r net     the answer by the rules r
use Rattle.std.specs.Prelude.{ℕ, cond, eqb}
use Rattle.cuts.specs.First.{first_of}
use Rattle.cuts.specs.Network.{Network}
use Rattle.cuts.specs.Candidate.{Candidate, Key, candidates, ahead, no_candidate}
use Rattle.cuts.specs.Bound.{Counting, counted, floor}

pub record Rules : Type 0 where
  pub counting : Counting
  pub key : Key

pub record Answer : Type 0 where
  pub best : Candidate
  pub floor : ℕ
  pub verdict : ℕ

abbrev pub certified : ℕ
certified = 2

abbrev pub trees_only : ℕ
trees_only = 1

abbrev pub verdict_of : ℕ → ℕ → ℕ
verdict_of f w = cond (eqb f w) certified trees_only

unfoldable pub reported : Key → Network → Candidate
unfolding first_of candidates ahead
reported key net = first_of (ahead key) no_candidate (candidates net)

unfoldable pub judged : Counting → Network → Candidate → Answer
unfolding counted floor
judged counting net c =
    let f : ℕ = floor (counted counting net net.trees) c.weight in
    record { best = c; floor = f; verdict = verdict_of f c.weight }

unfoldable pub answer : Rules → Network → Answer
unfolding judged reported
answer r net = judged r.counting net (reported r.key net)
