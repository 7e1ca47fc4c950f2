-- Trees appended to those of a network (request F-3): the trees that counted still count, and the floor is no lower, since whatever an
-- appended tree shows is a side of the network and weighs at least the floor.
-- Assumes nothing.
use Prim.Native.Nat.{ℕ, ◌≤◌}
use mathlib.Core.Path.{◌≡◌, sym, subst}
use mathlib.Core.List.{List, ◌++◌}
use native.Mathlib.Omega.{arith}
use lib.ListN.{length, take, length-append}
use lib.Seq.{take-append-le}
use Rattle.cuts.specs.Network.{Tree, Network}
use Rattle.cuts.specs.Cut.{cut_weight, size}
use Rattle.cuts.specs.Tree.{Sound}
use Rattle.cuts.specs.Candidate.{Key}
use Rattle.cuts.specs.Bound.{shares, Packed, LongestRun, longest_run, counted, floor}
use Rattle.cuts.specs.Answer.{Rules, answer, judged}
use Rattle.cuts.proofs.LoadLaws.{shares-take}
use Rattle.cuts.proofs.CountedLaws.{packed-within, run_longest, counted_run}
use Rattle.cuts.proofs.Demands.{answer_demand3}

module _ (net : Network) (more : List Tree) where
  abbrev pub appended : Network
  appended = record { nodes = net.nodes; links = net.links; trees = net.trees ++ more }

  -- those that counted are among the first that count
  pub counted_still : (m n : ℕ) → LongestRun net net.trees m → LongestRun appended appended.trees n → (m ≤ n) × (take m appended.trees ≡ take m net.trees)
  counted_still m n r s =
      let e : take m appended.trees ≡ take m net.trees = take-append-le m net.trees more r.listed in
      let b : m ≤ length appended.trees = let l = r.listed in omega (arith, length-append net.trees more) in
      (packed-within appended appended.trees n m s b (subst (Packed net) (sym e) r.packed), e)

  shares-no_less : shares (counted longest_run net net.trees) ≤ shares (counted longest_run appended appended.trees)
  shares-no_less =
      let r = run_longest net net.trees in
      let s = run_longest appended appended.trees in
      let c = counted_still _ _ r s in
      let l = shares-take appended.trees _ _ c.0 in
      rw (counted_run net net.trees _ r, counted_run appended appended.trees _ s, ← c.1) l

  module _ (key : Key) where
    abbrev by-run : Rules
    by-run = record { counting = longest_run; key = key }

    pub appended-no_less : Sound net → Sound appended → (answer by-run net).floor ≤ (answer by-run appended).floor
    unfolding answer judged floor size cut_weight
    appended-no_less v w =
        let new = answer_demand3 appended w by-run in
        let p = new.proper in
        let b = (answer_demand3 net v by-run).floor_bounds (answer by-run appended).best.side (record { sized = p.sized; not_empty = p.not_empty; not_full = p.not_full }) in
        let o = new.own_weight in
        let l = shares-no_less in
        omega arith
