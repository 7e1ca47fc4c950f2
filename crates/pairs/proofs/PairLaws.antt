-- Ranks and slots of a tree's pairs: each member has one rank, its number of lower members, and each rank one member; so each slot below the
-- number of pairs has the weight of one pair, which is that of the side that the pair stands for.
-- Assumes nothing.
use Prim.Native.Nat.{ℕ, ◌+◌, ◌-◌, ◌≤◌, ◌<◌}
use mathlib.Core.Path.{◌≡◌, sym, ap, ap₂, ◌∙◌, subst}
use mathlib.Core.List.{List}
use native.Mathlib.Decide.{dec_lt}
use native.Mathlib.Omega.{arith}
use lib.ListN.{length, get_or, drop, length-append, length-drop, get_or-append}
use lib.Seq.{ext_get_or, get_or-append-add, get_or-drop}
use Rattle.cuts.specs.Network.{Tree, Network, flag, link_count}
use Rattle.cuts.specs.Tree.{Member, Spanning, member_count}
use Rattle.cuts.specs.Candidate.{Fits, two, member_links, weight_of}
use Rattle.cuts.proofs.SumLaws.{count-rises}
use Rattle.cuts.proofs.ListLaws.{at_mem}
use Rattle.cuts.proofs.CutLaws.{weight_of-is}
use Rattle.cuts.proofs.Handles.{member_of}
use Rattle.cuts.proofs.SelectLaws.{select-at, select-some, members-length, members-counted, members_rise}
use Rattle.sheet.specs.Areas.{written}
use Rattle.pairs.specs.Slots.{row_start, pair_slot}
use Rattle.pairs.specs.Pairs.{rank_of, slot_of, link_of_rank, pair_of, pair_weights, pair_count, OwedPairs}
use Rattle.pairs.proofs.SlotLaws.{slot-below, slot-once, slot-some, pair_rows-length, pair_rows-at}

module _ (net : Network) (t : Tree) where
  -- ---- ranks

  abbrev ranks : ℕ
  ranks = length (member_links net t)

  -- a member stands at its rank
  pub rank_link : (e : ℕ) → Member net t e → link_of_rank net t (rank_of t e) ≡ e
  unfolding member_links
  rank_link e m = select-at (flag t.members) (link_count net) e m.is_link m.is_set

  pub rank_below : (e : ℕ) → Member net t e → rank_of t e < ranks
  unfolding member_count
  rank_below e m =
      let l = members-length net t in
      let c = count-rises (link_count net) e (flag t.members) m.is_link m.is_set in
      omega arith

  pub link-member : (r : ℕ) → r < ranks → Member net t (link_of_rank net t r)
  link-member r b = member_of net t (at_mem 0 (member_links net t) r b)

  -- and what stands at a rank has it
  pub link_rank : (r : ℕ) → r < ranks → rank_of t (link_of_rank net t r) ≡ r
  unfolding member_count member_links
  link_rank r b =
      let s = select-some (flag t.members) (link_count net) r (let l = members-length net t in omega arith) in
      let e = select-at (flag t.members) (link_count net) s.0 s.1 s.2 in
      let q : link_of_rank net t r ≡ s.0 = ap (λ (k : ℕ). link_of_rank net t k) (sym s.3) ∙ e in
      ap (λ (k : ℕ). rank_of t k) q ∙ s.3

  pub rank_rises : (e f : ℕ) → Member net t e → e < f → rank_of t e < rank_of t f
  rank_rises e f m l = count-rises f e (flag t.members) l m.is_set

  -- ---- pairs

  pub pair_fits : (r s : ℕ) → s < r → r < ranks → Fits net t (pair_of net t r s)
  pair_fits r s l b = (members_rise net t s r l b, link-member s (omega arith), link-member r b)

  -- the pair of two members' ranks
  pub pair-of : (e f : ℕ) → Fits net t (two e f) → pair_of net t (rank_of t f) (rank_of t e) ≡ two e f
  pair-of e f h = ap₂ two (rank_link e h.1) (rank_link f h.2)

  pub pair_weights-length : length (pair_weights net t) ≡ pair_count net t
  unfolding pair_weights
  pair_weights-length = pair_rows-length (λ r s. weight_of net t (pair_of net t r s)) ranks

  pub pair_weights-at : (r s : ℕ) → s < r → r < ranks → get_or (pair_weights net t) (pair_slot r s) 0 ≡ weight_of net t (pair_of net t r s)
  unfolding pair_weights
  pair_weights-at r s l b = pair_rows-at (λ r s. weight_of net t (pair_of net t r s)) 0 ranks r s l b

  -- ---- an area

  module _ (old : List ℕ) (room : pair_count net t ≤ length old) where
    -- the front of an area with room for the weights, its length, and what stands behind them
    written_at : (r s : ℕ) → s < r → r < ranks → get_or (written (pair_weights net t) old) (pair_slot r s) 0 ≡ weight_of net t (pair_of net t r s)
    written_at r s l b =
        get_or-append (pair_weights net t) (drop (length (pair_weights net t)) old) 0 (pair_slot r s)
        (let n = pair_weights-length in let p = slot-below ranks r s l b in omega arith)
        ∙ pair_weights-at r s l b

    written-length : length (written (pair_weights net t) old) ≡ length old
    written-length = simp (length-append, length-drop) (let n = pair_weights-length in omega arith)

    written_behind : (i : ℕ) → pair_count net t ≤ i → get_or (written (pair_weights net t) old) i 0 ≡ get_or old i 0
    written_behind i b =
        let ws : List ℕ = pair_weights net t in
        let n = pair_weights-length in
        let e : i ≡ length ws + (i - length ws) = omega arith in
        ap (λ (k : ℕ). get_or (written ws old) k 0) e ∙ get_or-append-add ws (drop (length ws) old) (i - length ws) 0
        ∙ get_or-drop (length ws) old (i - length ws) 0 ∙ ap (λ (k : ℕ). get_or old k 0) (sym e)

    -- an area that has each pair's weight at its slot, and behind the last what it had, is that
    pub pairs-complete : (new : List ℕ) → length new ≡ length old
        → ((r s : ℕ) → s < r → r < ranks → get_or new (pair_slot r s) 0 ≡ weight_of net t (pair_of net t r s))
        → ((i : ℕ) → pair_count net t ≤ i → i < length old → get_or new i 0 ≡ get_or old i 0) → new ≡ written (pair_weights net t) old
    pairs-complete new e h k = ext_get_or 0 new _ (e ∙ sym written-length) (λ i b. step i b (dec_lt i (pair_count net t)))
      where
        step : (i : ℕ) → i < length new → Dec (i < pair_count net t) → get_or new i 0 ≡ get_or (written (pair_weights net t) old) i 0
        step i b (yes l) =
            let o = slot-some ranks i l in
            subst (λ (j : ℕ). get_or new j 0 ≡ get_or (written (pair_weights net t) old) j 0) o.4 (h o.0 o.1 o.2 o.3 ∙ sym (written_at o.0 o.1 o.2 o.3))
        step i b (no l) = k i (omega arith) (omega arith) ∙ sym (written_behind i (omega arith))

    -- what is owed of the weights is owed of it
    pub pairs-owed : OwedPairs net t (written (pair_weights net t) old)
    pairs-owed = record {
      weight = weight;
      of_side = λ e f h. weight e f h ∙ weight_of-is net t (two e f);
      room = rw written-length room;
      within = λ e f h. slot-below ranks (rank_of t f) (rank_of t e) (rank_rises e f h.1 h.0) (rank_below f h.2);
      every = λ i b. let o = slot-some ranks i b in
          let r = o.0 in let s = o.1 in
          let h = pair_fits r s o.2 o.3 in
          (link_of_rank net t s, link_of_rank net t r, h, ap₂ pair_slot (link_rank r o.3) (link_rank s (let l = o.2 in let b = o.3 in omega arith)) ∙ o.4);
      once = λ e f e' f' h h' q.
          let o = slot-once (rank_of t f) (rank_of t e) (rank_of t f') (rank_of t e') (rank_rises e f h.1 h.0) (rank_rises e' f' h'.1 h'.0) q in
          (same e e' h.1 h'.1 o.1, same f f' h.2 h'.2 o.0);
    }
      where
        weight : (e f : ℕ) → Fits net t (two e f) → get_or (written (pair_weights net t) old) (slot_of t e f) 0 ≡ weight_of net t (two e f)
        weight e f h =
            written_at (rank_of t f) (rank_of t e) (rank_rises e f h.1 h.0) (rank_below f h.2) ∙ ap (weight_of net t) (pair-of e f h)

        same : (e e' : ℕ) → Member net t e → Member net t e' → rank_of t e ≡ rank_of t e' → e ≡ e'
        same e e' m m' q = sym (rank_link e m) ∙ ap (λ (r : ℕ). link_of_rank net t r) q ∙ rank_link e' m'

-- a spanning tree of n nodes has n - 1 ranks
pub pair_count-is : {net : Network} {t : Tree} → Spanning net t → pair_count net t ≡ row_start (net.nodes - 1)
pair_count-is g = ap row_start (members-counted g)
