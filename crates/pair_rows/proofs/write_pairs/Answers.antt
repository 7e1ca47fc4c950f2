-- What is left to prove of `write_pairs`.
use Rattle.std.proofs.Common.{ℕ, length, ◌-◌, ◌≤◌, sym, subst, arith}
use Rattle.pairs.specs.Slots.{row_start}
use Rattle.tree_rows.proofs.LoopLaws.{rows_start, rows-turn}
use Rattle.pair_rows.specs.Writing.{PairsTo, BehindPairs}
use Rattle.pair_rows.proofs.WritingLaws.{behind-start, behind_more, pairs_start, pairs_end}
use Rattle.pair_rows.proofs.write_pairs.Goals as goal

pub make_row-requires : goal.make_row-requires
make_row-requires c = record { searchable = c.requires.searchable; some = omega arith; inside = omega arith }

pub loop-u-init : goal.loop-u-init
loop-u-init c =
    let a = c.args in (
      behind-start a.nodes a.area.now,
      λ net t by_place h d. (
        rows_start _ h d c.weigh_places.ensures.by_index,
        pairs_start net t by_place a.r.now.rank a.nodes a.area.now,
      ),
    )

pub loop-u-preserved : goal.loop-u-preserved
loop-u-preserved c =
    let l = c.loop-u in
    let a = c.args in
    let r = a.r.now in
    let p = r.places in (
      behind_more l.invariant.0 c.write_row.ensures.behind,
      λ net t by_place h d.
          rows-turn (λ u. PairsTo net t by_place r.rank a.nodes u a.nodes l.area) (omega arith) (omega arith)
          (c.make_row.ensures net t by_place) (c.write_row.ensures.more net t p.place p.node by_place) (l.invariant.1 net t by_place h d),
    )

pub returns : goal.returns
returns c net t by_place h ranks d =
    let l = c.loop-u in
    let a = c.args in
    let n = h.indexed.laid.held.sized in
    pairs_end h.kept.spanning ranks l.u (omega arith) a.area.now l.area
    (subst (λ (m : ℕ). row_start (m - 1) ≤ length a.area.now) (sym n) c.requires.room)
    (subst (λ (m : ℕ). BehindPairs m a.area.now l.area) (sym n) l.invariant.0)
    (subst (λ (m : ℕ). PairsTo net t by_place a.r.now.rank m l.u m l.area) (sym n) (l.invariant.1 net t by_place h d).1)
