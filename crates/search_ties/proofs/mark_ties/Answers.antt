-- What is left to prove of `mark_ties`.
use Rattle.std.proofs.Common.{ℕ, length, sym, subst, arith}
use Rattle.tree_rows.proofs.LoopLaws.{rows_start, rows-turn}
use Rattle.search_ties.specs.Ties.{InRows, LightMarked}
use Rattle.search_ties.proofs.MarkLaws.{marked_start}
use Rattle.search_ties.proofs.TableLaws.{marked_end}
use Rattle.search_ties.proofs.mark_ties.Goals as goal

pub loop-u-init : goal.loop-u-init
loop-u-init c net t by_place h d =
    let a = c.args in (
      rows_start _ h d c.weigh_places.ensures.by_index,
      rw c.requires.clear (marked_start a.nodes a.nodes (length a.table.now) (omega arith)),
    )

pub loop-u-preserved : goal.loop-u-preserved
loop-u-preserved c net t by_place h d =
    let l = c.loop-u in
    let a = c.args in
    let r = a.r.now in
    let p = r.places in
    rows-turn (λ u. LightMarked net t by_place r.rank (InRows a.nodes u a.nodes) a.limit l.table) (omega arith) (omega arith)
    (c.make_row.ensures net t by_place) (c.mark_row.ensures net t p.place p.node by_place) (l.invariant net t by_place h d)

pub returns : goal.returns
returns c net t by_place h ranks d =
    let l = c.loop-u in
    let a = c.args in
    let r = a.r.now in
    let n = h.indexed.laid.held.sized in
    marked_end (omega (arith, c.requires.searchable.few_nodes)) h.kept.spanning.counted ranks (omega arith)
    (subst (λ (m : ℕ). LightMarked net t by_place r.rank (InRows m l.u m) a.limit l.table) (sym n) (l.invariant net t by_place h d).1)
