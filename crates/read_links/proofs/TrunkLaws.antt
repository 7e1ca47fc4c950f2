-- The trunk numbers of link records that were read, one after another: the area holds those of the first k records, and the rest are
-- those of the records behind them. Assumes nothing.
use Prim.Native.Nat.{ℕ, suc, ◌+◌, ◌-◌, ◌≤◌, ◌<◌}
use mathlib.Core.Path.{◌≡◌, refl, sym, ap, ◌∙◌}
use mathlib.Core.List.{List, [], ◌∷◌, ◌++◌, append_assoc, append-nil}
use native.Mathlib.Nat.{sub-zero}
use native.Mathlib.Omega.{arith}
use native.Mathlib.Numerals.{add-one}
use lib.ListN.{length, get_or, set, drop, length-append, length-drop}
use lib.Seq.{length-take-le, length_front, set_at, drop-drop, drop-cons}
use lib.Dec.{eqb}
use Rattle.cuts.specs.Network.{Link, no_link}
use Rattle.sheet.specs.Bytes.{Bytes, ByteSized}
use Rattle.sheet.specs.Reading.{accepted, records}
use Rattle.sheet.specs.Sheet.{Format, record_length, field, next_link}
use Rattle.sheet.specs.Areas.{written}
use Rattle.sheet.specs.Trunks.{trunks_from}
use Rattle.read_links.specs.LinksRead.{LinksThere}
use Rattle.sheet.proofs.ReadingLaws.{and_then-accepted}
use Rattle.sheet.proofs.Sizes.{link_record-is, link_record-there, sized-drop, field_below}
use Rattle.read_links.proofs.RecordLaws.{FourFields}

-- after k records, of `count` from the position `from` on, in the format f: `at` is the position behind them, `trunk` the trunk number of
-- the last, and the area, which held `old`, has `done` at its front
pub record TrunksRun (f : Format) (s : Bytes) (from count : ℕ) (old numbers : List ℕ) (at trunk k : ℕ) : Type 0 where
  pub nodes : ℕ
  pub got : List Link
  pub links : List Link
  pub rest : Bytes
  pub left : records (next_link f nodes) (count - k) got (drop at s) ≡ accepted links rest
  pub done : List ℕ
  pub sized : length done ≡ k
  pub all : done ++ trunks_from f (count - k) trunk (drop at s) ≡ trunks_from f count 0 (drop from s)
  pub held : numbers ≡ written done old
  pub small : trunk < 65536
  pub within : k ≤ count
  pub room : count ≤ length old

pub trunks-start : (f : Format) (s : Bytes) (from count : ℕ) (old : List ℕ) → LinksThere f s from count → count ≤ length old → TrunksRun f s from count old old from 0 0
trunks-start f s from count old there room = record {
  nodes = there.nodes;
  got = [];
  links = there.links;
  rest = there.rest;
  left = rw sub-zero there.are_read;
  done = [];
  sized = refl;
  all = rw sub-zero;
  held = refl;
  small = omega arith;
  within = omega arith;
  room = room;
}

module _ {f : Format} {s : Bytes} {from count : ℕ} {old numbers : List ℕ} {at trunk k : ℕ} (w : TrunksRun f s from count old numbers at trunk k) where
  pub numbers-length : length numbers ≡ length old
  numbers-length =
      let d = w.sized in
      let e = w.within in
      let g = w.room in
      ap length w.held ∙ length_front old w.done (length w.done) (sym (length-take-le (length w.done) old (omega arith)))

  module _ (more : k < count) where
    -- the next record is read, and so are those behind it
    next : (x : Link) × (rest : Bytes) × (next_link f w.nodes w.got (drop at s) ≡ accepted x rest)
        × (records (next_link f w.nodes) (count - (k + 1)) (w.got ++ x ∷ []) rest ≡ accepted w.links w.rest)
    unfolding records
    next =
        let n : count - k ≡ suc (count - (k + 1)) = omega arith in
        and_then-accepted (next_link f w.nodes w.got (drop at s)) (λ x rest. records (next_link f w.nodes) (count - (k + 1)) (w.got ++ x ∷ []) rest) (rw n at w.left)

    -- it lies in the sheet
    pub next-there : at + record_length f (drop at s) ≤ length s
    next-there =
        let r = next in
        let l = link_record-there f w.nodes (eqb (length w.got) 0) (get_or w.got (length w.got - 1) no_link) (drop at s) r.0 r.1 r.2 in
        let d = length-drop at s in
        omega arith

    abbrev number-next : ℕ
    number-next = field f 3 trunk (drop at s)

    module _ (four : FourFields f) (bytes : ByteSized s) where
      pub next_small : number-next < 65536
      next_small = let b = field_below f 3 trunk (drop at s) (rw four.trunk_two w.small) (sized-drop at s bytes) in rw four.trunk_two at b

      pub trunks-more : (t end : ℕ) → t ≡ number-next → end ≡ at + record_length f (drop at s) → TrunksRun f s from count old (set numbers k t) end t (k + 1)
      unfolding trunks_from
      trunks-more t end e p =
          let r = next in
          let n : count - k ≡ suc (count - (k + 1)) = omega arith in
          let is = link_record-is f w.nodes (eqb (length w.got) 0) (get_or w.got (length w.got - 1) no_link) (drop at s) r.0 r.1 r.2 in
          let place : drop end s ≡ drop (record_length f (drop at s)) (drop at s) = ap (λ (i : ℕ). drop i s) p ∙ sym (drop-drop (record_length f (drop at s)) at s) in
          record {
            nodes = w.nodes;
            got = w.got ++ r.0 ∷ [];
            links = w.links;
            rest = w.rest;
            left = rw (place, is.1) r.3;
            done = w.done ++ t ∷ [];
            sized = length-append w.done (t ∷ []) ∙ ap (λ (i : ℕ). i + 1) w.sized;
            all = rw (place, e) (append_assoc w.done (number-next ∷ []) _ ∙ rw n at w.all);
            held = rw w.held (put_next t);
            small = rw e next_small;
            within = omega arith;
            room = w.room;
          }
        where
          put_next : (t : ℕ) → set (written w.done old) k t ≡ written (w.done ++ t ∷ []) old
          put_next t =
              let l : length w.done < length old = let a = w.sized in let b = w.room in omega arith in
              let m : length (w.done ++ t ∷ []) ≡ suc (length w.done) = length-append w.done (t ∷ []) ∙ add-one (length w.done) in
              ap (λ (bs : List ℕ). set (w.done ++ bs) k t) (drop-cons old (length w.done) 0 l)
              ∙ set_at w.done (get_or old (length w.done) 0) (drop (suc (length w.done)) old) t k w.sized
              ∙ sym (ap (λ (i : ℕ). (w.done ++ t ∷ []) ++ drop i old) m ∙ append_assoc w.done (t ∷ []) (drop (suc (length w.done)) old))

pub trunks-done : {f : Format} {s : Bytes} {from count : ℕ} {old numbers : List ℕ} {at trunk k : ℕ} → TrunksRun f s from count old numbers at trunk k → count ≤ k
    → numbers ≡ written (trunks_from f count 0 (drop from s)) old
unfolding trunks_from
trunks-done {f} {s} {from} {count} {old} {numbers} {at} {trunk} {k} w end =
    let n : count - k ≡ 0 = omega arith in
    let e : w.done ≡ trunks_from f count 0 (drop from s) = sym (append-nil w.done) ∙ rw n at w.all in
    w.held ∙ ap (λ (ts : List ℕ). written ts old) e
