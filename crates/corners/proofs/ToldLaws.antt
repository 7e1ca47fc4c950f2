-- What the operation promises, by which refusal comes first: 1, the sheet's, or 21. A map that passes gives a side without the root, only
-- its first 32 bytes are read, and of a sheet only the network or the refusal that it gives counts.
-- Assumes nothing.
use Prim.Native.Nat.{ℕ, ◌*◌, ◌/◌, ◌%◌, ◌≤◌, ◌<◌}
use mathlib.Core.Path.{◌≡◌, refl, sym, ap, ap₂, ◌∙◌, subst}
use mathlib.Core.Bool.{Bool, true, false, ◌&&◌, ◌||◌, not}
use mathlib.Core.List.{List, []}
use native.Mathlib.Decide.{dec_lt}
use native.Mathlib.Omega.{arith}
use lib.ListN.{length, take, length-take}
use lib.Seq.{get_or-take}
use lib.Dec.{ltb, leb}
use borrow.Author.Tests.{lt-ltb, le-ltb, not-false}
use Rattle.cuts.specs.Sums.{only, any_to, table}
use Rattle.cuts.specs.Network.{Network, flag}
use Rattle.cuts.specs.Cut.{size}
use Rattle.cuts.proofs.FlagLaws.{neither}
use Rattle.cuts.proofs.SumLaws.{any_to-some, any_to_congr, sum-entry, count-lacks, table-length, table_at, table_congr}
use Rattle.sheet.specs.Bytes.{Bytes, bit, map_bit}
use Rattle.sheet.specs.Reading.{first_failing, Reading, accepted, refused, number_of, unless, and_then}
use Rattle.sheet.specs.Sheet.{Format, current, decode}
use Rattle.sheet.specs.Areas.{side_length, side_read}
use Rattle.sheet.proofs.ReadingLaws.{and_then-zero}
use Rattle.sheet.proofs.Acceptance.{decode-zero, decode-accepted}
use Rattle.sheet.proofs.Plain.{cut_off, plain}
use Rattle.sheet.proofs.PlainLaws.{plain-same}
use Rattle.corners.specs.Corners.{corner, corner_of, corner_table, OwedCorners}
use Rattle.corners.specs.CornersTold.{short_maps, no_side, sides_there, corner_reading, table_left, GivenSide, CornersTold}
use Rattle.corners.proofs.CornerLaws.{table_owed}

-- ---- maps

-- a map that passes gives a side without the root
pub given-side : (net : Network) → 0 < net.nodes → (map : Bytes) → no_side net.nodes map ≡ false → GivenSide net map
unfolding no_side side_read size
given-side net l map h =
    let n : ℕ = net.nodes in
    let p = neither (not (any_to n (map_bit map)) || map_bit map 0) _ h in
    let q = neither (not (any_to n (map_bit map))) (map_bit map 0) p.0 in
    let s = any_to-some n (map_bit map) (not-false (any_to n (map_bit map)) q.0) in
    let e = sum-entry n (λ x. only (flag (table n (map_bit map)) x) 1) s.0 s.1 in
    let i = rw (table_at false n (map_bit map) s.0 s.1 ∙ s.2) at e in
    let z : flag (table n (map_bit map)) 0 ≡ false = table_at false n (map_bit map) 0 l ∙ q.1 in (
      record { sized = table-length n (map_bit map); not_empty = i; not_full = count-lacks n (flag (table n (map_bit map))) 0 l z },
      record { sized = table-length n (map_bit map); without = z },
    )

-- the corner of a node, by its bits in the two maps
pub corner_bits : (n : ℕ) (first second : Bytes) (x : ℕ) → x < n → corner_of (side_read n first) (side_read n second) x ≡ corner (map_bit first x) (map_bit second x)
unfolding side_read
corner_bits n first second x b = ap₂ corner (table_at false n (map_bit first) x b) (table_at false n (map_bit second) x b)

-- only the first 32 bytes count
map_bit-front : (map : Bytes) (k : ℕ) → k < 8 * side_length → map_bit (take side_length map) k ≡ map_bit map k
map_bit-front map k b = ap (λ (x : ℕ). bit x (k % 8)) (get_or-take side_length map (k / 8) 0 (omega arith))

pub side_read-front : (n : ℕ) (map : Bytes) → n ≤ 8 * side_length → side_read n (take side_length map) ≡ side_read n map
unfolding side_read
side_read-front n map l = table_congr n _ _ (λ k b. map_bit-front map k (omega arith))

pub no_side-front : (n : ℕ) (map : Bytes) → n ≤ 8 * side_length → no_side n (take side_length map) ≡ no_side n map
unfolding no_side
no_side-front n map l =
    let some = any_to_congr n (map_bit (take side_length map)) (map_bit map) (λ k b. map_bit-front map k (omega arith)) in
    let past = any_to_congr (8 * side_length) (λ k. leb n k && map_bit (take side_length map) k) (λ k. leb n k && map_bit map k)
    (λ k b. ap (λ (c : Bool). leb n k && c) (map_bit-front map k b)) in
    λ i. not (some i) || map_bit-front map 0 (omega arith) i || past i

-- ---- which refusal comes first

module _ (first second : Bytes) (net : Network) (rest : Bytes) where
  pub sides_there-first : no_side net.nodes first ≡ true → sides_there first second net rest ≡ refused 21
  unfolding sides_there first_failing
  sides_there-first h = rw h

  pub sides_there-second : no_side net.nodes first ≡ false → no_side net.nodes second ≡ true → sides_there first second net rest ≡ refused 21
  unfolding sides_there first_failing
  sides_there-second h k = rw (h, k)

  pub sides_there-both : no_side net.nodes first ≡ false → no_side net.nodes second ≡ false → sides_there first second net rest ≡ accepted net rest
  unfolding sides_there first_failing
  sides_there-both h k = rw (h, k)

module _ (f : Format) (sheet first second : Bytes) where
  pub short-first : length first < side_length → corner_reading f sheet first second ≡ refused 1
  unfolding corner_reading short_maps first_failing
  short-first l = rw (lt-ltb (length first) side_length l)

  module _ (long : side_length ≤ length first) where
    pub short-second : length second < side_length → corner_reading f sheet first second ≡ refused 1
    unfolding corner_reading short_maps first_failing
    short-second l = rw (le-ltb (length first) side_length long, lt-ltb (length second) side_length l)

    module _ (long' : side_length ≤ length second) where
      pub corner_reading-is : corner_reading f sheet first second ≡ and_then (decode f sheet) (sides_there first second)
      unfolding corner_reading short_maps first_failing
      corner_reading-is = rw (le-ltb (length first) side_length long, le-ltb (length second) side_length long')

      pub corner_reading-refused : (n : ℕ) → decode f sheet ≡ refused n → corner_reading f sheet first second ≡ refused n
      corner_reading-refused n e = corner_reading-is ∙ ap (λ (r : Reading Network). and_then r (sides_there first second)) e

      pub corner_reading-accepted : (net : Network) (rest : Bytes) → decode f sheet ≡ accepted net rest
          → corner_reading f sheet first second ≡ sides_there first second net rest
      corner_reading-accepted net rest e = corner_reading-is ∙ ap (λ (r : Reading Network). and_then r (sides_there first second)) e

  -- number 0: both maps are long enough, the sheet was accepted, and the maps give sides
  read-sides : number_of (corner_reading f sheet first second) ≡ 0 → (net : Network) × (decode f sheet ≡ accepted net [])
      × (no_side net.nodes first ≡ false) × (no_side net.nodes second ≡ false) × (corner_reading f sheet first second ≡ accepted net [])
  read-sides z = enough (dec_lt (length first) side_length) (dec_lt (length second) side_length)
    where
      sides : (net : Network) → number_of (sides_there first second net []) ≡ 0 → (b c : Bool) → no_side net.nodes first ≡ b → no_side net.nodes second ≡ c
          → (b ≡ false) × (c ≡ false)
      sides net e true c p q = let k = sym (ap number_of (sides_there-first first second net [] p)) ∙ e in absurd (omega arith)
      sides net e false true p q = let k = sym (ap number_of (sides_there-second first second net [] p q)) ∙ e in absurd (omega arith)
      sides net e false false p q = (refl, refl)

      enough : Dec (length first < side_length) → Dec (length second < side_length) → (net : Network) × (decode f sheet ≡ accepted net [])
          × (no_side net.nodes first ≡ false) × (no_side net.nodes second ≡ false) × (corner_reading f sheet first second ≡ accepted net [])
      enough (yes l) d = let k = sym (ap number_of (short-first l)) ∙ z in absurd (omega arith)
      enough (no l) (yes m) = let k = sym (ap number_of (short-second (omega arith) m)) ∙ z in absurd (omega arith)
      enough (no l) (no m) =
          let long : side_length ≤ length first = omega arith in
          let long' : side_length ≤ length second = omega arith in
          let d = decode-zero f sheet (and_then-zero (decode f sheet) (sides_there first second) (sym (ap number_of (corner_reading-is long long')) ∙ z)) in
          let e = corner_reading-accepted long long' d.0 [] d.1 in
          let g = sides d.0 (sym (ap number_of e) ∙ z) (no_side d.0.nodes first) (no_side d.0.nodes second) refl refl in
          (d.0, d.1, g.0, g.1, e ∙ sides_there-both first second d.0 [] g.0 g.1)

  -- ---- the promise

  -- a number and a table that are those of the reading are all that is promised
  pub corners-told : {t : List (List ℕ)} {n : ℕ} → n ≡ number_of (corner_reading f sheet first second) → t ≡ table_left first second (corner_reading f sheet first second)
      → CornersTold f sheet first second t n
  corners-told {t} {n} p q = record {
    number = p;
    table_is = q;
    owed = λ z. let r = read-sides (sym p ∙ z) in
        let net = r.0 in
        let v = (decode-accepted f sheet net [] r.1).sound in
        let e : t ≡ corner_table net (side_read net.nodes first) (side_read net.nodes second) = q ∙ ap (table_left first second) r.4 in (
          net,
          r.1,
          given-side net v.linked.rooted first r.2,
          given-side net v.linked.rooted second r.3,
          subst (OwedCorners net (side_read net.nodes first) (side_read net.nodes second)) (sym e)
              (table_owed net (side_read net.nodes first) (side_read net.nodes second) v.linked),
        );
  }

  -- ---- "only the first 32 bytes are read"

  short-front : (map : Bytes) → ltb (length (take side_length map)) side_length ≡ ltb (length map) side_length
  short-front map = step (dec_lt (length map) side_length)
    where
      step : Dec (length map < side_length) → ltb (length (take side_length map)) side_length ≡ ltb (length map) side_length
      step (yes l) = let e = length-take side_length map in lt-ltb (length (take side_length map)) side_length (omega arith) ∙ sym (lt-ltb (length map) side_length l)
      step (no l) = let e = length-take side_length map in le-ltb (length (take side_length map)) side_length (omega arith) ∙ sym (le-ltb (length map) side_length (omega arith))

  opens : (first second : Bytes) → corner_reading f sheet first second ≡ unless (first_failing (short_maps first second)) (and_then (decode f sheet) (sides_there first second))
  unfolding corner_reading
  opens first second = refl

  maps_front : first_failing (short_maps (take side_length first) (take side_length second)) ≡ first_failing (short_maps first second)
  unfolding short_maps first_failing
  maps_front = rw (short-front first, short-front second)

  sides-front : (net : Network) (rest : Bytes) → net.nodes ≤ 8 * side_length
      → sides_there (take side_length first) (take side_length second) net rest ≡ sides_there first second net rest
  unfolding sides_there first_failing
  sides-front net rest l = rw (no_side-front net.nodes first l, no_side-front net.nodes second l)

  pub corner_reading-front : corner_reading f sheet (take side_length first) (take side_length second) ≡ corner_reading f sheet first second
  corner_reading-front =
      opens (take side_length first) (take side_length second)
      ∙ ap₂ (λ (n : ℕ) (r : Reading Network). unless n r) maps_front (step (decode f sheet) refl) ∙ sym (opens first second)
    where
      step : (r : Reading Network) → decode f sheet ≡ r → and_then r (sides_there (take side_length first) (take side_length second)) ≡ and_then r (sides_there first second)
      step (accepted net rest) e = sides-front net rest (decode-accepted f sheet net rest e).nodes_most
      step (refused n) e = refl

  pub table_left-front : table_left (take side_length first) (take side_length second) (corner_reading f sheet first second) ≡ table_left first second (corner_reading f sheet first second)
  table_left-front = step (corner_reading f sheet first second) refl
    where
      few : (net : Network) (rest : Bytes) → corner_reading f sheet first second ≡ accepted net rest → net.nodes ≤ 8 * side_length
      few net rest e =
          let r = read-sides (ap number_of e) in
          let same : accepted r.0 [] ≡ accepted net rest = sym r.4 ∙ e in
          let q : r.0 ≡ net = cc in
          let m = (decode-accepted f sheet r.0 [] r.1).nodes_most in
          subst (λ (x : Network). x.nodes ≤ 8 * side_length) q m

      step : (r : Reading Network) → corner_reading f sheet first second ≡ r → table_left (take side_length first) (take side_length second) r ≡ table_left first second r
      step (accepted net rest) e = ap₂ (corner_table net) (side_read-front net.nodes first (few net rest e)) (side_read-front net.nodes second (few net rest e))
      step (refused n) e = refl

-- maps with the same first 32 bytes get the same answer
module _ (f : Format) (sheet first second first' second' : Bytes) (same : take side_length first ≡ take side_length first')
    (same' : take side_length second ≡ take side_length second') where
  reading-same : corner_reading f sheet first second ≡ corner_reading f sheet first' second'
  reading-same = sym (corner_reading-front f sheet first second) ∙ ap₂ (corner_reading f sheet) same same' ∙ corner_reading-front f sheet first' second'

  left-same : table_left first second (corner_reading f sheet first second) ≡ table_left first' second' (corner_reading f sheet first' second')
  left-same =
      sym (table_left-front f sheet first second)
      ∙ (λ i. table_left (same i) (same' i) (reading-same i))
      ∙ table_left-front f sheet first' second'

  pub told_same : {t : List (List ℕ)} {n : ℕ} → CornersTold f sheet first second t n → CornersTold f sheet first' second' t n
  told_same w = corners-told f sheet first' second' (w.number ∙ ap number_of reading-same) (w.table_is ∙ left-same)

-- ---- sheets that give the same network or the same refusal get the same answer

module _ (first second : Bytes) {t : List (List ℕ)} {n : ℕ} where
  pub told-read : (f g : Format) (sheet sheet' : Bytes) → decode f sheet ≡ decode g sheet' → CornersTold f sheet first second t n → CornersTold g sheet' first second t n
  unfolding corner_reading
  told-read f g sheet sheet' same w =
      let e : corner_reading f sheet first second ≡ corner_reading g sheet' first second =
      ap (λ (r : Reading Network). unless (first_failing (short_maps first second)) (and_then r (sides_there first second))) same in
      corners-told g sheet' first second (w.number ∙ ap number_of e) (w.table_is ∙ ap (table_left first second) e)

  -- F-9: "and with it every other operation, steps over a whole trunk number and answers as if the bit and field were not there"
  pub told-plain : (sheet : Bytes) → cut_off sheet ≡ false → CornersTold current (plain sheet) first second t n → CornersTold current sheet first second t n
  told-plain sheet whole = told-read current current (plain sheet) sheet (plain-same sheet whole)
