-- How long an accepted sheet is, in any format: the header has 5 bytes, a link record no more than all fields take, a tree record its
-- share and its map. Bytes behind a longest sheet never alter the outcome: the checks of a record look at no byte behind it, and the
-- last check asks only whether a byte stands behind the last tree. Assumes nothing.
use Prim.Native.Nat.{ℕ, zero, suc, ◌+◌, ◌-◌, ◌*◌, ◌/◌, ◌%◌, ◌≤◌, ◌<◌}
use mathlib.Core.Path.{◌≡◌, refl, sym, ap, ap₂, ◌∙◌, subst}
use mathlib.Core.Bool.{Bool, true, false, ◌&&◌, not, cond}
use mathlib.Core.List.{List, [], ◌∷◌, ◌++◌}
use native.Mathlib.Nat.{not-suc-le-zero, mul-le-mul, mul-le-mul_right}
use native.Mathlib.Omega.{arith}
use native.Mathlib.Decide.{dec_le, dec_lt}
use lib.ListN.{length, get_or, take, drop, length-append, length-drop, take-append-drop, get_or-append, get_or-eq_default}
use lib.Seq.{drop-append-le, length-take-le, take_all}
use lib.Dec.{eqb, leb, ltb}
use borrow.Author.Tests.{lt-ltb, le-ltb, ne_eqb}
use Rattle.cuts.specs.Sums.{sum_to, only}
use Rattle.cuts.specs.Network.{Link, Tree, Network, link_count}
use Rattle.cuts.specs.Tree.{spans}
use Rattle.cuts.proofs.SumLaws.{any_to_congr, sum_congr, sum_mono, sum_less, table_congr}
use Rattle.sheet.specs.Bytes.{Bytes, number, bit, map_bit}
use Rattle.sheet.specs.Reading.{Check, check, first_failing, Reading, accepted, refused, number_of, unless, and_then, records}
use Rattle.sheet.specs.Sheet.{Format, Counts, counts_in, count_checks, header_record, map_byte, field_start, record_length, field, link_in, shape_checks, value_checks, link_record, next_link, map_length, tree_length, tree_in, map_checks, tree_checks, tree_record, network, decode_body, decode, record_most, sheet_most}
use Rattle.sheet.proofs.ReadingLaws.{unless-accepted, and_then-accepted, records-counted}
use Rattle.sheet.proofs.Acceptance.{GoodCounts, good-counts, decode-zero}

-- ---- reading at the front

-- f looks at the first a bytes only
abbrev Front : {A : Type 0} → ℕ → (Bytes → A) → Type 0
Front a f = (bs later : Bytes) → a ≤ length bs → f (bs ++ later) ≡ f bs

-- what was read, with the bytes `later` behind those left
abbrev behind : {A : Type 0} → Bytes → Reading A → Reading A
behind later (accepted x rest) = accepted x (rest ++ later)
behind later (refused n) = refused n

unless-behind : {A : Type 0} (later : Bytes) (n : ℕ) (r : Reading A) → unless n (behind later r) ≡ behind later (unless n r)
unless-behind later n r = step (eqb n 0)
  where
    step : (b : Bool) → cond b (behind later r) (refused n) ≡ behind later (cond b r (refused n))
    step true = refl
    step false = refl

-- `one` takes at most a bytes, and looks at no more than m behind these
record Local {A : Type 0} (a m : ℕ) (one : Bytes → Reading A) : Type 0 where
  takes : (bs : Bytes) (x : A) (rest : Bytes) → one bs ≡ accepted x rest → length bs ≤ length rest + a
  looks : (bs later : Bytes) → a + m ≤ length bs → one (bs ++ later) ≡ behind later (one bs)

local_more : {A : Type 0} {a b m : ℕ} {one : Bytes → Reading A} → a ≤ b → Local a m one → Local b m one
local_more l w = record {
  takes = λ bs x rest e. let t = w.takes bs x rest e in omega arith;
  looks = λ bs later h. w.looks bs later (omega arith);
}

-- a record with its checks, `size bs` bytes long
module _ {A : Type 0} (a : ℕ) (checks : Bytes → List Check) (value : Bytes → A) (size : Bytes → ℕ) where
  unless_local : Front a checks → Front a value → Front a size → ((bs : Bytes) → size bs ≤ a)
      → Local a 0 (λ bs. unless (first_failing (checks bs)) (accepted (value bs) (drop (size bs) bs)))
  unless_local c v s most = record {
    takes = λ bs x rest e. let r = unless-accepted (first_failing (checks bs)) _ e in
        let q : drop (size bs) bs ≡ rest = cc in
        let l : length (drop (size bs) bs) ≡ length rest = ap length q in
        omega (arith, length-drop (size bs) bs, most bs);
    looks = λ bs later h. let k : a ≤ length bs = omega arith in
        let l : size bs ≤ length bs = omega (arith, most bs) in
        rw (c bs later k, v bs later k, s bs later k, drop-append-le (size bs) bs later l)
        (unless-behind later (first_failing (checks bs)) (accepted (value bs) (drop (size bs) bs)));
  }

module _ {A B : Type 0} {a b m : ℕ} (one : Bytes → Reading A) (next : A → Bytes → Reading B) where
  and_then_local : Local a 0 one → ((bs : Bytes) (x : A) (rest : Bytes) → one bs ≡ accepted x rest → Local b m (next x))
      → Local (a + b) m (λ bs. and_then (one bs) next)
  and_then_local u w = record {
    takes = λ bs y end e. let r = and_then-accepted (one bs) next e in
        let p = u.takes bs r.0 r.1 r.2 in
        let q = (w bs r.0 r.1 r.2).takes r.1 y end r.3 in
        omega arith;
    looks = λ bs later h. rw (u.looks bs later (omega arith)) (step bs later h (one bs) refl);
  }
    where
      step : (bs later : Bytes) → a + b + m ≤ length bs → (r : Reading A) → one bs ≡ r
          → and_then (behind later r) next ≡ behind later (and_then r next)
      step bs later h (accepted x rest) e = let t = u.takes bs x rest e in (w bs x rest e).looks rest later (omega arith)
      step bs later h (refused n) e = refl

records_local : {A : Type 0} {a : ℕ} (one : List A → Bytes → Reading A) → ((got : List A) → Local a 0 (one got))
    → (k : ℕ) (got : List A) → Local (k * a) 0 (records one k got)
unfolding records
records_local one w zero got = record {
  takes = λ bs xs rest e. let q : bs ≡ rest = cc in let l : length bs ≡ length rest = ap length q in omega arith;
  looks = λ bs later h. refl;
}
records_local one w (suc k) got =
    local_more (omega arith)
    (and_then_local (one got) (λ x rest. records one k (got ++ x ∷ []) rest) (w got) (λ bs x rest e. records_local one w k (got ++ x ∷ [])))

-- ---- bytes

pub number-front : (w : ℕ) → Front w (number w)
unfolding number
number-front zero bs later h = refl
number-front (suc w) [] later h = absurd (not-suc-le-zero h)
number-front (suc w) (x ∷ bs) later h = rw (number-front w bs later (omega arith))

map_bit-front : (n k : ℕ) → k < 8 * n → Front n (λ map. map_bit map k)
map_bit-front n k b map later h = ap (λ (x : ℕ). bit x (k % 8)) (get_or-append map later 0 (k / 8) (omega arith))

pub drop-front : {A : Type 0} (at a : ℕ) (f : Bytes → A) → Front a f → Front (at + a) (λ bs. f (drop at bs))
drop-front at a f e bs later h =
    rw (drop-append-le at bs later (omega arith)) (e (drop at bs) later (let l = length-drop at bs in omega arith))

-- bytes that are enough are enough with more behind
length_front : (a n : ℕ) → n ≤ a → Front a (λ bs. ltb (length bs) n)
length_front a n l bs later h =
    le-ltb (length (bs ++ later)) n (let e = length-append bs later in omega arith) ∙ sym (le-ltb (length bs) n (omega arith))

-- ---- the header

pub counts_in-front : Front 5 counts_in
unfolding counts_in
counts_in-front bs later h =
    rw (
      number-front 2 bs later (omega arith),
      drop-front 2 2 (number 2) (number-front 2) bs later (omega arith),
      drop-front 4 1 (number 1) (number-front 1) bs later h,
    )

header_record_local : Local 5 0 header_record
unfolding header_record
header_record_local =
    unless_local 5 (λ bs. check 3 (ltb (length bs) 5) ∷ count_checks (counts_in bs)) counts_in (λ bs. 5)
    (λ bs later h. ap₂ (λ (b : Bool) (c : Counts). check 3 b ∷ count_checks c) (length_front 5 5 (omega arith) bs later h) (counts_in-front bs later h))
    counts_in-front (λ bs later h. refl) (λ bs. omega arith)

-- ---- links

-- what no bit is set for counts nothing, and past the last width nothing is counted
widths-most : (ws : List ℕ) (i : ℕ) → sum_to i (λ j. get_or ws j 0) ≤ sum_to (length ws) (λ j. get_or ws j 0)
unfolding sum_to
widths-most ws zero = omega arith
widths-most ws (suc i) = step (dec_lt i (length ws)) (widths-most ws i)
  where
    step : Dec (i < length ws) → sum_to i (λ j. get_or ws j 0) ≤ sum_to (length ws) (λ j. get_or ws j 0)
        → sum_to i (λ j. get_or ws j 0) + get_or ws i 0 ≤ sum_to (length ws) (λ j. get_or ws j 0)
    step (yes b) h = sum_less (suc i) (length ws) (λ j. get_or ws j 0) b
    step (no b) h = rw (get_or-eq_default ws 0 (let l : length ws ≤ i = omega arith in l)) (omega arith)

module _ (f : Format) where
  field_start-most : (m i : ℕ) → field_start f m i ≤ sum_to i (λ j. get_or f.widths j 0)
  unfolding field_start
  field_start-most m i = sum_mono i _ _ (λ j _. part (bit m j) (get_or f.widths j 0))
    where
      part : (b : Bool) (x : ℕ) → only b x ≤ x
      part true x = omega arith
      part false x = omega arith

  record_length-most : (bs : Bytes) → record_length f bs ≤ record_most f
  unfolding record_most
  record_length-most bs = omega (arith, field_start-most (map_byte bs) (length f.widths))

  record_length-front : Front (record_most f) (record_length f)
  unfolding record_most
  record_length-front bs later h = rw (get_or-append bs later 0 0 (omega arith))

  field-front : (i before : ℕ) → Front (record_most f) (field f i before)
  unfolding field sum_to record_most
  field-front i before [] later h = absurd (omega arith)
  field-front i before (x ∷ bs) later h =
      let w : ℕ = get_or f.widths i 0 in
      let m = field_start-most x i in
      let n = widths-most f.widths (suc i) in
      ap (λ (v : ℕ). cond (bit x i) v before) (drop-front (1 + field_start f x i) w (number w) (number-front w) (x ∷ bs) later (omega arith))

  link_in-front : (before : Link) → Front (record_most f) (link_in f before)
  unfolding link_in
  link_in-front before bs later h =
      rw (field-front 0 before.first bs later h, field-front 1 before.second bs later h, field-front 2 before.weight bs later h)

  shape_checks-front : (start : Bool) → Front (record_most f) (shape_checks f start)
  unfolding shape_checks record_most
  shape_checks-front start bs later h =
      rw (
        get_or-append bs later 0 0 (omega arith),
        length_front (record_most f) (record_length f bs) (record_length-most bs) bs later h,
        ne_eqb (length (bs ++ later)) 0 (λ e. let l = length-append bs later in omega arith),
        ne_eqb (length bs) 0 (λ e. omega arith),
      )

  link_record_local : (nodes : ℕ) (start : Bool) (before : Link) → Local (record_most f) 0 (link_record f nodes start before)
  unfolding link_record
  link_record_local nodes start before =
      unless_local (record_most f) (λ bs. shape_checks f start bs ++ value_checks f nodes (link_in f before bs)) (link_in f before) (record_length f)
      (λ bs later h. ap₂ ◌++◌ (shape_checks-front start bs later h) (ap (value_checks f nodes) (link_in-front before bs later h)))
      (link_in-front before) record_length-front record_length-most

-- ---- trees

map_checks-front : (nodes links : ℕ) → Front (map_length links) (map_checks nodes links)
unfolding map_checks
map_checks-front nodes links map later h =
    let n : ℕ = 8 * map_length links in
    let e : (k : ℕ) → k < n → map_bit (map ++ later) k ≡ map_bit map k = λ k b. map_bit-front (map_length links) k b map later h in
    ap₂ (λ (b : Bool) (c : ℕ). check 13 b ∷ check 14 (not (eqb c (nodes - 1))) ∷ [])
    (any_to_congr n _ _ (λ k b. ap (λ (c : Bool). leb links k && c) (e k b)))
    (sum_congr n _ _ (λ k b. ap (λ (c : Bool). only c 1) (e k b)))

module _ (net : Network) where
  tree_in-front : Front (tree_length (link_count net)) (tree_in net)
  unfolding tree_in
  tree_in-front bs later h =
      let size : ℕ = map_length (link_count net) in
      ap₂ (λ (share : ℕ) (members : List Bool). record { share = share; members = members }) (number-front 4 bs later (omega arith))
      (table_congr (link_count net) _ _ (λ k b. drop-front 4 size (λ map. map_bit map k) (map_bit-front size k (omega arith)) bs later h))

  tree_checks-front : Front (tree_length (link_count net)) (tree_checks net)
  unfolding tree_checks
  tree_checks-front bs later h =
      let n : ℕ = tree_length (link_count net) in
      let map : Bytes → List Check = map_checks net.nodes (link_count net) in
      ap₂ ◌++◌ (ap₂ (λ (b : Bool) (cs : List Check). check 12 b ∷ cs) (length_front n n (omega arith) bs later h)
      (drop-front 4 (map_length (link_count net)) map (map_checks-front net.nodes (link_count net)) bs later h))
      (ap (λ (t : Tree). check 15 (not (spans net t)) ∷ []) (tree_in-front bs later h))

  tree_record_local : Local (tree_length (link_count net)) 0 (tree_record net)
  unfolding tree_record
  tree_record_local =
      let n : ℕ = tree_length (link_count net) in
      unless_local n (tree_checks net) (tree_in net) (λ bs. n) tree_checks-front tree_in-front (λ bs later h. refl) (λ bs. omega arith)

-- ---- the whole sheet

-- the last check
end_local : (net : Network) → Local 0 1 (λ end. unless (first_failing (check 16 (ltb 0 (length end)) ∷ [])) (accepted net end))
unfolding first_failing
end_local net = record {
  takes = λ end x rest e. let r = unless-accepted (first_failing (check 16 (ltb 0 (length end)) ∷ [])) (accepted net end) e in
      let q : end ≡ rest = cc in
      let l : length end ≡ length rest = ap length q in
      omega arith;
  looks = λ end later h. let l = length-append end later in
      rw (lt-ltb 0 (length (end ++ later)) (omega arith), lt-ltb 0 (length end) (omega arith));
}

module _ (f : Format) (c : Counts) where
  abbrev read_links : Bytes → Reading (List Link)
  read_links = records (next_link f c.nodes) c.links []

  abbrev read_trees : List Link → Bytes → Reading (List Tree)
  read_trees links = records (λ _. tree_record (network c.nodes links [])) c.trees []

  links-counted : (bs : Bytes) (links : List Link) (rest : Bytes) → read_links bs ≡ accepted links rest → length links ≡ c.links
  links-counted bs links rest e =
      omega (arith, records-counted (next_link f c.nodes) c.links [] bs e)

  links_local : Local (c.links * record_most f) 0 read_links
  links_local = records_local (next_link f c.nodes) (λ got. link_record_local f c.nodes _ _) c.links []

  trees_local : (links : List Link) → length links ≡ c.links → Local (c.trees * tree_length c.links) 0 (read_trees links)
  trees_local links e =
      let net : Network = network c.nodes links [] in
      subst (λ (n : ℕ). Local (c.trees * tree_length n) 0 (read_trees links)) e (records_local (λ _. tree_record net) (λ got. tree_record_local net) c.trees [])

  decode_body_local : Local (c.links * record_most f + c.trees * tree_length c.links) 1 (decode_body f c)
  unfolding decode_body
  decode_body_local =
      local_more (omega arith)
      (and_then_local read_links _ links_local
      (λ bs links rest e. and_then_local {b = 0} (read_trees links) _ (trees_local links (links-counted bs links rest e))
      (λ _ trees _ _. end_local (network c.nodes links trees))))

module _ (f : Format) where
  most_mono : (c : Counts) → GoodCounts c → c.links * record_most f + c.trees * tree_length c.links ≤ 2048 * record_most f + 32 * tree_length 2048
  most_mono c w =
      let a = mul-le-mul_right (record_most f) w.links_most in
      let l : tree_length c.links ≤ tree_length 2048 = let m = w.links_most in omega arith in
      let b = mul-le-mul w.trees_most l in
      omega arith

  decode_local : Local (sheet_most f 2048 32) 1 (decode f)
  unfolding decode sheet_most
  decode_local =
      local_more (omega arith) (and_then_local header_record (decode_body f) header_record_local
      (λ sheet c rest e. local_more (most_mono c (good-counts sheet c rest e)) (decode_body_local f c)))

  -- no accepted sheet is longer
  pub decode-longest : (sheet : Bytes) (net : Network) (rest : Bytes) → decode f sheet ≡ accepted net rest → length sheet ≤ sheet_most f 2048 32
  decode-longest sheet net rest e = let z = decode-zero f sheet (ap number_of e) in omega (arith, decode_local.takes sheet z.0 [] z.1)

  -- with more bytes both are refused, by the same number
  decode-front : (front later : Bytes) → sheet_most f 2048 32 < length front → decode f (front ++ later) ≡ decode f front
  decode-front front later h = decode_local.looks front later (omega arith) ∙ step (decode f front) refl
    where
      step : (r : Reading Network) → decode f front ≡ r → behind later r ≡ r
      step (accepted net rest) e = absurd (omega (arith, decode-longest front net rest e))
      step (refused n) e = refl

  -- so the first n bytes decide, where n is more: document 01, "later bytes cannot alter the outcome"
  pub decode-take : (n : ℕ) (sheet : Bytes) → sheet_most f 2048 32 < n → decode f (take n sheet) ≡ decode f sheet
  decode-take n sheet h = step (dec_le (length sheet) n)
    where
      step : Dec (length sheet ≤ n) → decode f (take n sheet) ≡ decode f sheet
      step (yes l) = ap (decode f) (take_all n sheet l)
      step (no l) =
          sym (decode-front (take n sheet) (drop n sheet) (let e = length-take-le n sheet (omega arith) in omega arith))
          ∙ ap (decode f) (take-append-drop n sheet)
