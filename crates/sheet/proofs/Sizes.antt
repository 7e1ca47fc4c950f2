-- How large the numbers of a sheet are, since its bytes are bytes: a weight and a share have four of them. Where every weight of four
-- bytes is allowed, no sheet is refused by 11. Assumes nothing.
use Prim.Native.Nat.{ℕ, zero, suc, ◌+◌, ◌-◌, ◌^◌, ◌≤◌, ◌<◌}
use mathlib.Core.Path.{◌≡◌, refl, sym, ap, subst}
use mathlib.Core.Bool.{Bool, true, false, ◌||◌, cond}
use mathlib.Core.List.{List, [], ◌∷◌, ◌++◌}
use native.Mathlib.Omega.{arith}
use native.Mathlib.Decide.{dec_lt}
use lib.ListN.{length, get_or, drop, get_or-eq_default}
use lib.Seq.{get_or-drop}
use lib.Dec.{eqb, leb, ltb}
use borrow.Author.Tests.{le-ltb, ltb-false}
use Rattle.cuts.specs.Network.{Link, Tree, Network, no_link, no_tree, link_count}
use Rattle.cuts.specs.Limits.{Light, LightShares}
use Rattle.sheet.specs.Bytes.{Bytes, ByteSized, number, bit}
use Rattle.sheet.specs.Reading.{Check, check, first_failing, Reading, accepted, number_of, unless}
use Rattle.sheet.specs.Sheet.{Format, Counts, counts_in, count_checks, header_record, map_byte, field_start, record_length, field, link_in, shape_checks, value_checks, link_record, next_link, tree_length, tree_in, tree_checks, tree_record, network, decode}
use Rattle.sheet.proofs.ReadingLaws.{passed, unless-accepted, unless-append, Never, unless_never, never_number, records-kept, All, all_snoc, all_none}
use Rattle.sheet.proofs.Acceptance.{decode-parts, decode-accepted, decode_never}

-- ---- bytes

byte-below : (bs : Bytes) → ByteSized bs → (k : ℕ) → get_or bs k 0 < 256
byte-below bs h k = step (dec_lt k (length bs))
  where
    step : Dec (k < length bs) → get_or bs k 0 < 256
    step (yes b) = h k b
    step (no b) = rw (get_or-eq_default bs 0 (let l : length bs ≤ k = omega arith in l)) (omega arith)

pub sized-drop : (n : ℕ) (bs : Bytes) → ByteSized bs → ByteSized (drop n bs)
sized-drop n bs h k b = rw (get_or-drop n bs k 0) (byte-below bs h (n + k))

number-below : (w : ℕ) (bs : Bytes) → ByteSized bs → number w bs < 256 ^ w
unfolding number
number-below zero bs h = omega arith
number-below (suc w) bs h =
    let a = byte-below bs h 0 in
    let r = number-below w (drop 1 bs) (sized-drop 1 bs h) in
    omega arith

-- a field is no more than the largest number of its bytes, or than the one that it takes over
pub field_below : (f : Format) (i before : ℕ) (bs : Bytes) → before < 256 ^ get_or f.widths i 0 → ByteSized bs → field f i before bs < 256 ^ get_or f.widths i 0
unfolding field
field_below f i before bs l h = step (bit (map_byte bs) i)
  where
    w : ℕ
    w = get_or f.widths i 0

    at : ℕ
    at = 1 + field_start f (map_byte bs) i

    step : (b : Bool) → cond b (number w (drop at bs)) before < 256 ^ w
    step true = number-below w (drop at bs) (sized-drop at bs h)
    step false = l

-- ---- what is left behind a record

pub link_record-is : (f : Format) (nodes : ℕ) (start : Bool) (before : Link) (bs : Bytes) (l : Link) (rest : Bytes) → link_record f nodes start before bs ≡ accepted l rest
    → (link_in f before bs ≡ l) × (drop (record_length f bs) bs ≡ rest)
unfolding link_record
link_record-is f nodes start before bs l rest e =
    let r = unless-accepted (first_failing (shape_checks f start bs ++ value_checks f nodes (link_in f before bs))) _ e in (cc, cc)

-- and the record was there
pub link_record-there : (f : Format) (nodes : ℕ) (start : Bool) (before : Link) (bs : Bytes) (l : Link) (rest : Bytes) → link_record f nodes start before bs ≡ accepted l rest
    → record_length f bs ≤ length bs
unfolding link_record shape_checks value_checks
link_record-there f nodes start before bs l rest e =
    let cs : List Check = shape_checks f start bs ++ value_checks f nodes (link_in f before bs) in
    ltb-false (length bs) (record_length f bs) (passed 9 cs refl (unless-accepted (first_failing cs) _ e).0)

pub header_record-is : (sheet : Bytes) (c : Counts) (rest : Bytes) → header_record sheet ≡ accepted c rest → (counts_in sheet ≡ c) × (drop 5 sheet ≡ rest)
unfolding header_record
header_record-is sheet c rest e = let r = unless-accepted (first_failing (check 3 (ltb (length sheet) 5) ∷ count_checks (counts_in sheet))) _ e in (cc, cc)

-- ---- links and trees, one after another

-- the links read have weights of four bytes, and what is left are bytes
abbrev Weighed : List Link → Bytes → Type 0
Weighed got bs = All no_link (λ l. l.weight < 2 ^ 32) got × ByteSized bs

last-below : (got : List Link) → All no_link (λ l. l.weight < 2 ^ 32) got → (get_or got (length got - 1) no_link).weight < 2 ^ 32
last-below [] h = omega arith
last-below (l ∷ got) h = h (length (l ∷ got) - 1) (omega arith)

-- the same of shares
abbrev Shared : List Tree → Bytes → Type 0
Shared got bs = All no_tree (λ t. t.share < 2 ^ 32) got × ByteSized bs

tree-shared : (net : Network) (got : List Tree) (bs : Bytes) (t : Tree) (rest : Bytes) → Shared got bs → tree_record net bs ≡ accepted t rest → Shared (got ++ t ∷ []) rest
unfolding tree_record tree_in
tree-shared net got bs t rest p e =
    let r = unless-accepted (first_failing (tree_checks net bs)) _ e in
    let q : tree_in net bs ≡ t = cc in
    let d : drop (tree_length (link_count net)) bs ≡ rest = cc in
    let s : number 4 bs ≡ t.share = ap (λ (u : Tree). u.share) q in
    let b : number 4 bs < 2 ^ 32 = number-below 4 bs p.1 in
    (all_snoc no_tree (λ u. u.share < 2 ^ 32) got t p.0 (omega arith), subst ByteSized d (sized-drop (tree_length (link_count net)) bs p.1))

-- where the first link starts
start : (sheet : Bytes) → ByteSized sheet → (c : Counts) (bs : Bytes) → header_record sheet ≡ accepted c bs → Weighed [] bs
start sheet h c bs e = (all_none no_link (λ l. l.weight < 2 ^ 32), subst ByteSized (header_record-is sheet c bs e).1 (sized-drop 5 sheet h))

module _ (f : Format) (four : get_or f.widths 2 0 ≡ 4) where
  weight-below : (before : Link) (bs : Bytes) → before.weight < 2 ^ 32 → ByteSized bs → (link_in f before bs).weight < 2 ^ 32
  unfolding link_in
  weight-below before bs l h =
      let e : 256 ^ get_or f.widths 2 0 ≡ 2 ^ 32 = rw four in
      subst (λ (m : ℕ). field f 2 before.weight bs < m) e (field_below f 2 before.weight bs (rw e l) h)

  link-weighed : (nodes : ℕ) (got : List Link) (bs : Bytes) (l : Link) (rest : Bytes) → Weighed got bs → next_link f nodes got bs ≡ accepted l rest → Weighed (got ++ l ∷ []) rest
  link-weighed nodes got bs l rest p e =
      let before : Link = get_or got (length got - 1) no_link in
      let r = link_record-is f nodes (eqb (length got) 0) before bs l rest e in
      let w = weight-below before bs (last-below got p.0) p.1 in
      (all_snoc no_link (λ k. k.weight < 2 ^ 32) got l p.0 (subst (λ (k : Link). k.weight < 2 ^ 32) r.0 w), subst ByteSized r.1 (sized-drop (record_length f bs) bs p.1))

  -- so eight bytes hold the weight of every side, and three times the shares
  pub decode-light : (sheet : Bytes) → ByteSized sheet → (net : Network) (rest : Bytes) → decode f sheet ≡ accepted net rest → Light net × LightShares net.trees
  decode-light sheet h net rest e =
      let v = decode-accepted f sheet net rest e in
      let p = decode-parts f sheet net rest e in
      let first : Network = network net.nodes net.links [] in
      let links = records-kept Weighed (next_link f net.nodes) (link-weighed net.nodes) p.counts.links [] p.body (start sheet h p.counts p.body p.header_read) p.links_read in
      let trees = records-kept Shared (λ _. tree_record first) (tree-shared first) p.counts.trees [] p.behind (all_none no_tree (λ t. t.share < 2 ^ 32), links.1) p.trees_read in
      (record { few = v.links_most; small = links.0 }, record { few = v.trees_most; small = trees.0 })

  -- ---- a limit that no weight passes

  module _ (all : 2 ^ 32 ≤ suc f.weight_limit) where
    link_never : (nodes : ℕ) (got : List Link) (bs : Bytes) → Weighed got bs → Never 11 (next_link f nodes got bs)
    unfolding link_record shape_checks value_checks first_failing
    link_never nodes got bs p =
        let before : Link = get_or got (length got - 1) no_link in
        let l : Link = link_in f before bs in
        let w : l.weight < 2 ^ 32 = weight-below before bs (last-below got p.0) p.1 in
        let xs : List Check = shape_checks f (eqb (length got) 0) bs ++ check 10 (leb nodes l.first || leb nodes l.second || eqb l.first l.second) ∷ [] in
        let ys : List Check = check 11 (ltb f.weight_limit l.weight) ∷ [] in
        let r : Reading Link = accepted l (drop (record_length f bs) bs) in
        let h : Never 11 (unless (first_failing ys) r) = rw (le-ltb f.weight_limit l.weight (omega arith)) tt in
        subst (Never 11) (sym (unless-append xs ys r refl)) (unless_never 11 xs _ refl h)

    -- refusal 11 does not occur
    pub decode-below : (sheet : Bytes) → ByteSized sheet → number_of (decode f sheet) ≡ 11 → ⊥
    decode-below sheet h =
        never_number 11 (decode f sheet) (omega arith) (decode_never f 11 (λ _. omega arith) (omega arith) Weighed link_never link-weighed sheet (start sheet h))
