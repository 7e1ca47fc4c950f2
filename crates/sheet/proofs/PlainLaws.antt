-- The sheet without trunk numbers (request F-9): taking bit 3 and the trunk number out of each link record leaves the outcome as it is,
-- unless a trunk number is cut off by the sheet's end, which is 9; and the readers before F-9 read that sheet as the new ones do.
-- Assumes nothing.
use Prim.Native.Nat.{ℕ, zero, suc, ◌+◌, ◌-◌, ◌/◌, ◌%◌, ◌≤◌, ◌<◌}
use mathlib.Core.Path.{◌≡◌, refl, sym, ap, ap₂, ◌∙◌, subst}
use mathlib.Core.Logic.{◌⊎◌, inl, inr}
use mathlib.Core.Bool.{Bool, true, false, cond, and-eq-true_iff}
use mathlib.Core.List.{List, [], ◌∷◌, ◌++◌, append-nil}
use native.Mathlib.Omega.{arith}
use native.Mathlib.Decide.{dec_le}
use lib.ListN.{length, get_or, take, drop, length-append, take-append-drop, drop_of_length-le}
use lib.Seq.{length-take-le, take_all, drop-nil, drop_at}
use lib.Dec.{eqb, leb}
use borrow.Author.Tests.{eqb-true, ne_eqb, leb-true, le-ltb, lt-ltb}
use Rattle.cuts.specs.Network.{Link, no_link}
use Rattle.cuts.proofs.FlagLaws.{clash, neither, truth}
use Rattle.sheet.specs.Bytes.{Bytes}
use Rattle.sheet.specs.Reading.{check, first_failing, Reading, accepted, refused, number_of, unless, and_then, records}
use Rattle.sheet.specs.Sheet.{tolerant, trunked, current, Counts, counts_in, count_checks, header_record, field_start, record_length, link_in, value_checks, link_record, next_link, trees_behind, decode_body, decode, wrong_map}
use Rattle.sheet.proofs.Plain.{trunk_marked, when_read, comes_to, link_comes_to, marked, trunk_cut, cut_off, unmarked, plain_record, plain_links, plain}
use Rattle.sheet.proofs.Ruled.{decode-ruled}
use Rattle.sheet.proofs.ReadingLaws.{unless-accepted, Never, unless_never, and_then_never, never_number}
use Rattle.sheet.proofs.Acceptance.{trees_never}
use Rattle.sheet.proofs.Sizes.{link_record-is}
use Rattle.sheet.proofs.Longest.{counts_in-front}
use Rattle.sheet.proofs.ComesTo.{decode_stopped}
use Rattle.sheet.proofs.MarkLaws.{record_length_trunk, decode-unmarked}
use Rattle.sheet.proofs.PlainRecords.{start_trunk, whole_fields, link_record-plain, link_record-empty, link_record-map, link_record-whole, unmarked-cases, rest_plain, record_length-plain, instead, fields_length}

-- ---- the links

plain_links_nil : (k : ℕ) → plain_links k [] ≡ []
unfolding plain_links plain_record
plain_links_nil zero = refl
plain_links_nil (suc k) = rw (drop-nil {A = ℕ} (record_length trunked [])) (plain_links_nil k)

-- where a field is cut off nothing stands behind the record
short-rest : (m : ℕ) (bs : Bytes) → length bs < field_start tolerant m 3 → drop (record_length trunked (m ∷ bs)) (m ∷ bs) ≡ []
short-rest m bs l = drop_of_length-le (m ∷ bs) {i = record_length trunked (m ∷ bs)} (let r = record_length_trunk (m ∷ bs) in omega arith)

module _ (nodes : ℕ) where
  next_link-plain : (k : ℕ) (got : List Link) (bs : Bytes) → trunk_cut nodes got bs ≡ false
      → next_link tolerant nodes got (plain_links (suc k) bs) ≡ instead (plain_links k (drop (record_length trunked bs) bs)) (next_link trunked nodes got bs)
  unfolding plain_links plain_record
  next_link-plain k got [] cut =
      let start : Bool = eqb (length got) 0 in
      let before : Link = get_or got (length got - 1) no_link in
      let later : Bytes = plain_links k (drop (record_length trunked []) []) in
      ap (next_link tolerant nodes got) (plain_links_nil (suc k)) ∙ link_record-empty tolerant nodes start before ∙ ap (instead later) (sym (link_record-empty trunked nodes start before))
  next_link-plain k got (m ∷ bs) cut =
      link_record-plain nodes (eqb (length got) 0) (get_or got (length got - 1) no_link) m bs (plain_links k (drop (record_length trunked (m ∷ bs)) (m ∷ bs))) cut
      (λ l. ap (plain_links k) (short-rest m bs l) ∙ plain_links_nil k)

  links-plain : (k : ℕ) (got : List Link) (bs : Bytes) → comes_to (trunk_cut nodes) (next_link trunked nodes) k got bs ≡ false
      → records (next_link tolerant nodes) k got (plain_links k bs) ≡ records (next_link trunked nodes) k got bs
  unfolding comes_to records plain_links
  links-plain zero got bs h = refl
  links-plain (suc k) got bs h =
      let p = neither (trunk_cut nodes got bs) _ h in
      ap (λ (z : Reading Link). and_then z (λ x rest. records (next_link tolerant nodes) k (got ++ x ∷ []) rest)) (next_link-plain k got bs p.0)
      ∙ step (next_link trunked nodes got bs) refl p.1 (λ x rest. links-plain k (got ++ x ∷ []) rest)
    where
      later : Bytes
      later = plain_links k (drop (record_length trunked bs) bs)

      step : (r : Reading Link) → next_link trunked nodes got bs ≡ r → when_read r (λ x rest. comes_to (trunk_cut nodes) (next_link trunked nodes) k (got ++ x ∷ []) rest) ≡ false
          → ((x : Link) (rest : Bytes) → comes_to (trunk_cut nodes) (next_link trunked nodes) k (got ++ x ∷ []) rest ≡ false
          → records (next_link tolerant nodes) k (got ++ x ∷ []) (plain_links k rest) ≡ records (next_link trunked nodes) k (got ++ x ∷ []) rest)
          → and_then (instead later r) (λ x rest. records (next_link tolerant nodes) k (got ++ x ∷ []) rest) ≡ and_then r (λ x rest. records (next_link trunked nodes) k (got ++ x ∷ []) rest)
      step (accepted x rest) e q g =
          ap (λ (bs : Bytes). records (next_link tolerant nodes) k (got ++ x ∷ []) (plain_links k bs)) (link_record-is trunked nodes (eqb (length got) 0) (get_or got (length got - 1) no_link) bs x rest e).1
          ∙ g x rest q
      step (refused n) e q g = refl

-- ---- the whole sheet

-- the header's five bytes and what stands behind them
header_record-front : (five behind : Bytes) → length five ≡ 5 → header_record (five ++ behind) ≡ unless (first_failing (count_checks (counts_in five))) (accepted (counts_in five) behind)
unfolding header_record first_failing
header_record-front five behind e =
    ap₂ (λ (b : Bool) (c : Counts). unless (first_failing (check 3 b ∷ count_checks c)) (accepted c (drop 5 (five ++ behind))))
    (le-ltb (length (five ++ behind)) 5 (let l = length-append five behind in omega arith)) (counts_in-front five behind (omega arith))
    ∙ ap (λ (bs : Bytes). unless (first_failing (count_checks (counts_in five))) (accepted (counts_in five) bs)) (drop_at five behind 5 e)

header_record-short : (sheet : Bytes) → length sheet < 5 → header_record sheet ≡ refused 3
unfolding header_record first_failing
header_record-short sheet l = rw (lt-ltb (length sheet) 5 l)

plain-is : (sheet : Bytes) → plain sheet ≡ take 5 sheet ++ plain_links (counts_in sheet).links (drop 5 sheet)
unfolding plain
plain-is sheet = refl

plain-short : (sheet : Bytes) → length sheet < 5 → plain sheet ≡ sheet
plain-short sheet l =
    let k : ℕ = (counts_in sheet).links in
    plain-is sheet ∙ ap₂ ◌++◌ (take_all 5 sheet (omega arith)) (ap (plain_links k) (drop_of_length-le sheet {i = 5} (omega arith)) ∙ plain_links_nil k) ∙ append-nil sheet

module _ (sheet : Bytes) (l : 5 ≤ length sheet) where
  header-sheet : header_record sheet ≡ unless (first_failing (count_checks (counts_in (take 5 sheet)))) (accepted (counts_in (take 5 sheet)) (drop 5 sheet))
  header-sheet = ap header_record (sym (take-append-drop 5 sheet)) ∙ header_record-front (take 5 sheet) (drop 5 sheet) (length-take-le 5 sheet l)

  header-plain : header_record (plain sheet)
      ≡ unless (first_failing (count_checks (counts_in (take 5 sheet)))) (accepted (counts_in (take 5 sheet)) (plain_links (counts_in (take 5 sheet)).links (drop 5 sheet)))
  header-plain =
      let five : Bytes = take 5 sheet in
      let c : Counts = counts_in five in
      let size : length five ≡ 5 = length-take-le 5 sheet l in
      let same : counts_in sheet ≡ c = ap counts_in (sym (take-append-drop 5 sheet)) ∙ counts_in-front five (drop 5 sheet) (omega arith) in
      ap header_record (plain-is sheet) ∙ header_record-front five (plain_links (counts_in sheet).links (drop 5 sheet)) size
      ∙ ap (λ (d : Counts). unless (first_failing (count_checks c)) (accepted c (plain_links d.links (drop 5 sheet)))) same

-- a trunk number behind this header is cut off
abbrev cuts_in : Reading Counts → Bool
cuts_in r = when_read r (λ c bs. comes_to (trunk_cut c.nodes) (next_link trunked c.nodes) c.links [] bs)

-- the outcome is the same without trunk numbers, unless one of them is cut off
pub decode-plain : (sheet : Bytes) → cut_off sheet ≡ false → decode tolerant (plain sheet) ≡ decode trunked sheet
unfolding decode decode_body link_comes_to
decode-plain sheet h = step (dec_le 5 (length sheet))
  where
    go : (c : Counts) (tail : Bytes) (n : ℕ) (b : Bool) → cuts_in (cond b (accepted c tail) (refused n)) ≡ false
        → and_then (cond b (accepted c (plain_links c.links tail)) (refused n)) (decode_body tolerant) ≡ and_then (cond b (accepted c tail) (refused n)) (decode_body trunked)
    go c tail n true q = ap (λ (z : Reading (List Link)). and_then z (trees_behind c)) (links-plain c.nodes c.links [] tail q)
    go c tail n false q = refl

    step : Dec (5 ≤ length sheet) → decode tolerant (plain sheet) ≡ decode trunked sheet
    step (yes l) =
        let c : Counts = counts_in (take 5 sheet) in
        let n : ℕ = first_failing (count_checks c) in
        ap (λ (z : Reading Counts). and_then z (decode_body tolerant)) (header-plain sheet l)
        ∙ go c (drop 5 sheet) n (eqb n 0) (sym (ap cuts_in (header-sheet sheet l)) ∙ h)
        ∙ sym (ap (λ (z : Reading Counts). and_then z (decode_body trunked)) (header-sheet sheet l))
    step (no l) =
        let s : length sheet < 5 = omega arith in
        let e = header_record-short sheet s in
        ap (λ (bs : Bytes). and_then (header_record bs) (decode_body tolerant)) (plain-short sheet s)
        ∙ ap (λ (z : Reading Counts). and_then z (decode_body tolerant)) e ∙ sym (ap (λ (z : Reading Counts). and_then z (decode_body trunked)) e)

-- where one is, the number is 9
pub decode_cut : (sheet : Bytes) → cut_off sheet ≡ true → decode current sheet ≡ refused 9
decode_cut sheet h = decode-ruled trunked current.rules sheet ∙ decode_stopped trunked trunk_cut 9 stop sheet h
  where
    is : (r : Reading Link) → number_of r ≡ 9 → r ≡ refused 9
    is (accepted x rest) e = absurd (omega arith)
    is (refused n) e = ap refused e

    stop : (nodes : ℕ) (got : List Link) (bs : Bytes) → trunk_cut nodes got bs ≡ true → next_link trunked nodes got bs ≡ refused 9
    stop nodes got bs t = is (next_link trunked nodes got bs) (eqb-true _ 9 ((and-eq-true_iff (eqb (number_of (next_link trunked nodes got bs)) 9) _).0 t).0)

-- and without it the number is another: what stands there as a trunk number's bytes ends the sheet
module _ (nodes : ℕ) where
  records-empty : (k : ℕ) (got : List Link) → Never 9 (records (next_link tolerant nodes) k got [])
  unfolding records
  records-empty zero got = tt
  records-empty (suc k) got =
      subst (λ (z : Reading Link). Never 9 (and_then z (λ x rest. records (next_link tolerant nodes) k (got ++ x ∷ []) rest)))
      (sym (link_record-empty tolerant nodes (eqb (length got) 0) (get_or got (length got - 1) no_link))) (λ e. omega arith)

  module _ (start : Bool) (before : Link) (m : ℕ) (bs : Bytes) (nine : number_of (link_record trunked nodes start before (m ∷ bs)) ≡ 9) where
    nine_map : wrong_map trunked start m ≡ false
    nine_map = step (truth (wrong_map trunked start m))
      where
        step : (wrong_map trunked start m ≡ true) ⊎ (wrong_map trunked start m ≡ false) → wrong_map trunked start m ≡ false
        step (inl e) = let z : ◌≡◌ {A = ℕ} 8 9 = sym (ap number_of (link_record-map trunked nodes start before m bs e)) ∙ nine in absurd (omega arith)
        step (inr e) = e

    nine_short : length (m ∷ bs) ≤ record_length trunked (m ∷ bs)
    unfolding value_checks
    nine_short = step (dec_le (record_length trunked (m ∷ bs)) (length (m ∷ bs)))
      where
        step : Dec (record_length trunked (m ∷ bs) ≤ length (m ∷ bs)) → length (m ∷ bs) ≤ record_length trunked (m ∷ bs)
        step (yes l) =
            absurd (never_number 9 (unless (first_failing (value_checks trunked nodes (link_in trunked before (m ∷ bs)))) (accepted (link_in trunked before (m ∷ bs)) (drop (record_length trunked (m ∷ bs)) (m ∷ bs)))) (omega arith)
            (unless_never 9 (value_checks trunked nodes (link_in trunked before (m ∷ bs))) (accepted (link_in trunked before (m ∷ bs)) (drop (record_length trunked (m ∷ bs)) (m ∷ bs))) refl tt)
            (sym (ap number_of (link_record-whole trunked nodes start before m bs nine_map l)) ∙ nine))
        step (no l) = omega arith

  cut_whole : (k : ℕ) (got : List Link) (m : ℕ) (bs : Bytes) → trunk_cut nodes got (m ∷ bs) ≡ true
      → Never 9 (and_then (next_link tolerant nodes got (unmarked m ∷ take (field_start tolerant m 3) bs ++ plain_links k (drop (record_length trunked (m ∷ bs)) (m ∷ bs))))
      (λ x rest. records (next_link tolerant nodes) k (got ++ x ∷ []) rest))
  unfolding value_checks
  cut_whole k got m bs cut =
      let start : Bool = eqb (length got) 0 in
      let before : Link = get_or got (length got - 1) no_link in
      let l : Link = link_in tolerant before (m ∷ bs) in
      let later : Bytes = plain_links k (drop (record_length trunked (m ∷ bs)) (m ∷ bs)) in
      let next : Link → Bytes → Reading (List Link) = λ x rest. records (next_link tolerant nodes) k (got ++ x ∷ []) rest in
      let p = (and-eq-true_iff (eqb (number_of (next_link trunked nodes got (m ∷ bs))) 9) (leb (1 + field_start trunked m 3) (length (m ∷ bs)))).0 cut in
      let nine = eqb-true (number_of (next_link trunked nodes got (m ∷ bs))) 9 p.0 in
      let fits : field_start tolerant m 3 ≤ length bs = let a = leb-true (1 + field_start trunked m 3) (length (m ∷ bs)) p.1 in let e = start_trunk m in omega arith in
      let none : later ≡ [] = ap (plain_links k) (drop_of_length-le (m ∷ bs) {i = record_length trunked (m ∷ bs)} (nine_short start before m bs nine)) ∙ plain_links_nil k in
      subst (λ (z : Reading Link). Never 9 (and_then z next)) (sym (whole_fields nodes start before m bs later (nine_map start before m bs nine) fits))
      (and_then_never 9 (unless (first_failing (value_checks tolerant nodes l)) (accepted l later)) next
      (unless_never 9 (value_checks tolerant nodes l) (accepted l later) refl tt)
      (λ x rest e. let r = unless-accepted (first_failing (value_checks tolerant nodes l)) (accepted l later) e in
      let q : later ≡ rest = cc in
      subst (λ (bs : Bytes). Never 9 (next x bs)) (sym none ∙ q) (records-empty k (got ++ x ∷ []))))

  cut_record : (k : ℕ) (got : List Link) (bs : Bytes) → trunk_cut nodes got bs ≡ true → Never 9 (records (next_link tolerant nodes) (suc k) got (plain_links (suc k) bs))
  unfolding records plain_links plain_record
  cut_record k got [] cut = subst (λ (bs : Bytes). Never 9 (records (next_link tolerant nodes) (suc k) got bs)) (sym (plain_links_nil (suc k))) (records-empty (suc k) got)
  cut_record k got (m ∷ bs) cut = cut_whole k got m bs cut

  links_cut : (k : ℕ) (got : List Link) (bs : Bytes) → comes_to (trunk_cut nodes) (next_link trunked nodes) k got bs ≡ true → Never 9 (records (next_link tolerant nodes) k got (plain_links k bs))
  unfolding comes_to records
  links_cut zero got bs h = clash h refl
  links_cut (suc k) got bs h = step (truth (trunk_cut nodes got bs)) (λ x rest. links_cut k (got ++ x ∷ []) rest)
    where
      next : Link → Bytes → Reading (List Link)
      next x rest = records (next_link tolerant nodes) k (got ++ x ∷ []) rest

      go : (r : Reading Link) → next_link trunked nodes got bs ≡ r → when_read r (λ x rest. comes_to (trunk_cut nodes) (next_link trunked nodes) k (got ++ x ∷ []) rest) ≡ true
          → ((x : Link) (rest : Bytes) → comes_to (trunk_cut nodes) (next_link trunked nodes) k (got ++ x ∷ []) rest ≡ true → Never 9 (next x (plain_links k rest)))
          → Never 9 (and_then (instead (plain_links k (drop (record_length trunked bs) bs)) r) next)
      go (accepted x rest) e q g =
          subst (λ (bs : Bytes). Never 9 (next x (plain_links k bs))) (sym (link_record-is trunked nodes (eqb (length got) 0) (get_or got (length got - 1) no_link) bs x rest e).1) (g x rest q)
      go (refused n) e q g = clash q refl

      step : (trunk_cut nodes got bs ≡ true) ⊎ (trunk_cut nodes got bs ≡ false)
          → ((x : Link) (rest : Bytes) → comes_to (trunk_cut nodes) (next_link trunked nodes) k (got ++ x ∷ []) rest ≡ true → Never 9 (next x (plain_links k rest)))
          → Never 9 (and_then (next_link tolerant nodes got (plain_links (suc k) bs)) next)
      step (inl e) g = cut_record k got bs e
      step (inr e) g = subst (λ (z : Reading Link). Never 9 (and_then z next)) (sym (next_link-plain nodes k got bs e)) (go (next_link trunked nodes got bs) refl (rw e at h) g)

plain_cut : (sheet : Bytes) → cut_off sheet ≡ true → Never 9 (decode tolerant (plain sheet))
unfolding decode decode_body link_comes_to
plain_cut sheet h = step (dec_le 5 (length sheet))
  where
    go : (c : Counts) (tail : Bytes) (n : ℕ) (b : Bool) → cuts_in (cond b (accepted c tail) (refused n)) ≡ true
        → Never 9 (and_then (cond b (accepted c (plain_links c.links tail)) (refused n)) (decode_body tolerant))
    go c tail n true q =
        and_then_never 9 (records (next_link tolerant c.nodes) c.links [] (plain_links c.links tail)) (trees_behind c)
        (links_cut c.nodes c.links [] tail q) (λ links rest _. trees_never tolerant 9 (λ _. omega arith) (omega arith) c links rest)
    go c tail n false q = clash q refl

    step : Dec (5 ≤ length sheet) → Never 9 (decode tolerant (plain sheet))
    step (yes l) =
        let c : Counts = counts_in (take 5 sheet) in
        let n : ℕ = first_failing (count_checks c) in
        subst (λ (z : Reading Counts). Never 9 (and_then z (decode_body tolerant))) (sym (header-plain sheet l))
        (go c (drop 5 sheet) n (eqb n 0) (sym (ap cuts_in (header-sheet sheet l)) ∙ h))
    step (no l) = clash (sym (ap cuts_in (header_record-short sheet (omega arith))) ∙ h) refl

-- ---- no record has bit 3

marks-none : (k : ℕ) (bs : Bytes) → trunk_marked (plain_links (suc k) bs) ≡ false
unfolding plain_links plain_record
marks-none k [] = ap trunk_marked (plain_links_nil (suc k))
marks-none k (m ∷ bs) = ne_eqb (unmarked m / 8 % 2) 1 (unmarked-cases (λ n. n / 8 % 2 ≡ 1 → ⊥) m (λ e q. omega arith) (λ e q. omega arith))

rest-links : (k : ℕ) (bs : Bytes) → drop (record_length tolerant (plain_links (suc k) bs)) (plain_links (suc k) bs) ≡ plain_links k (drop (record_length trunked bs) bs)
unfolding plain_links plain_record
rest-links k [] =
    ap (λ (bs : Bytes). drop (record_length tolerant bs) bs) (plain_links_nil (suc k)) ∙ drop-nil {A = ℕ} (record_length tolerant [])
    ∙ sym (ap (plain_links k) (drop-nil {A = ℕ} (record_length trunked [])) ∙ plain_links_nil k)
rest-links k (m ∷ bs) = step (dec_le (fields_length m) (length bs))
  where
    later : Bytes
    later = plain_links k (drop (record_length trunked (m ∷ bs)) (m ∷ bs))

    step : Dec (fields_length m ≤ length bs) → drop (record_length tolerant (unmarked m ∷ take (fields_length m) bs ++ later)) (unmarked m ∷ take (fields_length m) bs ++ later) ≡ later
    step (yes l) = rest_plain m bs later l
    step (no l) =
        let none : later ≡ [] = ap (plain_links k) (short-rest m bs (omega arith)) ∙ plain_links_nil k in
        let x : Bytes = take (fields_length m) bs ++ later in
        let a = length-append (take (fields_length m) bs) later in
        let t : length (take (fields_length m) bs) ≡ length bs = ap length (take_all (fields_length m) bs (omega arith)) in
        let n : length later ≡ 0 = ap length none in
        let r = record_length-plain m x in
        drop_of_length-le (unmarked m ∷ x) {i = record_length tolerant (unmarked m ∷ x)} (omega arith) ∙ sym none

links-unmarked : (nodes k : ℕ) (got : List Link) (bs : Bytes) → comes_to (λ got bs. trunk_marked bs) (next_link tolerant nodes) k got (plain_links k bs) ≡ false
unfolding comes_to
links-unmarked nodes zero got bs = refl
links-unmarked nodes (suc k) got bs =
    rw (marks-none k bs) (step (next_link tolerant nodes got (plain_links (suc k) bs)) refl (λ x. links-unmarked nodes k (got ++ x ∷ []) (drop (record_length trunked bs) bs)))
  where
    goes : Link → Bytes → Bool
    goes x rest = comes_to (λ got bs. trunk_marked bs) (next_link tolerant nodes) k (got ++ x ∷ []) rest

    step : (r : Reading Link) → next_link tolerant nodes got (plain_links (suc k) bs) ≡ r → ((x : Link) → goes x (plain_links k (drop (record_length trunked bs) bs)) ≡ false)
        → when_read r goes ≡ false
    step (accepted x rest) e h =
        ap (goes x) (sym (link_record-is tolerant nodes (eqb (length got) 0) (get_or got (length got - 1) no_link) (plain_links (suc k) bs) x rest e).1 ∙ rest-links k bs) ∙ h x
    step (refused n) e h = refl

-- a record behind this header has bit 3
abbrev marks : Reading Counts → Bool
marks r = when_read r (λ c bs. comes_to (λ got bs. trunk_marked bs) (next_link tolerant c.nodes) c.links [] bs)

plain-unmarked : (sheet : Bytes) → marked tolerant (plain sheet) ≡ false
unfolding link_comes_to
plain-unmarked sheet = step (dec_le 5 (length sheet))
  where
    go : (c : Counts) (tail : Bytes) (n : ℕ) (b : Bool) → marks (cond b (accepted c (plain_links c.links tail)) (refused n)) ≡ false
    go c tail n true = links-unmarked c.nodes c.links [] tail
    go c tail n false = refl

    step : Dec (5 ≤ length sheet) → marks (header_record (plain sheet)) ≡ false
    step (yes l) =
        let c : Counts = counts_in (take 5 sheet) in
        let n : ℕ = first_failing (count_checks c) in
        ap marks (header-plain sheet l) ∙ go c (drop 5 sheet) n (eqb n 0)
    step (no l) =
        let s : length sheet < 5 = omega arith in
        ap (λ (bs : Bytes). marks (header_record bs)) (plain-short sheet s) ∙ ap marks (header_record-short sheet s)

-- so both readers read it alike
pub plain-read : (sheet : Bytes) → decode current (plain sheet) ≡ decode tolerant (plain sheet)
plain-read sheet = decode-ruled trunked current.rules (plain sheet) ∙ decode-unmarked (plain sheet) (plain-unmarked sheet)

-- ---- what is read with them and without

-- "and answers as if the bit and field were not there"
pub plain-same : (sheet : Bytes) → cut_off sheet ≡ false → decode current (plain sheet) ≡ decode current sheet
plain-same sheet h = plain-read sheet ∙ decode-plain sheet h ∙ sym (decode-ruled trunked current.rules sheet)

-- the one exception is exact: "A trunk number cut off by the sheet's end is 9", and without it the number is another, or none
pub cut_other : (sheet : Bytes) → cut_off sheet ≡ true → number_of (decode current (plain sheet)) ≡ 9 → ⊥
cut_other sheet h e = never_number 9 (decode tolerant (plain sheet)) (omega arith) (plain_cut sheet h) (sym (ap number_of (plain-read sheet)) ∙ e)
