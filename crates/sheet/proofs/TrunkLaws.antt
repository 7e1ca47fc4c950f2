-- The trunk numbers of a sheet (request F-9): they are refused as the sheet is, there is one for each link, and where no link record has
-- bit 3 all are 0. Assumes nothing.
use Prim.Native.Nat.{ℕ, zero, suc, ◌-◌}
use mathlib.Core.Path.{◌≡◌, refl, sym, ap, ap₂, ◌∙◌}
use mathlib.Core.Bool.{false}
use mathlib.Core.List.{List, [], ◌∷◌, ◌++◌}
use lib.ListN.{length, get_or, drop, replicate}
use lib.Dec.{eqb}
use Rattle.cuts.specs.Network.{Link, Network, no_link, link_count}
use Rattle.cuts.proofs.FlagLaws.{neither}
use Rattle.sheet.specs.Bytes.{Bytes}
use Rattle.sheet.specs.Reading.{Reading, accepted, refused, number_of, and_then, records}
use Rattle.sheet.specs.Sheet.{Format, Counts, record_length, field, next_link, decode}
use Rattle.sheet.specs.Trunks.{trunks_from, trunks}
use Rattle.sheet.proofs.Plain.{trunk_marked, when_read, comes_to, link_comes_to, marked}
use Rattle.sheet.proofs.ReadingLaws.{and_then-accepted}
use Rattle.sheet.proofs.Acceptance.{decode-parts, links-counted}
use Rattle.sheet.proofs.Sizes.{link_record-is, header_record-is}

module _ (f : Format) where
  -- the crew's reader refuses what the panel reader refuses, by the same number, and nothing else
  pub trunks-refused : (sheet : Bytes) → number_of (trunks f sheet) ≡ number_of (decode f sheet)
  unfolding trunks
  trunks-refused sheet = step (decode f sheet) (λ net. trunks_from f (link_count net) 0 (drop 5 sheet))
    where
      step : (r : Reading Network) (ts : Network → List ℕ) → number_of (and_then r (λ net end. accepted (ts net) end)) ≡ number_of r
      step (accepted net end) ts = refl
      step (refused n) ts = refl

  pub trunks_from-length : (k before : ℕ) (bs : Bytes) → length (trunks_from f k before bs) ≡ k
  unfolding trunks_from
  trunks_from-length zero before bs = refl
  trunks_from-length (suc k) before bs = ap suc (trunks_from-length k (field f 3 before bs) (drop (record_length f bs) bs))

  pub trunks-accepted : (sheet : Bytes) (net : Network) (rest : Bytes) → decode f sheet ≡ accepted net rest
      → trunks f sheet ≡ accepted (trunks_from f (link_count net) 0 (drop 5 sheet)) rest
  unfolding trunks
  trunks-accepted sheet net rest e = ap (λ (z : Reading Network). and_then z (λ net end. accepted (trunks_from f (link_count net) 0 (drop 5 sheet)) end)) e

  field-clear : (before : ℕ) (bs : Bytes) → trunk_marked bs ≡ false → field f 3 before bs ≡ before
  unfolding field
  field-clear before bs e = rw e

  module _ (nodes : ℕ) where
    trunks_from-clear : (k before : ℕ) (got : List Link) (bs : Bytes) {ls : List Link} {rest : Bytes} → comes_to (λ got bs. trunk_marked bs) (next_link f nodes) k got bs ≡ false
        → records (next_link f nodes) k got bs ≡ accepted ls rest → trunks_from f k before bs ≡ replicate k before
    unfolding trunks_from comes_to records
    trunks_from-clear zero before got bs h e = refl
    trunks_from-clear (suc k) before got bs h e =
        let p = neither (trunk_marked bs) _ h in
        let r = and_then-accepted (next_link f nodes got bs) (λ x rest. records (next_link f nodes) k (got ++ x ∷ []) rest) e in
        let q : drop (record_length f bs) bs ≡ r.1 = (link_record-is f nodes (eqb (length got) 0) (get_or got (length got - 1) no_link) bs r.0 r.1 r.2).1 in
        let w : comes_to (λ got bs. trunk_marked bs) (next_link f nodes) k (got ++ r.0 ∷ []) r.1 ≡ false =
        sym (ap (λ (z : Reading Link). when_read z (λ x rest. comes_to (λ got bs. trunk_marked bs) (next_link f nodes) k (got ++ x ∷ []) rest)) r.2) ∙ p.1 in
        ap₂ (λ (t : ℕ) (later : Bytes). t ∷ trunks_from f k t later) (field-clear before bs p.0) q
        ∙ ap (λ (ts : List ℕ). before ∷ ts) (trunks_from-clear k before (got ++ r.0 ∷ []) r.1 w r.3)

  -- "A sheet without the bit gets .. trunk number 0 for each link from the crew's reader if accepted"
  pub trunks-unmarked : (sheet : Bytes) (net : Network) (rest : Bytes) → marked f sheet ≡ false → decode f sheet ≡ accepted net rest
      → trunks f sheet ≡ accepted (replicate (link_count net) 0) rest
  unfolding link_comes_to
  trunks-unmarked sheet net rest h e =
      let p = decode-parts f sheet net rest e in
      let count = links-counted f sheet net rest e in
      let clear = sym (ap (λ (z : Reading Counts). when_read z (λ c bs. comes_to (λ got bs. trunk_marked bs) (next_link f c.nodes) c.links [] bs)) p.header_read) ∙ h in
      trunks-accepted sheet net rest e
      ∙ ap (λ (ts : List ℕ). accepted ts rest)
      (ap₂ (λ (m : ℕ) (bs : Bytes). trunks_from f m 0 bs) (sym count) (header_record-is sheet p.counts p.body p.header_read).1
      ∙ trunks_from-clear net.nodes p.counts.links 0 [] p.body (rw p.nodes_are at clear) p.links_read ∙ ap (λ (m : ℕ). replicate m 0) count)
