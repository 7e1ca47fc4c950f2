-- What the crew's reader reads of a sheet that the panel reader has read: an accepted sheet has its link records behind the header, and a
-- refused one has no trunk numbers. Assumes nothing.
use Prim.Native.Nat.{ℕ, ◌≤◌}
use mathlib.Core.Path.{◌≡◌, refl, sym, ap, ◌∙◌}
use mathlib.Core.List.{List, []}
use native.Mathlib.Omega.{arith}
use lib.ListN.{length, drop}
use lib.Seq.{length-take-le, length_front}
use Rattle.cuts.specs.Network.{Network, link_count}
use Rattle.cuts.specs.Limits.{most_links}
use Rattle.sheet.specs.Bytes.{Bytes, number}
use Rattle.sheet.specs.Reading.{Reading, accepted, refused, and_then}
use Rattle.sheet.specs.Sheet.{Format, Counts, header_length, counts_in, decode}
use Rattle.sheet.specs.Areas.{written}
use Rattle.sheet.specs.Trunks.{trunks_from, trunks}
use Rattle.read_links.specs.LinksRead.{LinksThere}
use Rattle.op_trunks.specs.TrunksRead.{TrunksRead}
use Rattle.sheet.proofs.Acceptance.{decode-parts, links-counted, decode-accepted}
use Rattle.sheet.proofs.Sizes.{header_record-is}
use Rattle.sheet.proofs.TrunkLaws.{trunks_from-length, trunks-accepted}
use Rattle.read_sheet.proofs.SheetLaws.{header-whole}

-- what the header of a network's sheet says of its links
pub record HeaderLinks (sheet : Bytes) (net : Network) : Type 0 where
  pub whole : header_length ≤ length sheet
  pub says : number 2 (drop 2 sheet) ≡ link_count net
  pub few : link_count net ≤ most_links

module _ (f : Format) (sheet : Bytes) where
  module _ (net : Network) (rest : Bytes) (e : decode f sheet ≡ accepted net rest) where
    pub links-there : LinksThere f sheet header_length (link_count net)
    links-there =
        let p = decode-parts f sheet net rest e in
        record {
          nodes = net.nodes;
          links = net.links;
          rest = p.behind;
          are_read = rw ((header_record-is sheet p.counts p.body p.header_read).1, ← links-counted f sheet net rest e) p.links_read;
        }

    -- the header says how many links there are
    pub header_links : HeaderLinks sheet net
    unfolding counts_in
    header_links =
        let p = decode-parts f sheet net rest e in
        let w = header-whole sheet p.counts p.body (sym p.header_read) in
        record {
          whole = w;
          says = ap (λ (c : Counts). c.links) (header_record-is sheet p.counts p.body p.header_read).0 ∙ links-counted f sheet net rest e;
          few = (decode-accepted f sheet net rest e).links_most;
        }

  trunks_none : (n : ℕ) → decode f sheet ≡ refused n → trunks f sheet ≡ refused n
  unfolding trunks
  trunks_none n e = ap (λ (r : Reading Network). and_then r (λ net end. accepted (trunks_from f (link_count net) 0 (drop header_length sheet)) end)) e

  module _ (numbers : List ℕ) where
    pub numbers_read : (net : Network) → decode f sheet ≡ accepted net [] → (numbers' : List ℕ) → numbers' ≡ written (trunks_from f (link_count net) 0 (drop header_length sheet)) numbers
        → TrunksRead f sheet numbers numbers' 0
    numbers_read net e numbers' q = let t = trunks-accepted f sheet net [] e in record { number = rw t; numbers_are = rw t q }

    pub numbers_refused : (n : ℕ) → decode f sheet ≡ refused n → TrunksRead f sheet numbers numbers n
    numbers_refused n e = let t = trunks_none n e in record { number = rw t; numbers_are = rw t }

  module _ {numbers numbers' : List ℕ} {n : ℕ} (said : TrunksRead f sheet numbers numbers' n) where
    -- the area stays as long as it was
    pub numbers_kept : length numbers ≡ most_links → length numbers' ≡ most_links
    numbers_kept l = step (decode f sheet) refl
      where
        step : (r : Reading Network) → decode f sheet ≡ r → length numbers' ≡ most_links
        step (accepted net rest) e =
            let t = trunks-accepted f sheet net rest e in
            let ts : List ℕ = trunks_from f (link_count net) 0 (drop header_length sheet) in
            let d = trunks_from-length f (link_count net) 0 (drop header_length sheet) in
            let m = (decode-accepted f sheet net rest e).links_most in
            ap length (rw t at said.numbers_are) ∙ length_front numbers ts (length ts) (sym (length-take-le (length ts) numbers (omega arith))) ∙ l
        step (refused n) e = ap length (rw (trunks_none n e) at said.numbers_are) ∙ l
