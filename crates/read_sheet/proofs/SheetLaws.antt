-- The whole sheet by its parts: what its links, its trees and its end make of it. Assumes nothing.
use Prim.Native.Nat.{ℕ, ◌≤◌, ◌<◌}
use mathlib.Core.Path.{◌≡◌, refl, sym, ap, ◌∙◌}
use mathlib.Core.List.{List, [], ◌∷◌}
use native.Mathlib.Omega.{arith}
use lib.ListN.{length, drop, length-drop}
use lib.Seq.{drop-length}
use lib.Dec.{ltb}
use borrow.Author.Tests.{lt-ltb, ltb-false}
use Rattle.cuts.specs.Network.{Link, Tree, no_link}
use Rattle.arrays.specs.Links.{Held, links_of}
use Rattle.sheet.specs.Bytes.{Bytes}
use Rattle.sheet.specs.Reading.{Check, check, first_failing, accepted, refused, records}
use Rattle.sheet.specs.Sheet.{Format, Counts, header_length, counts_in, count_checks, header_record, next_link, tree_record, network, decode_body, decode}
use Rattle.sheet.proofs.ReadingLaws.{passed, unless-accepted, records-all}
use Rattle.sheet.proofs.Acceptance.{GoodLink, good-link}
use Rattle.arrays.proofs.LinkLaws.{links_of-length, links_of-at}

-- arrays that hold the links read hold a network of nodes
pub held-links : (f : Format) (nodes m : ℕ) (fs ss ws : List ℕ) (bs rest : Bytes) → 0 < nodes → accepted (links_of m fs ss ws) rest ≡ records (next_link f nodes) m [] bs
    → Held (network nodes (links_of m fs ss ws) []) fs ss nodes
held-links f nodes m fs ss ws bs rest z e =
    let all = records-all no_link (GoodLink f nodes) (next_link f nodes) (good-link f nodes) m bs (sym e) in
    record {
      linked = record { rooted = z; first_in = λ k b. (all k b).first_in; second_in = λ k b. (all k b).second_in };
      sized = refl;
      firsts = λ k b. ap (λ (l : Link). l.first) (links_of-at m fs ss ws k (rw (← links_of-length m fs ss ws) b));
      seconds = λ k b. ap (λ (l : Link). l.second) (links_of-at m fs ss ws k (rw (← links_of-length m fs ss ws) b));
    }

module _ (f : Format) (s : Bytes) (c : Counts) where
  pub refused-by_links : (n : ℕ) → refused n ≡ records (next_link f c.nodes) c.links [] (drop header_length s) → refused n ≡ decode_body f c (drop header_length s)
  unfolding decode_body
  refused-by_links n e = rw (← e)

  module _ (links : List Link) (at : ℕ) (l : accepted links (drop at s) ≡ records (next_link f c.nodes) c.links [] (drop header_length s)) where
    pub refused-by_trees : (n : ℕ) → refused n ≡ records (λ _. tree_record (network c.nodes links [])) c.trees [] (drop at s) → refused n ≡ decode_body f c (drop header_length s)
    unfolding decode_body
    refused-by_trees n e = rw (← l, ← e)

    module _ (trees : List Tree) (end : ℕ) (t : accepted trees (drop end s) ≡ records (λ _. tree_record (network c.nodes links [])) c.trees [] (drop at s)) where
      pub bytes_left : end < length s → refused 16 ≡ decode_body f c (drop header_length s)
      unfolding decode_body first_failing
      bytes_left h = rw (← l, ← t, lt-ltb 0 (length (drop end s)) (rw (length-drop end s) (omega arith)))

      pub sheet-read : end ≡ length s → accepted (network c.nodes links trees) [] ≡ decode_body f c (drop header_length s)
      unfolding decode_body first_failing
      sheet-read h = let none : drop end s ≡ [] = ap (λ (i : ℕ). drop i s) h ∙ drop-length s in rw (← l, ← t, none)

module _ (s : Bytes) where
  pub header-whole : (c : Counts) (rest : Bytes) → accepted c rest ≡ header_record s → header_length ≤ length s
  unfolding header_record count_checks
  header-whole c rest e =
      let cs : List Check = check 3 (ltb (length s) header_length) ∷ count_checks (counts_in s) in
      ltb-false (length s) header_length (passed 3 cs refl (unless-accepted (first_failing cs) _ (sym e)).0)

module _ (f : Format) (s : Bytes) where
  pub refused-by_header : (n : ℕ) → refused n ≡ header_record s → refused n ≡ decode f s
  unfolding decode
  refused-by_header n e = rw (← e)

  pub header_read : (c : Counts) → accepted c (drop header_length s) ≡ header_record s → decode_body f c (drop header_length s) ≡ decode f s
  unfolding decode
  header_read c e = rw (← e)
