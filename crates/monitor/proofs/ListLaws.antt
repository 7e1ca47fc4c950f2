-- What the entry for the list promises: an accepted network whose list the area can hold is one that a sheet of real bytes gives, so that its
-- list is owed all that the definitions say, and so are the bytes.
-- Assumes nothing.
use Prim.Native.Nat.{ℕ, ◌<◌}
use mathlib.Core.Path.{◌≡◌, sym, ap, ◌∙◌, subst}
use mathlib.Core.List.{[]}
use native.Mathlib.Decide.{dec_lt}
use native.Mathlib.Omega.{arith}
use lib.ListN.{length}
use Rattle.cuts.specs.Network.{Network}
use Rattle.cuts.specs.Candidate.{fewer_nodes}
use Rattle.sheet.specs.Bytes.{Bytes}
use Rattle.sheet.specs.Reading.{accepted, number_of}
use Rattle.sheet.specs.Sheet.{Format, current, decode}
use Rattle.sheet.specs.Areas.{written}
use Rattle.sheet.proofs.ReadingLaws.{and_then-zero}
use Rattle.sheet.proofs.Acceptance.{decode-zero, decode-accepted}
use Rattle.listing.specs.Listing.{listed, OwedList}
use Rattle.listing.specs.ListArea.{list_bytes, sides_read, area_length, fitting, list_reading, sides_left, count_left}
use Rattle.listing.proofs.ListingLaws.{fewer_nodes-by_sides}
use Rattle.listing.proofs.ListAreaLaws.{fitting-room, fitting-short, sheet-fitting, sides-owed}
use Rattle.op_list.specs.Lists.{ListLeft}
use Rattle.monitor.specs.ListEntry.{SidesListed}

-- where no refusal is returned the sheet is accepted and the area has room
list_accepted : (f : Format) (sheet sides : Bytes) → number_of (list_reading f sheet sides) ≡ 0
    → (net : Network) × (decode f sheet ≡ accepted net []) × (list_reading f sheet sides ≡ accepted net [])
unfolding list_reading
list_accepted f sheet sides z =
    let d = decode-zero f sheet (and_then-zero (decode f sheet) (fitting f sides) z) in
    let e = sheet-fitting f sheet sides d.0 [] d.1 in
    (d.0, d.1, e ∙ room d.0 (sym (ap number_of e) ∙ z) (dec_lt (length sides) (area_length f.rules.key d.0)))
  where
    room : (net : Network) → number_of (fitting f sides net []) ≡ 0 → Dec (length sides < area_length f.rules.key net) → fitting f sides net [] ≡ accepted net []
    room net z (yes l) = let n = sym (ap number_of (fitting-short f sides net [] l)) ∙ z in absurd (omega arith)
    room net z (no l) = fitting-room f sides net [] (omega arith)

pub list_promised : (sheet sides : Bytes) {sides' : Bytes} {count n : ℕ} → ListLeft current (list_reading current sheet sides) sides sides' count n
    → SidesListed current sheet sides sides' count n
list_promised sheet sides {sides'} {count} {n} w = record { number = w.number; count_is = w.count_is; sides_is = w.sides_is; owed = owed }
  where
    owed : n ≡ 0 → (net : Network) × (decode current sheet ≡ accepted net []) × OwedList current.rules net (sides_read net.nodes count sides')
    owed z =
        let a = list_accepted current sheet sides (sym w.number ∙ z) in
        let net = a.0 in
        let good = decode-accepted current sheet net [] a.1 in
        let k : count ≡ length (listed fewer_nodes net) = w.count_is ∙ ap (count_left current) a.2 in
        let s : sides' ≡ written (list_bytes (listed fewer_nodes net)) sides = w.sides_is ∙ ap (sides_left current sides) a.2 in (
          net,
          a.1,
          subst (λ (m : ℕ). OwedList current.rules net (sides_read net.nodes m sides')) (sym k)
              (subst (λ (bs : Bytes). OwedList current.rules net (sides_read net.nodes (length (listed fewer_nodes net)) bs)) (sym s)
              (sides-owed current.rules net good.sound (fewer_nodes-by_sides net good.sound) good.nodes_most sides)),
        )
