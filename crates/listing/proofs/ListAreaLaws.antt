-- What is written to the area of a list is read back, so that what is owed of the list is owed of the bytes; and which refusal comes first.
-- Assumes nothing.
use Prim.Native.Nat.{ℕ, zero, suc, ◌+◌, ◌*◌, ◌≤◌, ◌<◌}
use mathlib.Core.Path.{◌≡◌, refl, sym, ap, ap₂, ◌∙◌, subst}
use mathlib.Core.List.{List, [], ◌∷◌, ◌++◌, append_assoc, Memᴰ}
use native.Mathlib.Omega.{arith}
use lib.ListN.{length, get_or, drop, length-append}
use lib.Seq.{ext_get_or, drop-append_seam, drop-append-add}
use borrow.Author.Tests.{lt-ltb, le-ltb}
use Rattle.cuts.specs.Network.{Network}
use Rattle.cuts.specs.Cut.{Side}
use Rattle.cuts.specs.Tree.{Sound}
use Rattle.cuts.specs.Answer.{Rules}
use Rattle.cuts.specs.Limits.{most_nodes}
use Rattle.cuts.proofs.SumLaws.{table-length, table_at}
use Rattle.sheet.specs.Bytes.{Bytes}
use Rattle.sheet.specs.Reading.{Reading, first_failing, accepted, refused, and_then}
use Rattle.sheet.specs.Sheet.{Format, decode}
use Rattle.sheet.specs.Areas.{side_length, side_bytes, side_read, written}
use Rattle.sheet.proofs.AreaLaws.{side_bytes-length, side_read-written}
use Rattle.listing.specs.Listing.{listed, OwedList}
use Rattle.listing.specs.ListArea.{list_bytes, sides_read, area_length, fitting, list_reading}
use Rattle.listing.proofs.ListingLaws.{BySides, listed-is}
use Rattle.listing.proofs.ListOwed.{listed-owed}

-- ---- room

module _ (f : Format) (area : Bytes) (net : Network) (rest : Bytes) where
  pub fitting-room : area_length f.rules.key net ≤ length area → fitting f area net rest ≡ accepted net rest
  unfolding fitting first_failing
  fitting-room l = rw (le-ltb (length area) (area_length f.rules.key net) l)

  pub fitting-short : length area < area_length f.rules.key net → fitting f area net rest ≡ refused 19
  unfolding fitting first_failing
  fitting-short l = rw (lt-ltb (length area) (area_length f.rules.key net) l)

-- a refusal of the sheet comes first
pub sheet-refused : (f : Format) (sheet area : Bytes) (n : ℕ) → decode f sheet ≡ refused n → list_reading f sheet area ≡ refused n
unfolding list_reading
sheet-refused f sheet area n e = ap (λ (r : Reading Network). and_then r (fitting f area)) e

-- and then the area decides
pub sheet-fitting : (f : Format) (sheet area : Bytes) (net : Network) (rest : Bytes) → decode f sheet ≡ accepted net rest
    → list_reading f sheet area ≡ fitting f area net rest
unfolding list_reading
sheet-fitting f sheet area net rest e = ap (λ (r : Reading Network). and_then r (fitting f area)) e

-- ---- reading back

pub list_bytes-length : (ss : List Side) → length (list_bytes ss) ≡ side_length * length ss
unfolding list_bytes
list_bytes-length [] = refl
list_bytes-length (s ∷ ss) =
    let a = length-append (side_bytes s) (list_bytes ss) in
    let b = side_bytes-length s in
    let c = list_bytes-length ss in
    omega arith

module _ (nodes : ℕ) (few : nodes ≤ most_nodes) where
  front-side : (s : Side) (rest : Bytes) → length s ≡ nodes → side_read nodes (side_bytes s ++ rest) ≡ s
  front-side s rest e =
      ap (λ (bs : Bytes). side_read nodes (side_bytes s ++ bs)) (sym (drop-append_seam (side_bytes s) rest)) ∙ side_read-written nodes s (side_bytes s ++ rest) e few

  side-at : (ss : List Side) (rest : Bytes) → ((s : Side) → Memᴰ s ss → length s ≡ nodes) → (i : ℕ) → i < length ss
      → side_read nodes (drop (side_length * i) (list_bytes ss ++ rest)) ≡ get_or ss i []
  unfolding list_bytes
  side-at [] rest h i b = absurd (omega arith)
  side-at (s ∷ ss) rest h zero b =
      ap (side_read nodes) (append_assoc (side_bytes s) (list_bytes ss) rest) ∙ front-side s (list_bytes ss ++ rest) (h s (Memᴰ.head refl))
  side-at (s ∷ ss) rest h (suc i) b =
      let l = side_bytes-length s in
      let e : side_length * suc i ≡ length (side_bytes s) + side_length * i = omega arith in
      ap (side_read nodes)
      (ap₂ (λ (n : ℕ) (bs : Bytes). drop n bs) e (append_assoc (side_bytes s) (list_bytes ss) rest) ∙ drop-append-add (side_bytes s) (list_bytes ss ++ rest) (side_length * i))
      ∙ side-at ss rest (λ r m. h r (Memᴰ.tail m)) i (omega arith)

  pub sides_read-written : (ss : List Side) (old : Bytes) → ((s : Side) → Memᴰ s ss → length s ≡ nodes)
      → sides_read nodes (length ss) (written (list_bytes ss) old) ≡ ss
  unfolding sides_read
  sides_read-written ss old h =
      ext_get_or [] _ ss (table-length (length ss) _)
      (λ i b. let c : i < length ss = rw (table-length (length ss) (λ i. side_read nodes (drop (side_length * i) (written (list_bytes ss) old)))) at b in
      table_at [] (length ss) _ i c ∙ side-at ss (drop (length (list_bytes ss)) old) h i c)

-- what is owed of the list is owed of what stands in the area
module _ (r : Rules) (net : Network) (v : Sound net) (by-sides : BySides net r.key) (few : net.nodes ≤ most_nodes) where
  pub sides-owed : (old : Bytes) → OwedList r net (sides_read net.nodes (length (listed r.key net)) (written (list_bytes (listed r.key net)) old))
  sides-owed old =
      subst (OwedList r net)
      (sym (sides_read-written net.nodes few (listed r.key net) old (λ s m. ((listed-is net v r.key by-sides s).0 m).proper.sized)))
      (listed-owed net v r by-sides)
