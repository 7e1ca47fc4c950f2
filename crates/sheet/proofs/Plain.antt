-- Sheets with and without trunk numbers (request F-9): which link records a reader comes to, and the sheet from which bit 3 and the trunk
-- numbers are taken out. Assumes nothing.
--   trunk_marked bs             bit 3 of the map of the link record at the front of bs is set: a trunk number stands behind the weight
--   when_read r test            what the test says of the value read and the bytes behind it; a refusal fails it
--   comes_to test one k got bs  some record that `records one k got bs` comes to passes the test, given the records before it
--   link_comes_to f test sheet   some link record of the sheet that the format's reader comes to passes the test, given the node count
--   marked f sheet             some link record that it comes to has bit 3 set
--   trunk_cut n got bs          the link record at the front of bs is refused by 9, though every field in front of its trunk number is there
--   cut_off sheet               the reader of trunk numbers comes to such a record: the sheet ends inside a trunk number
--   unmarked m                 the map byte m without bit 3
--   plain_record bs             the link record at the front of bs without bit and trunk number
--   plain_links k bs            bs with each of the k link records at its front so changed
--   plain sheet                the sheet with each link record so changed
use Prim.Native.Nat.{ℕ, zero, suc, ◌+◌, ◌-◌}
use mathlib.Core.Bool.{Bool, false, ◌&&◌, ◌||◌, cond}
use mathlib.Core.List.{List, [], ◌∷◌, ◌++◌}
use lib.ListN.{length, take, drop}
use lib.Dec.{eqb, leb}
use Rattle.cuts.specs.Network.{Link}
use Rattle.sheet.specs.Bytes.{Bytes, bit}
use Rattle.sheet.specs.Reading.{Reading, accepted, refused, number_of}
use Rattle.sheet.specs.Sheet.{Format, trunked, header_length, counts_in, header_record, map_byte, field_start, record_length, link_record, next_link}

abbrev pub trunk_marked : Bytes → Bool
trunk_marked bs = bit (map_byte bs) 3

-- ---- which records are come to

abbrev pub when_read : {A : Type 0} → Reading A → (A → Bytes → Bool) → Bool
when_read (accepted x rest) test = test x rest
when_read (refused n) test = false

unfoldable pub comes_to : {A : Type 0} → (List A → Bytes → Bool) → (List A → Bytes → Reading A) → ℕ → List A → Bytes → Bool
comes_to test one zero got bs = false
comes_to test one (suc k) got bs = test got bs || when_read (one got bs) (λ x rest. comes_to test one k (got ++ x ∷ []) rest)

unfoldable pub link_comes_to : Format → (ℕ → List Link → Bytes → Bool) → Bytes → Bool
unfolding header_record link_record comes_to
link_comes_to f test sheet = when_read (header_record sheet) (λ c bs. comes_to (test c.nodes) (next_link f c.nodes) c.links [] bs)

abbrev pub marked : Format → Bytes → Bool
marked f sheet = link_comes_to f (λ nodes got bs. trunk_marked bs) sheet

abbrev pub trunk_cut : ℕ → List Link → Bytes → Bool
trunk_cut nodes got bs = eqb (number_of (next_link trunked nodes got bs)) 9 && leb (1 + field_start trunked (map_byte bs) 3) (length bs)

abbrev pub cut_off : Bytes → Bool
cut_off sheet = link_comes_to trunked trunk_cut sheet

-- ---- the sheet without them

abbrev pub unmarked : ℕ → ℕ
unmarked m = cond (bit m 3) (m - 8) m

unfoldable pub plain_record : Bytes → Bytes
unfolding field_start
plain_record [] = []
plain_record (m ∷ bs) = unmarked m ∷ take (field_start trunked m 3) bs

unfoldable pub plain_links : ℕ → Bytes → Bytes
unfolding plain_record field_start
plain_links zero bs = bs
plain_links (suc k) bs = plain_record bs ++ plain_links k (drop (record_length trunked bs) bs)

unfoldable pub plain : Bytes → Bytes
unfolding counts_in plain_links
plain sheet = take header_length sheet ++ plain_links (counts_in sheet).links (drop header_length sheet)
