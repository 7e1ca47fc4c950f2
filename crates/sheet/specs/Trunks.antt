-- Trunk numbers, the fourth field of a link record (request F-9): what the cable crew's reader reads beside the network. Assumes nothing.
--   trunks_from f k before bs   the trunk numbers of the k link records at the front of bs, behind a link with the trunk number `before`
--   trunks f sheet              the trunk number of each link of the sheet, or the refusal
use Rattle.std.specs.Prelude.{ℕ, zero, suc, List, [], ◌∷◌, drop}
use Rattle.cuts.specs.Network.{link_count}
use Rattle.sheet.specs.Bytes.{Bytes}
use Rattle.sheet.specs.Reading.{Reading, accepted, and_then}
use Rattle.sheet.specs.Sheet.{Format, header_length, field_start, record_length, field, decode}

-- "Absent, it is the previous link's"
unfoldable pub trunks_from : Format → ℕ → ℕ → Bytes → List ℕ
unfolding field field_start
trunks_from f zero before bs = []
trunks_from f (suc k) before bs = let t : ℕ = field f 3 before bs in t ∷ trunks_from f k t (drop (record_length f bs) bs)

-- "and for link 0 it is 0"; the sheet is refused as the panel reader refuses it
unfoldable pub trunks : Format → Bytes → Reading (List ℕ)
unfolding decode trunks_from
trunks f sheet = and_then (decode f sheet) (λ net end. accepted (trunks_from f (link_count net) 0 (drop header_length sheet)) end)
