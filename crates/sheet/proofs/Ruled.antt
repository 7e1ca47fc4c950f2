-- The rules of answers change nothing that is read: no network, no refusal, no link record that a reader comes to, and no trunk number.
-- Assumes nothing.
use Prim.Native.Nat.{ℕ, zero, suc}
use mathlib.Core.Path.{◌≡◌, refl, ap, ◌∙◌}
use mathlib.Core.List.{List, ◌∷◌}
use lib.ListN.{drop}
use Rattle.cuts.specs.Network.{Network, link_count}
use Rattle.cuts.specs.Answer.{Rules}
use Rattle.sheet.specs.Bytes.{Bytes}
use Rattle.sheet.specs.Reading.{Reading, accepted, and_then}
use Rattle.sheet.specs.Sheet.{Format, ruled, field_start, field, link_in, shape_checks, value_checks, link_record, decode_body, decode}
use Rattle.sheet.specs.Trunks.{trunks_from, trunks}
use Rattle.sheet.proofs.Plain.{link_comes_to, marked}

module _ (f : Format) (rules : Rules) where
  module _ (sheet : Bytes) where
    pub decode-ruled : decode (ruled rules f) sheet ≡ decode f sheet
    unfolding decode decode_body link_record link_in field field_start shape_checks value_checks
    decode-ruled = refl

    pub marked-ruled : marked (ruled rules f) sheet ≡ marked f sheet
    unfolding link_comes_to link_record link_in field field_start shape_checks value_checks
    marked-ruled = refl

    pub trunks-ruled : trunks (ruled rules f) sheet ≡ trunks f sheet
    unfolding trunks trunks_from field field_start
    trunks-ruled =
        ap (λ (r : Reading Network). and_then r (λ net end. accepted (trunks_from (ruled rules f) (link_count net) 0 (drop 5 sheet)) end)) decode-ruled
        ∙ ap (and_then (decode f sheet)) (λ i net end. accepted (same (link_count net) 0 (drop 5 sheet) i) end)
      where
        same : (k before : ℕ) (bs : Bytes) → trunks_from (ruled rules f) k before bs ≡ trunks_from f k before bs
        same zero before bs = refl
        same (suc k) before bs = ap (λ (ts : List ℕ). field f 3 before bs ∷ ts) (same k _ _)
