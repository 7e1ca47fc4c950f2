-- A format with a larger largest weight (request F-2), whatever else of it differs but the fields of a link record: a sheet keeps its
-- outcome unless it was refused by 11. Assumes nothing.
use Prim.Native.Nat.{ℕ, ◌-◌, ◌≤◌, ◌<◌}
use mathlib.Core.Path.{◌≡◌, refl}
use mathlib.Core.Bool.{Bool, true, false, ◌||◌, cond}
use mathlib.Core.List.{List, [], ◌∷◌, ◌++◌}
use native.Mathlib.Omega.{arith}
use lib.ListN.{length, get_or, drop}
use lib.Dec.{eqb, leb, ltb}
use borrow.Author.Tests.{ltb-false, le-ltb}
use Rattle.cuts.specs.Network.{Link, no_link}
use Rattle.cuts.specs.Answer.{Rules}
use Rattle.sheet.specs.Bytes.{Bytes}
use Rattle.sheet.specs.Reading.{Check, check, first_failing, Reading, accepted, unless, records}
use Rattle.sheet.specs.Sheet.{Format, header_record, field_start, record_length, field, link_in, shape_checks, value_checks, link_record, next_link, trees_behind, decode_body, decode}
use Rattle.sheet.proofs.ReadingLaws.{unless-append}
use Rattle.sheet.proofs.Agree.{Agree, agree_via, agree-unless, agree-and_then, agree-records}

module _ (f : Format) (most total : ℕ) (rules : Rules) (more : f.weight_limit ≤ most) where
  abbrev raised : Format
  raised = record { widths = f.widths; weight_limit = most; sum_width = total; rules = rules }

  weight-agree : {A : Type 0} (w : ℕ) (r : Reading A)
      → Agree 11 (unless (first_failing (check 11 (ltb f.weight_limit w) ∷ [])) r) (unless (first_failing (check 11 (ltb most w) ∷ [])) r)
  unfolding first_failing
  weight-agree {A} w r = step (ltb f.weight_limit w) refl
    where
      step : (b : Bool) → ltb f.weight_limit w ≡ b → Agree 11 (unless (cond b 11 0) r) (unless (cond (ltb most w) 11 0) r)
      step true e k = absurd (k refl)
      step false e k = rw (le-ltb most w (let l = ltb-false f.weight_limit w e in omega arith))

  link_record-agree : (nodes : ℕ) (start : Bool) (before : Link) (bs : Bytes) → Agree 11 (link_record f nodes start before bs) (link_record raised nodes start before bs)
  unfolding link_record link_in field field_start shape_checks value_checks
  link_record-agree nodes start before bs =
      let l : Link = link_in f before bs in
      let xs : List Check = shape_checks f start bs ++ check 10 (leb nodes l.first || leb nodes l.second || eqb l.first l.second) ∷ [] in
      let r : Reading Link = accepted l (drop (record_length f bs) bs) in
      agree_via (unless-append xs (check 11 (ltb f.weight_limit l.weight) ∷ []) r refl) (unless-append xs (check 11 (ltb most l.weight) ∷ []) r refl)
      (agree-unless (first_failing xs) (weight-agree l.weight r))

  -- what the lower limit accepts is accepted with the same network, and every other refusal stays
  pub decode-raised : (sheet : Bytes) → Agree 11 (decode f sheet) (decode raised sheet)
  unfolding decode decode_body
  decode-raised sheet =
      let some : 0 < 11 = omega arith in
      agree-and_then some (header_record sheet) (header_record sheet) (decode_body f) (decode_body raised) (λ _. refl)
      (λ c bs. let one : List Link → Bytes → Reading Link = next_link f c.nodes in
      let two : List Link → Bytes → Reading Link = next_link raised c.nodes in
      agree-and_then some (records one c.links [] bs) (records two c.links [] bs) (trees_behind c) (trees_behind c)
      (agree-records some one two (λ got. link_record-agree c.nodes (eqb (length got) 0) (get_or got (length got - 1) no_link)) c.links [] bs) (λ links rest _. refl))
