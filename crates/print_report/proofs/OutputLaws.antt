-- What is printed is what the two areas and the returned number say: an answer read back from the areas prints as the answer itself,
-- since both sides have the same first 256 flags, and a refusal prints its number. Assumes nothing.
use Prim.Native.Nat.{ℕ, ◌<◌}
use mathlib.Core.Path.{◌≡◌, sym, ap, ap₂, ◌∙◌, subst}
use mathlib.Core.Bool.{Bool, false}
use mathlib.Core.List.{List, [], ◌++◌, map}
use native.Mathlib.Omega.{arith}
use lib.ListN.{length, drop}
use Rattle.cuts.specs.Sums.{select}
use Rattle.cuts.specs.Network.{Network, flag}
use Rattle.cuts.specs.Cut.{Side}
use Rattle.cuts.specs.Answer.{Answer, reported, answer}
use Rattle.cuts.proofs.SumLaws.{table_at}
use Rattle.cuts.proofs.Handles.{select_congr}
use Rattle.sheet.specs.Bytes.{Bytes, fields, map_bit}
use Rattle.sheet.specs.Reading.{Reading, accepted, refused, number_of}
use Rattle.sheet.specs.Sheet.{Format, decode}
use Rattle.sheet.specs.Areas.{side_bytes, report_widths, report_length, side_after, report_after, side_read, answer_of, answer_read, side_left, report_left}
use Rattle.sheet.proofs.ByteLaws.{map_bit-table}
use Rattle.sheet.proofs.Acceptance.{decode-zero}
use Rattle.monitor.specs.Entry.{reading, Reported}
use Rattle.monitor.proofs.EntryLaws.{reading-is}
use Rattle.print_text.specs.Decimal.{Text, decimal}
use Rattle.print_text.specs.Line.{line, refused_line, Printed, PutIn}
use Rattle.print_text.proofs.LineLaws.{put_both}
use Rattle.print_report.specs.Output.{answer_word, side_word, answer_fields, side_fields, answer_lines, output, most_output}

-- ---- the two lines

-- a side prints the nodes that pass a test which agrees with its flags
side_fields-select : (s : Side) (f : ℕ → Bool) → ((k : ℕ) → k < 256 → flag s k ≡ f k) → side_fields s ≡ map decimal (select 256 f)
unfolding side_fields
side_fields-select s f h = ap (map decimal) (select_congr 256 (flag s) f h)

pub answer_lines-put : {old mid new : Printed} (f : Format) (fs : List ℕ) (side report : Bytes) → fs ≡ fields (report_widths f) report
    → PutIn 75 old (line answer_word (answer_fields (answer_of fs (side_read 256 side)))) mid
    → PutIn 919 mid (line side_word (map decimal (select 256 (map_bit side)))) new
    → PutIn most_output old (answer_lines (answer_read f 256 side report)) new
unfolding answer_lines answer_read side_read
answer_lines-put {old} {mid} {new} f fs side report e h k =
    subst (λ (t : Text). PutIn most_output old t new)
    (ap₂ (λ (gs : List ℕ) (ns : List Text). line answer_word (answer_fields (answer_of gs (side_read 256 side))) ++ line side_word ns) e
    (sym (side_fields-select (side_read 256 side) (map_bit side) (table_at false 256 (map_bit side)))))
    (put_both h k (omega arith))

-- read from the areas with a flag for each of the 256 bits, an answer prints as it does with a flag for each node
answer_lines-back : (f : Format) (net : Network) (side report : Bytes) → answer_read f net.nodes (side_after f net side) (report_after f net report) ≡ answer f.rules net
    → answer_lines (answer_read f 256 (side_after f net side) (report_after f net report)) ≡ answer_lines (answer f.rules net)
unfolding answer answer_lines answer_read side_read side_bytes
answer_lines-back f net side report back =
    let test : ℕ → Bool = flag (reported f.rules.key net).side in
    let area : Bytes = side_after f net side in
    ap₂ (λ (a : Answer) (ns : List Text). line answer_word (answer_fields a) ++ line side_word ns) back
    (side_fields-select (side_read 256 area) test (λ k b. table_at false 256 (map_bit area) k b ∙ map_bit-table 32 test (drop 32 side) k (omega arith)))

-- ---- the output

-- areas as long as what is written are long enough: the sheet decides
module _ {f : Format} {sheet side report side' report' : Bytes} {n : ℕ} (said : Reported f sheet side report side' report' n) (s : length side ≡ 32)
    (r : length report ≡ report_length f) where
  decides : reading f sheet side report ≡ decode f sheet
  decides = reading-is f sheet side report (omega arith) (omega arith)

  pub answer-output : ((net : Network) → decode f sheet ≡ accepted net [] → answer_read f net.nodes (side_after f net side) (report_after f net report) ≡ answer f.rules net)
      → n ≡ 0 → answer_lines (answer_read f 256 side' report') ≡ output f (decode f sheet)
  answer-output back z =
      let read = decode-zero f sheet (sym (said.number ∙ ap number_of decides) ∙ z) in
      let net : Network = read.0 in
      let e : reading f sheet side report ≡ accepted net [] = decides ∙ read.1 in
      ap₂ (λ (a b : Bytes). answer_lines (answer_read f 256 a b)) (said.side_is ∙ ap (side_left f side) e) (said.report_is ∙ ap (report_left f report) e)
      ∙ answer_lines-back f net side report (back net read.1)
      ∙ sym (ap (output f) read.1)

  pub refused-output : (n ≡ 0 → ⊥) → refused_line n ≡ output f (decode f sheet)
  refused-output z = step (decode f sheet) (said.number ∙ ap number_of decides)
    where
      step : (d : Reading Network) → n ≡ number_of d → refused_line n ≡ output f d
      step (accepted net rest) e = absurd (z e)
      step (refused m) e = ap refused_line e
