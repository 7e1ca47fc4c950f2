-- The entry, and the units sold before. Request F-9: number and both areas are those of the sheet from which bit 3 and the trunk numbers are
-- taken out, and of a sheet without bit 3 those of the format of request F-3. Request F-6: the number is that of the format of F-9, and so
-- are verdict, weight and floor, and all bytes behind the side and behind the report.
-- Assumes nothing.
use Prim.Native.Nat.{ℕ}
use mathlib.Core.Path.{◌≡◌, refl, sym, ap, ◌∙◌}
use mathlib.Core.Bool.{false}
use lib.ListN.{take, drop}
use Rattle.cuts.specs.Network.{Network}
use Rattle.sheet.specs.Bytes.{Bytes}
use Rattle.sheet.specs.Reading.{first_failing, Reading, accepted, refused, unless, number_of}
use Rattle.sheet.specs.Sheet.{tolerant, trunked, current, decode}
use Rattle.sheet.specs.Areas.{side_bytes, report_bytes, answer_read, side_left, report_left}
use Rattle.sheet.proofs.Plain.{marked, cut_off, plain}
use Rattle.sheet.proofs.ReadingLaws.{unless-accepted}
use Rattle.sheet.proofs.Acceptance.{decode-accepted}
use Rattle.sheet.proofs.PlainLaws.{plain-same}
use Rattle.sheet.proofs.Sold.{reads_as_trunked, reads_before, report_reordered}
use Rattle.monitor.specs.Entry.{area_checks, reading, Reported}

module _ (sheet side report side' report' : Bytes) (n : ℕ) where
  -- "and answers as if the bit and field were not there"
  pub reported-plain : cut_off sheet ≡ false → Reported current (plain sheet) side report side' report' n → Reported current sheet side report side' report' n
  unfolding reading
  reported-plain whole said =
      let q : decode current (plain sheet) ≡ decode current sheet = plain-same sheet whole in
      let r : reading current (plain sheet) side report ≡ reading current sheet side report = ap (unless (first_failing (area_checks current side report))) q in
      record {
        number = said.number ∙ ap number_of r;
        side_is = said.side_is ∙ ap (side_left current side) r;
        report_is = said.report_is ∙ ap (report_left current report) r;
        owed = λ z. let o = said.owed z in (o.0, sym q ∙ o.1, o.2);
      }

  -- "A sheet without the bit gets the panel reader's old answer"
  pub reported_before : (number_of (decode tolerant sheet) ≡ 8 → marked current sheet ≡ false) → Reported tolerant sheet side report side' report' n → Reported trunked sheet side report side' report' n
  unfolding reading area_checks report_bytes answer_read
  reported_before other said =
      let q : decode tolerant sheet ≡ decode trunked sheet = sym (sym (reads_as_trunked sheet) ∙ reads_before sheet other) in
      let r : reading tolerant sheet side report ≡ reading trunked sheet side report = ap (unless (first_failing (area_checks trunked side report))) q in
      record {
        number = said.number ∙ ap number_of r;
        side_is = said.side_is ∙ ap (side_left tolerant side) r ∙ same_side (reading trunked sheet side report);
        report_is = said.report_is ∙ ap (report_left tolerant report) r ∙ same_report (reading trunked sheet side report);
        owed = λ z. let o = said.owed z in (o.0, sym q ∙ o.1, o.2);
      }
    where
      same_side : (d : Reading Network) → side_left tolerant side d ≡ side_left trunked side d
      same_side (accepted net rest) = refl
      same_side (refused m) = refl

      same_report : (d : Reading Network) → report_left tolerant report d ≡ report_left trunked report d
      same_report (accepted net rest) = refl
      same_report (refused m) = refl

-- F-6: what is left of two calls with the same sheet and the same areas, by the order in force and by the older one
pub record Reordered (side' report' side'' report'' : Bytes) (n m : ℕ) : Type 0 where
  pub number : n ≡ m
  -- the verdict
  pub verdict : take 1 report' ≡ take 1 report''
  -- weight and floor, and what stands behind them
  pub weight_floor : drop 8 report' ≡ drop 8 report''
  -- what stands behind the side
  pub behind_side : drop 32 side' ≡ drop 32 side''

module _ (sheet side report side' report' side'' report'' : Bytes) (n m : ℕ) where
  pub reported_reordered : Reported current sheet side report side' report' n → Reported trunked sheet side report side'' report'' m → Reordered side' report' side'' report'' n m
  unfolding reading area_checks side_bytes
  reported_reordered said older =
      let d : Reading Network = reading current sheet side report in
      let e : reading trunked sheet side report ≡ d = ap (unless (first_failing (area_checks current side report))) (sym (reads_as_trunked sheet)) in
      let left = left_reordered d refl in
      let r = older.report_is ∙ ap (report_left trunked report) e in
      record {
        number = said.number ∙ sym (older.number ∙ ap number_of e);
        verdict = ap (take 1) said.report_is ∙ left.0 ∙ sym (ap (take 1) r);
        weight_floor = ap (drop 8) said.report_is ∙ left.1 ∙ sym (ap (drop 8) r);
        behind_side = ap (drop 32) said.side_is ∙ left.2 ∙ sym (ap (drop 32) (older.side_is ∙ ap (side_left trunked side) e));
      }
    where
      left_reordered : (d : Reading Network) → reading current sheet side report ≡ d
          → (take 1 (report_left current report d) ≡ take 1 (report_left trunked report d)) × (drop 8 (report_left current report d) ≡ drop 8 (report_left trunked report d))
          × (drop 32 (side_left current side d) ≡ drop 32 (side_left trunked side d))
      left_reordered (refused n) e = (refl, refl, refl)
      left_reordered (accepted net rest) e =
          let v = (decode-accepted current sheet net rest (unless-accepted (first_failing (area_checks current side report)) (decode current sheet) e).1).sound in
          let r = report_reordered net v report in
          (r.0, r.1, refl)
