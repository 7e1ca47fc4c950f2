-- What the entry promises, by which refusal comes first: of the side area, of the report area, or what the sheet decides.
-- Assumes nothing.
use mathlib.Core.List.{[]}
use Prim.Native.Nat.{ℕ, ◌≤◌, ◌<◌}
use mathlib.Core.Path.{◌≡◌, sym, ap, ◌∙◌}
use native.Mathlib.Omega.{arith}
use lib.ListN.{length}
use borrow.Author.Tests.{lt-ltb, le-ltb}
use Rattle.cuts.specs.Network.{Network}
use Rattle.cuts.specs.Demands.{Owed}
use Rattle.sheet.specs.Bytes.{Bytes}
use Rattle.sheet.specs.Reading.{first_failing, accepted, refused}
use Rattle.sheet.specs.Sheet.{Format, decode}
use Rattle.sheet.specs.Areas.{report_length, side_after, report_after, answer_read, side_left, report_left}
use Rattle.sheet.proofs.Acceptance.{decode-zero}
use Rattle.op_report.specs.Reports.{SheetReported}
use Rattle.monitor.specs.Entry.{area_checks, reading, Reported}

module _ (f : Format) (sheet side report : Bytes) where
  refused-reported : (n : ℕ) → 0 < n → reading f sheet side report ≡ refused n → Reported f sheet side report side report n
  refused-reported n z e = record { number = rw e; side_is = rw e; report_is = rw e; owed = λ q. absurd (omega arith) }

  pub side-refused : length side < 32 → Reported f sheet side report side report 1
  unfolding reading area_checks first_failing
  side-refused l = refused-reported 1 (omega arith) (rw (lt-ltb (length side) 32 l))

  module _ (enough : 32 ≤ length side) where
    pub report-refused : length report < report_length f → Reported f sheet side report side report 2
    unfolding reading area_checks first_failing
    report-refused l = refused-reported 2 (omega arith) (rw (le-ltb (length side) 32 enough, lt-ltb (length report) (report_length f) l))

    module _ (room : report_length f ≤ length report) where
      pub reading-is : reading f sheet side report ≡ decode f sheet
      unfolding reading area_checks first_failing
      reading-is = rw (le-ltb (length side) 32 enough, le-ltb (length report) (report_length f) room)

      -- where what is owed of the answer is owed of the bytes written
      pub sheet-decides : ((net : Network) → decode f sheet ≡ accepted net [] → Owed f.rules net (answer_read f net.nodes (side_after f net side) (report_after f net report)))
          → {side' report' : Bytes} {n : ℕ} → SheetReported f sheet side report side' report' n → Reported f sheet side report side' report' n
      sheet-decides owed {side'} {report'} w = record {
        number = rw reading-is w.number;
        side_is = rw reading-is w.side_is;
        report_is = rw reading-is w.report_is;
        owed = λ z. let read = decode-zero f sheet (sym w.number ∙ z) in
            let left : side' ≡ side_after f read.0 side = w.side_is ∙ ap (side_left f side) read.1 in
            let right : report' ≡ report_after f read.0 report = w.report_is ∙ ap (report_left f report) read.1 in
            (read.0, read.1, rw (left, right) (owed read.0 read.1));
      }
