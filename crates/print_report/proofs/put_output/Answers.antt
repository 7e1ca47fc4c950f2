-- `print_report::put_output` meets its contract: where the entry returns 0 the areas hold the answer of the sheet's network, and where it
-- returns another number that is the sheet's refusal. Assumes nothing.
use mathlib.Core.Path.{refl}
use mathlib.Core.List.{[]}
use native.Mathlib.Omega.{arith}
use Rattle.sheet.proofs.AreaLaws.{sheet-back}
use Rattle.print_text.proofs.LineLaws.{put_in}
use Rattle.print_report.proofs.OutputLaws.{answer-output, refused-output}
use Rattle.print_report.proofs.put_output.Goals as goal

pub returns-then-number-eq0 : goal.returns-then-number-eq0
returns-then-number-eq0 c =
    let e = answer-output c.wcut_report-number.ensures refl refl
    (λ net e. sheet-back _ (λ k _. omega (arith, c.shared_slice_known-1.given k)) net [] e _ _) c.if-number-eq0.true in
    put_in c.answer_lines.ensures e (omega arith)

pub returns-else-number-eq0 : goal.returns-else-number-eq0
returns-else-number-eq0 c =
    let e = refused-output c.wcut_report-number.ensures refl refl c.if-number-eq0.false in
    put_in c.refused_line.ensures e (omega arith)
