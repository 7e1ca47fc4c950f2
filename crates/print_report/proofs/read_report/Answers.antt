-- `print_report::read_report` meets its contract: each field is read where it stands, behind the fields before it. Assumes nothing.
use Rattle.sheet.specs.Sheet.{current}
use Rattle.sheet.proofs.AreaLaws.{fields-report_widths}
use Rattle.print_report.proofs.read_report.Goals as goal

pub returns : goal.returns
returns c =
    rw (
      fields-report_widths current c.args.area.now,
      c.two.ensures.same,
      c.two-2.ensures.same,
      c.two-3.ensures.same,
      c.eight.ensures,
      c.eight-2.ensures,
    )
