-- `print_trunks::put_output` meets its contract: where the crew's reader refuses nothing the area has the trunk numbers of the links
-- that the header counts, and its refusal is the sheet's. Assumes nothing.
use Prim.Native.Nat.{◌≤◌}
use native.Mathlib.Omega.{arith}
use mathlib.Core.Path.{◌≡◌, refl, sym}
use lib.ListN.{length, take}
use lib.Seq.{length-take-le}
use Rattle.cuts.specs.Limits.{most_links}
use Rattle.sheet.specs.Sheet.{current}
use Rattle.print_text.proofs.LineLaws.{put_in}
use Rattle.print_trunks.proofs.OutputLaws.{accepted-output}
use Rattle.print_trunks.proofs.put_output.Goals as goal
use Rattle.print_trunks.proofs.put_output.Goals.{After-two}

-- the links that the header counts are no more than the area has numbers
module _ (c : After-two) where
  few_links : c.two.result ≤ most_links
  few_links =
      omega (arith, (accepted-output current c.args.sheet.now c.in-Ok.ensures refl).1, c.two.ensures.same)

  there : length (take c.two.result c.read_trunks.new.numbers) ≡ c.two.result
  there = length-take-le c.two.result c.read_trunks.new.numbers (omega (arith, few_links, c.read_trunks.array_long))

pub two-requires : goal.two-requires
two-requires c =
    omega (arith, (accepted-output current c.args.sheet.now c.in-Ok.ensures refl).0)

pub slice_bounds-numbers-end : goal.slice_bounds-numbers-end
slice_bounds-numbers-end c = omega (arith, few_links (goal.at.slice_bounds-numbers-end c).After-two)

pub slice_bounds-link_lines-end : goal.slice_bounds-link_lines-end
slice_bounds-link_lines-end c = sym (there (goal.at.slice_bounds-link_lines-end c).After-two)

pub link_lines-requires : goal.link_lines-requires
link_lines-requires c =
    let at_two = (goal.at.link_lines-requires c).After-two in
    record { room = c.requires; few = omega (arith, there at_two, few_links at_two) }

pub returns-in-Ok : goal.returns-in-Ok
returns-in-Ok c =
    let e = (accepted-output current c.args.sheet.now c.in-Ok.ensures refl).2 in
    let w = rw c.two.ensures.same at c.link_lines.ensures in
    put_in w e (omega arith)
