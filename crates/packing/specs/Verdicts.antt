-- The number of a verdict, as the report has it. Assumes nothing.
use Rattle.std.specs.Prelude.{ℕ}
use Rattle.packing.specs.declared.Verdict.{Verdict}
use Rattle.packing.specs.declared.Verdict.TheVariants.{TreesOnly, Whole}

abbrev pub verdict_number : Verdict → ℕ
verdict_number TreesOnly = 1
verdict_number Whole = 2
