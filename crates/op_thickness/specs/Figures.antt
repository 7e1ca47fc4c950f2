-- What the operation for a cable's thickness leaves. Assumes nothing.
--   FigureLeft r x n   where r was read: n is its number, and x the figure, 0 after a refusal
use Rattle.std.specs.Prelude.{ℕ, ◌≡◌}
use Rattle.sheet.specs.Reading.{Reading, number_of}
use Rattle.thickness.specs.ThicknessTold.{figure_left}

pub record FigureLeft (r : Reading ℕ) (x n : ℕ) : Type 0 where
  pub number : n ≡ number_of r
  pub figure_is : x ≡ figure_left r
