-- What the cable crew's reader returns and leaves in the area that it is lent (request F-9). Assumes nothing.
--   numbers_left old r   an area that held `old`, where r was read: the trunk numbers stand at its front if the sheet is accepted
--   TrunksRead f ..      all that the reader promises, where the area held `numbers`, holds numbers' afterwards, and n is returned
use Rattle.std.specs.Prelude.{ℕ, ◌≡◌, List}
use Rattle.sheet.specs.Bytes.{Bytes}
use Rattle.sheet.specs.Reading.{Reading, accepted, refused, number_of}
use Rattle.sheet.specs.Sheet.{Format}
use Rattle.sheet.specs.Areas.{written}
use Rattle.sheet.specs.Trunks.{trunks}

abbrev pub numbers_left : List ℕ → Reading (List ℕ) → List ℕ
numbers_left old (accepted ts rest) = written ts old
numbers_left old (refused n) = old

pub record TrunksRead (f : Format) (sheet : Bytes) (numbers numbers' : List ℕ) (n : ℕ) : Type 0 where
  pub number : n ≡ number_of (trunks f sheet)
  pub numbers_are : numbers' ≡ numbers_left numbers (trunks f sheet)
