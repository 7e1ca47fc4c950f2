-- What the operation for a cable's thickness answers, for every sheet, every link and every wanted weight, by the format (document 02, F-7).
-- Assumes nothing.
--   thickness_of f k wanted net rest     the figure for link k of the network, or the refusal: 18, or 20
--   thickness_reading f sheet k wanted   the figure for link k of the sheet's network, or the first refusal: the sheet's, 18, or 20
--   figure_left r                        the figure that was read, 0 after a refusal
--   ThicknessTold f ..                   all that the operation promises, where `figure` is the weight that it answers and n is returned
use Rattle.std.specs.Prelude.{ℕ, ◌≤◌, ◌<◌, ◌≡◌, ◌⊎◌, ◌↔◌, [], ◌∷◌, leb}
use Rattle.cuts.specs.Network.{Network, link_count}
use Rattle.sheet.specs.Bytes.{Bytes}
use Rattle.sheet.specs.Reading.{check, first_failing, Reading, accepted, refused, number_of, unless, and_then}
use Rattle.sheet.specs.Sheet.{Format, decode}
use Rattle.thickness.specs.Thickness.{most_weight, Needed, TooLight, TooThick, out_of_reach, missing}

-- "A link outside the sheet is 18 and no such weight is 20, in that order"
unfoldable pub thickness_of : Format → ℕ → ℕ → Network → Bytes → Reading ℕ
unfolding first_failing out_of_reach missing
thickness_of f k wanted net rest =
    unless (first_failing (check 18 (leb (link_count net) k) ∷ check 20 (out_of_reach f.rules.key net k wanted) ∷ []))
    (accepted (missing f.rules.key net k wanted) rest)

-- "after the sheet's refusals"
unfoldable pub thickness_reading : Format → Bytes → ℕ → ℕ → Reading ℕ
unfolding decode thickness_of
thickness_reading f sheet k wanted = and_then (decode f sheet) (thickness_of f k wanted)

abbrev pub figure_left : Reading ℕ → ℕ
figure_left (accepted x rest) = x
figure_left (refused n) = 0

pub record ThicknessTold (f : Format) (sheet : Bytes) (k wanted figure n : ℕ) : Type 0 where
  -- each refusal of the sheet, then 18, then 20
  pub number : n ≡ number_of (thickness_reading f sheet k wanted)
  -- document 01: "Any figure .. that an operation carries beside the return number is then all 0"
  pub figure_is : figure ≡ figure_left (thickness_reading f sheet k wanted)
  -- "The unit gives the smallest 4-byte weight for that link, others kept, with which the reported weight is no less than wanted"
  pub needed : n ≡ 0 → (net : Network) × (decode f sheet ≡ accepted net []) × (k < link_count net) × Needed f.rules.key net k wanted figure
      × (figure ≤ most_weight)
  -- "There is none" exactly in the two cases that the request names
  pub none : (net : Network) → decode f sheet ≡ accepted net [] → k < link_count net
      → (n ≡ 20) ↔ (TooLight net k wanted ⊎ TooThick f.rules.key net k wanted)
