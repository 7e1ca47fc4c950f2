-- What is printed, against what units already sold print, in document 01's format and in those of requests F-2 and F-3: the same for each
-- of their refusals but 11, and 8 where it was given to bit 3 (request F-9), and for every sheet that they accept whose trees are a packing;
-- for any other that they accept, the lines of the same cut with a floor that is no less (request F-3). Trunk numbers alter no line.
-- Assumes nothing.
use Prim.Native.Nat.{ℕ, ◌≤◌}
use mathlib.Core.Path.{◌≡◌, refl, sym, ap, ◌∙◌}
use mathlib.Core.Bool.{false}
use Rattle.cuts.specs.Network.{Network}
use Rattle.cuts.specs.Candidate.{alike, fewer_nodes}
use Rattle.cuts.specs.Bound.{Packed, longest_run}
use Rattle.cuts.specs.Answer.{Answer, certified, judged, answer}
use Rattle.cuts.proofs.Sold.{answer-before, floor_no_less, certified_before, keys_agree, count_no_more}
use Rattle.sheet.specs.Bytes.{Bytes}
use Rattle.sheet.specs.Reading.{Reading, accepted, refused, number_of}
use Rattle.sheet.specs.Sheet.{Format, base, wide, tolerant, trunked, current, decode}
use Rattle.sheet.proofs.Plain.{marked, cut_off, plain}
use Rattle.sheet.proofs.Acceptance.{decode-accepted}
use Rattle.sheet.proofs.PlainLaws.{plain-same}
use Rattle.sheet.proofs.Sold.{reads_as_trunked, reads_before, accepted-before, accepted_as_wide, refused-before, refused_as_wide}
use Rattle.print_text.specs.Decimal.{Text}
use Rattle.print_report.specs.Output.{answer_lines, output}

-- what is printed for a sheet, in a format
abbrev pub prints : Format → Bytes → Text
prints f sheet = output f (decode f sheet)

-- the lines are those of the answer that units already sold give, but for its verdict and its floor, which is no less
pub record Relined (net : Network) (lines : Text) : Type 0 where
  pub verdict : ℕ
  pub floor : ℕ
  pub lines_are : lines ≡ answer_lines (record { best = (answer base.rules net).best; floor = floor; verdict = verdict })
  pub floor_no_less : (answer base.rules net).floor ≤ floor
  pub certified_before : (answer base.rules net).verdict ≡ certified → verdict ≡ certified

-- a sheet that reads as it did
module _ (sheet : Bytes) (net : Network) (rest : Bytes) (reads : decode current sheet ≡ accepted net rest) where
  reads_trunked : decode trunked sheet ≡ accepted net rest
  reads_trunked = sym (reads_as_trunked sheet) ∙ reads

  same_lines : Packed net net.trees → prints trunked sheet ≡ answer_lines (answer base.rules net)
  same_lines p = ap (output trunked) reads_trunked ∙ ap answer_lines (answer-before alike net p)

  other-lines : Relined net (prints trunked sheet)
  unfolding answer
  other-lines = record {
    verdict = (answer trunked.rules net).verdict;
    floor = (answer trunked.rules net).floor;
    lines_are = ap (output trunked) reads_trunked;
    floor_no_less = floor_no_less alike net;
    certified_before = certified_before alike net;
  }

-- in the order of candidates that units already sold have
module _ (sheet : Bytes) (net : Network) (rest : Bytes) where
  -- F-2: "In the report program every sheet accepted before prints the same lines"; F-3: where no link is overloaded by all trees
  pub lines-before : decode base sheet ≡ accepted net rest → Packed net net.trees → prints trunked sheet ≡ prints base sheet
  lines-before e p = same_lines sheet net rest (accepted-before sheet net rest e) p ∙ sym (ap (output base) e)

  pub lines_as_wide : decode wide sheet ≡ accepted net rest → Packed net net.trees → prints trunked sheet ≡ prints wide sheet
  lines_as_wide e p = same_lines sheet net rest (accepted_as_wide sheet net rest e) p ∙ sym (ap (output wide) e)

  -- elsewhere
  pub relined_before : decode base sheet ≡ accepted net rest → Relined net (prints trunked sheet)
  relined_before e = other-lines sheet net rest (accepted-before sheet net rest e)

  pub relined_as_wide : decode wide sheet ≡ accepted net rest → Relined net (prints trunked sheet)
  relined_as_wide e = other-lines sheet net rest (accepted_as_wide sheet net rest e)

module _ (sheet : Bytes) (n : ℕ) (unmarked : n ≡ 8 → marked current sheet ≡ false) where
  -- "and a sheet refused before with a number other than 11 keeps it"; F-9: by 8 where no link record has bit 3
  pub refusal-before : decode base sheet ≡ refused n → (n ≡ 11 → ⊥) → prints current sheet ≡ prints base sheet
  refusal-before e other = ap (output current) (refused-before sheet n unmarked e other) ∙ sym (ap (output base) e)

  pub refusal_as_wide : decode wide sheet ≡ refused n → prints current sheet ≡ prints wide sheet
  refusal_as_wide e = ap (output current) (refused_as_wide sheet n unmarked e) ∙ sym (ap (output wide) e)

-- F-9: "A sheet without the bit gets the panel reader's old answer"
pub lines-unmarked : (sheet : Bytes) → (number_of (decode tolerant sheet) ≡ 8 → marked current sheet ≡ false) → prints trunked sheet ≡ prints tolerant sheet
lines-unmarked sheet other = ap (output trunked) (sym (reads_as_trunked sheet) ∙ reads_before sheet other) ∙ same (decode tolerant sheet)
  where
    same : (r : Reading Network) → output trunked r ≡ output tolerant r
    same (accepted net rest) = refl
    same (refused n) = refl

-- F-9: "and answers as if the bit and field were not there"
pub lines-plain : (sheet : Bytes) → cut_off sheet ≡ false → prints current (plain sheet) ≡ prints current sheet
lines-plain sheet whole = ap (output current) (plain-same sheet whole)

-- ---- F-6

-- two answers with one verdict, weight and floor, of which the first cut has no more nodes
pub record Reordered (lines older : Text) : Type 0 where
  pub answered : Answer
  pub before : Answer
  pub lines_are : lines ≡ answer_lines answered
  pub older_are : older ≡ answer_lines before
  pub verdict : answered.verdict ≡ before.verdict
  pub weight : answered.best.weight ≡ before.best.weight
  pub floor : answered.floor ≡ before.floor
  pub count_no_more : answered.best.count ≤ before.best.count

-- every accepted sheet prints such lines, and every other the same
pub lines_reordered : (sheet : Bytes) (net : Network) (rest : Bytes) → decode current sheet ≡ accepted net rest → Reordered (prints current sheet) (prints trunked sheet)
unfolding answer judged
lines_reordered sheet net rest e =
    let v = (decode-accepted current sheet net rest e).sound in
    let same = keys_agree net v longest_run fewer_nodes alike in
    record {
      answered = answer current.rules net;
      before = answer trunked.rules net;
      lines_are = ap (output current) e;
      older_are = ap (output trunked) (sym (reads_as_trunked sheet) ∙ e);
      verdict = same.2;
      weight = same.0;
      floor = same.1;
      count_no_more = count_no_more net v;
    }

pub refusal_reordered : (sheet : Bytes) (n : ℕ) → decode current sheet ≡ refused n → prints current sheet ≡ prints trunked sheet
refusal_reordered sheet n e = ap (output current) e ∙ sym (ap (output trunked) (sym (reads_as_trunked sheet) ∙ e))
