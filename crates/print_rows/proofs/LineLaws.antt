-- The lines of the ranks, one rank at a time: a rank more is a line more. Assumes nothing.
use Prim.Native.Nat.{ℕ, ◌+◌, ◌≤◌, ◌<◌}
use mathlib.Core.Path.{◌≡◌, refl, sym, ap, ◌∙◌}
use mathlib.Core.List.{List, [], ◌∷◌, ◌++◌, append_assoc, append-nil}
use native.Mathlib.Omega.{arith}
use native.Mathlib.Numerals.{add-one}
use lib.ListN.{length, take}
use lib.Seq.{take-suc, take_all}
use Rattle.cuts.proofs.SumLaws.{table-length}
use Rattle.pairs.specs.Slots.{row_start, row_starts}
use Rattle.pairs.proofs.SlotLaws.{row_starts-at}
use Rattle.print_text.specs.Decimal.{Text}
use Rattle.print_rows.specs.Output.{row_line, row_lines, output}

lines-append : (xs ys : List ℕ) → row_lines (xs ++ ys) ≡ row_lines xs ++ row_lines ys
unfolding row_lines
lines-append [] ys = refl
lines-append (x ∷ xs) ys = ap (λ (l : Text). row_line x ++ l) (lines-append xs ys) ∙ sym (append_assoc (row_line x) (row_lines xs) (row_lines ys))

all-ranks : length row_starts ≡ 255
unfolding row_starts
all-ranks = table-length 255 row_start

pub lines_more : (k : ℕ) → k < 255 → row_lines (take (k + 1) row_starts) ≡ row_lines (take k row_starts) ++ row_line (row_start k)
unfolding row_lines
lines_more k b =
    let h : k < length row_starts = omega (arith, all-ranks) in
    let e : take (k + 1) row_starts ≡ take k row_starts ++ row_start k ∷ [] =
    ap (λ (i : ℕ). take i row_starts) (add-one k) ∙ take-suc row_starts k 0 h ∙ ap (λ (x : ℕ). take k row_starts ++ x ∷ []) (row_starts-at k b) in
    ap row_lines e ∙ lines-append (take k row_starts) (row_start k ∷ []) ∙ ap (λ (l : Text). row_lines (take k row_starts) ++ l) (append-nil (row_line (row_start k)))

-- the lines of all ranks are the output
pub all_lines : (k : ℕ) → 255 ≤ k → row_lines (take k row_starts) ≡ output
unfolding output
all_lines k h = ap row_lines (take_all k row_starts (omega (arith, all-ranks)))
