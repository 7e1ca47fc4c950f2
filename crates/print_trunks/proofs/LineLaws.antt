-- The lines of the links, one link at a time: a link more is a line more. Assumes nothing.
use Prim.Native.Nat.{ℕ, suc, ◌+◌, ◌<◌}
use mathlib.Core.Path.{◌≡◌, sym, ap, ◌∙◌}
use mathlib.Core.List.{List, [], ◌∷◌, ◌++◌, append_assoc, append-nil}
use native.Mathlib.Nat.{zero-add}
use native.Mathlib.Omega.{arith}
use native.Mathlib.Numerals.{add-one}
use lib.ListN.{length, get_or, take}
use lib.Seq.{take-suc, length-take-le}
use Rattle.print_text.specs.Decimal.{Text}
use Rattle.print_trunks.specs.Output.{link_line, lines_from}

lines-append : (k : ℕ) (ts us : List ℕ) → lines_from k (ts ++ us) ≡ lines_from k ts ++ lines_from (k + length ts) us
unfolding lines_from
lines-append k [] us = ap (λ (i : ℕ). lines_from i us) (omega arith)
lines-append k (t ∷ ts) us =
    let place : suc k + length ts ≡ k + length (t ∷ ts) = omega arith in
    ap (λ (l : Text). link_line k t ++ l) (lines-append (suc k) ts us ∙ ap (λ (i : ℕ). lines_from (suc k) ts ++ lines_from i us) place)
    ∙ sym (append_assoc (link_line k t) (lines_from (suc k) ts) (lines_from (k + length (t ∷ ts)) us))

pub lines_more : (ts : List ℕ) (k : ℕ) → k < length ts → lines_from 0 (take (k + 1) ts) ≡ lines_from 0 (take k ts) ++ link_line k (get_or ts k 0)
unfolding lines_from
lines_more ts k h =
    let e : take (k + 1) ts ≡ take k ts ++ get_or ts k 0 ∷ [] = ap (λ (i : ℕ). take i ts) (add-one k) ∙ take-suc ts k 0 h in
    let place : 0 + length (take k ts) ≡ k = zero-add (length (take k ts)) ∙ length-take-le k ts (omega arith) in
    ap (lines_from 0) e ∙ lines-append 0 (take k ts) (get_or ts k 0 ∷ [])
    ∙ ap (λ (i : ℕ). lines_from 0 (take k ts) ++ (link_line i (get_or ts k 0) ++ [])) place
    ∙ ap (λ (l : Text). lines_from 0 (take k ts) ++ l) (append-nil (link_line k (get_or ts k 0)))
