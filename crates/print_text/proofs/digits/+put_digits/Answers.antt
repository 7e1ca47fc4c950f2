-- What is left to prove of `put_digits`: the digits are those of the number without its last digit, and the last digit behind them
-- (`decimal-more`).
use Prim.Native.Nat.{ℕ, ◌+◌, ◌%◌, ◌<◌, ◌≤◌}
use mathlib.Core.Path.{sym, ap, ◌∙◌, subst}
use mathlib.Core.List.{[], ◌∷◌}
use native.Mathlib.Omega.{arith}
use native.Mathlib.Nat.{mod-eq_of_lt}
use lib.ListN.{set}
use Rattle.print_text.specs.Decimal.{Text}
use Rattle.print_text.specs.Line.{PutFrom}
use Rattle.print_text.proofs.DecimalLaws.{decimal-one, decimal-more, one_digit, more_digits}
use Rattle.print_text.proofs.LineLaws.{put_from-nothing, put_from-byte}
use Rattle.print_text.proofs.digits.+put_digits.Goals as goal

pub returns-then-n-lt10 : goal.returns-then-n-lt10
returns-then-n-lt10 t c =
    let a = c.args in
    let small : a.n < 10 = omega arith in
    subst (λ (l : Text). PutFrom a.out.now a.at l (set a.out.now a.at (48 + a.n)) (a.at + 1))
    (sym (decimal-one a.n small ∙ ap (λ (d : ℕ). (48 + d) ∷ []) (mod-eq_of_lt small)))
    (put_from-byte (48 + a.n) (put_from-nothing a.out.now a.at) (omega (arith, one_digit a.n small)))

pub returns : goal.returns
returns t c =
    let a = c.args in
    let last = c.put_digits-last in
    let large : 10 ≤ a.n = omega arith in
    subst (λ (l : Text). PutFrom a.out.now a.at l (set last.new.out last.result (48 + a.n % 10)) (last.result + 1))
    (sym (decimal-more a.n large))
    (put_from-byte (48 + a.n % 10) last.ensures (omega (arith, last.ensures.end_is, last.ensures.same_length, more_digits a.n large)))
