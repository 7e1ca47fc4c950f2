-- `print_text::digits::put_digits` meets its contract. The number falls at each call. Assumes nothing.
use Rattle.print_text.proofs.digits.+put_digits.Given as goal

abbrev pub decreases-put_digits : goal.decreases-put_digits
decreases-put_digits l = l.n
