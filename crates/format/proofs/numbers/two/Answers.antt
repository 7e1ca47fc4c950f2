-- `numbers::two` meets its contract: the number of two bytes is the first and 256 times the second. Assumes nothing.
use native.Mathlib.Omega.{arith}
use Rattle.sheet.proofs.ByteLaws.{number-two}
use Rattle.format.proofs.numbers.two.Goals as goal

pub returns : goal.returns
returns c = record { same = omega (arith, number-two c.args.at c.args.s.now); small = omega arith }
