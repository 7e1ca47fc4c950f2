-- What is left to prove of `gather`.
use mathlib.Core.Path.{refl}
use native.Mathlib.Omega.{arith}
use Rattle.tree_places.specs.Places.{stop_numbers}
use Rattle.tree_places.proofs.SmallLaws.{zeros_within}
use Rattle.tree_places.proofs.gather.Goals as goal

pub loop-p-init : goal.loop-p-init
loop-p-init c = (refl, (λ q b. absurd (omega arith)), λ _. zeros_within stop_numbers (omega arith))
