-- What is left to prove of `crosses_few`.
use Prim.Native.Nat.{ℕ, ◌+◌, ◌*◌}
use mathlib.Core.Path.{◌≡◌, refl, sym, ap, ap₂, ◌∙◌}
use native.Mathlib.Omega.{arith}
use lib.Count.{ones}
use borrow.Author.Tests.{lt-leb}
use Rattle.cuts.specs.Limits.{most_nodes}
use Rattle.cuts.specs.Sums.{sum_to, count_to, only}
use Rattle.cuts.proofs.SumLaws.{sum_less}
use Rattle.bit_table.specs.Bits.{word_bits, word_bit}
use Rattle.bit_table.proofs.BitLaws.{ones_count}
use Rattle.place_layers.specs.Layers.{oddly}
use Rattle.tree_crossings.proofs.LayerLaws.{odd-more}
use Rattle.tree_crossings.proofs.crosses_few.Goals as goal
use Rattle.tree_crossings.proofs.crosses_few.Goals.{After-odd_word}

-- the bits of one word more
counted : (c : After-odd_word) → let l = c.loop-j in
    let a = c.args in
    l.count + ones c.odd_word.result ≡ count_to (word_bits * (l.j + 1)) (oddly a.layers.now a.a a.b a.c a.d)
counted c =
    let a = c.args in
    let word = c.odd_word in
    ap₂ ◌+◌ c.loop-j.invariant.counted (ones_count word_bits word.result word.type_inv ∙ ap (λ (w : ℕ). count_to word_bits (word_bit w)) word.ensures)
    ∙ odd-more a.layers.now a.a a.b a.c a.d c.loop-j.j

pub loop-j-init : goal.loop-j-init
unfolding sum_to
loop-j-init c = record { counted = refl; few = omega arith }

pub returns-then-count-gt2 : goal.returns-then-count-gt2
returns-then-count-gt2 c =
    let l = c.loop-j in
    let a = c.args in
    let odd = oddly a.layers.now a.a a.b a.c a.d in
    let more = sum_less (word_bits * (l.j + 1)) most_nodes (λ r. only (odd r) 1) (omega arith) in
    sym (lt-leb (count_to most_nodes odd) 2 (omega (arith, counted (goal.at.returns-then-count-gt2 c).After-odd_word)))

pub loop-j-preserved : goal.loop-j-preserved
loop-j-preserved c = record { counted = counted (goal.at.loop-j-preserved c).After-odd_word; few = c.if-count-gt2.false }
