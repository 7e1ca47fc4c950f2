-- What is left to prove of `flip_ends`.
use Prim.Native.Nat.{ℕ, ◌+◌, ◌*◌}
use mathlib.Core.Path.{◌≡◌, sym, subst}
use mathlib.Core.Bool.{xor}
use mathlib.Core.List.{List}
use native.Mathlib.Omega.{arith}
use lib.Dec.{eqb}
use Rattle.cuts.specs.Limits.{most_nodes}
use Rattle.bit_table.specs.Bits.{bit_of}
use Rattle.place_layers.specs.Layers.{layers_length}
use Rattle.tree_crossings.specs.Layers.{EndsFlipped}
use Rattle.place_layers.proofs.LayerLaws.{clear-length}
use Rattle.tree_crossings.proofs.LayerLaws.{flipped_none, flipped_more}
use Rattle.tree_crossings.proofs.flip_ends.Goals as goal

pub loop-r-init : goal.loop-r-init
loop-r-init c =
    let a = c.args in
    record {
      all = clear-length c.requires.clear;
      flipped = subst (EndsFlipped a.links.now.firsts a.links.now.seconds a.members.now 0 a.place.now) (sym c.requires.clear)
          (flipped_none a.links.now.firsts a.links.now.seconds a.members.now a.place.now layers_length);
    }

pub loop-r-preserved : goal.loop-r-preserved
loop-r-preserved c =
    let l = c.loop-r in
    let a = c.args in
    let few = c.requires.few in
    let b = c.loop-r-test.true in
    let once = c.flip_bit.new.words in
    let twice = c.flip_bit-in-loop-r.new.words in
    let Flipped : List ℕ → List ℕ → ℕ → Type 0 = λ old new x. (k : ℕ) → bit_of new k ≡ xor (bit_of old k) (eqb k (most_nodes * (x + 1) + l.r)) in
    record {
      all = omega (arith, c.flip_bit-in-loop-r.auto.words, c.flip_bit.auto.words, l.invariant.all);
      flipped = flipped_more a.links.now.firsts a.links.now.seconds a.members.now a.place.now l.r l.layers once twice (omega arith) l.invariant.flipped
          (subst (Flipped l.layers once) c.place_of-first.ensures.is c.flip_bit.ensures)
          (subst (Flipped once twice) c.place_of-second.ensures.is c.flip_bit-in-loop-r.ensures);
    }
