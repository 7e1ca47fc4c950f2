-- Layers of the members of a tree: a bit turned over behind the place of each end, the layers added up, and the bits counted that are set in an
-- odd number of four layers.
-- Assumes nothing.
use Prim.Native.Nat.{ℕ, zero, suc, ◌+◌, ◌*◌, ◌<◌}
use mathlib.Core.Path.{◌≡◌, refl, sym, ap, ap₂, ◌∙◌}
use mathlib.Core.Bool.{Bool, true, false, ◌&&◌, xor}
use mathlib.Core.List.{List}
use native.Mathlib.Decide.{ℕ_discrete}
use native.Mathlib.Omega.{arith}
use lib.ListN.{replicate}
use lib.Dec.{eqb, ltb, eqb-zero-suc, leb-suc-zero}
use borrow.Author.Tests.{eq-eqb, ne_eqb, lt-ltb, le-ltb}
use Rattle.cuts.specs.Sums.{count_to, only}
use Rattle.cuts.specs.Limits.{most_nodes}
use Rattle.cuts.proofs.FlagLaws.{one_table}
use Rattle.cuts.proofs.SumLaws.{sum_congr, sum-append}
use Rattle.bit_table.specs.Bits.{word_bits, word_bit, bit_of}
use Rattle.bit_table.proofs.BitLaws.{bit_of-clear}
use Rattle.place_layers.specs.Layers.{LayersSummed, oddly, odd_word}
use Rattle.place_layers.proofs.LayerLaws.{layer-bit, below_next, turn, first-layer, next-layer, odd-bit}
use Rattle.tree_crossings.specs.Layers.{end_place, EndsFlipped, EndsParted}

-- ---- the layers behind the ends

-- two bits turned over where nothing is set, and none
flip_here : (x y : Bool) → xor (xor false (x && true)) (y && true) ≡ xor x y
unfolding xor
flip_here = one_table 2 (λ x y. xor (xor false (x && true)) (y && true)) (λ x y. xor x y) refl

flip_elsewhere : (o x y : Bool) → xor (xor o (x && false)) (y && false) ≡ o
unfolding xor
flip_elsewhere = one_table 3 (λ o x y. xor (xor o (x && false)) (y && false)) (λ o x y. o) refl

module _ (fs ss members place : List ℕ) where
  -- layer p is behind the first end of member r, and behind its second
  abbrev first-behind : ℕ → ℕ → Bool
  first-behind p r = eqb p (suc (end_place fs members place r))

  abbrev second-behind : ℕ → ℕ → Bool
  second-behind p r = eqb p (suc (end_place ss members place r))

  pub flipped_none : (n : ℕ) → EndsFlipped fs ss members 0 place (replicate n 0)
  flipped_none n p r b = rw (le-ltb r 0 (omega arith)) (bit_of-clear n (most_nodes * p + r))

  -- one member more
  pub flipped_more : (r : ℕ) (layers once twice : List ℕ) → r < most_nodes → EndsFlipped fs ss members r place layers
      → ((k : ℕ) → bit_of once k ≡ xor (bit_of layers k) (eqb k (most_nodes * (end_place fs members place r + 1) + r)))
      → ((k : ℕ) → bit_of twice k ≡ xor (bit_of once k) (eqb k (most_nodes * (end_place ss members place r + 1) + r)))
      → EndsFlipped fs ss members (r + 1) place twice
  flipped_more r layers once twice b h f g p s d =
      let first = layer-bit p s (end_place fs members place r) r d b in
      let second = layer-bit p s (end_place ss members place r) r d b in
      g (most_nodes * p + s) ∙ ap₂ xor (f (most_nodes * p + s) ∙ ap₂ xor (h p s d) first) second ∙ go (ℕ_discrete s r)
    where
      go : Dec (s ≡ r)
          → xor (xor (ltb s r && xor (first-behind p s) (second-behind p s)) (first-behind p r && eqb s r)) (second-behind p r && eqb s r)
          ≡ (ltb s (r + 1) && xor (first-behind p s) (second-behind p s))
      go (yes e) =
          rw (e, le-ltb r r (omega arith), eq-eqb r r refl, lt-ltb r (r + 1) (omega arith)) (flip_here (first-behind p r) (second-behind p r))
      go (no e) =
          rw (ne_eqb s r e, ← below_next s r e)
          (flip_elsewhere (ltb s r && xor (first-behind p s) (second-behind p s)) (first-behind p r) (second-behind p r))

-- ---- layers added up

regroup : (l x y z w : Bool) → xor (l && xor x y) (l && xor z w) ≡ (l && xor (xor x z) (xor y w))
unfolding xor
regroup = one_table 5 (λ l x y z w. xor (l && xor x y) (l && xor z w)) (λ l x y z w. l && xor (xor x z) (xor y w)) refl

module _ (nodes : ℕ) (before after : List ℕ) (h : LayersSummed nodes before after) where
  module _ (fs ss members place : List ℕ) (count : ℕ) (f : EndsFlipped fs ss members count place before) where
    abbrev a : ℕ → ℕ
    a s = end_place fs members place s

    abbrev b : ℕ → ℕ
    b s = end_place ss members place s

    pub layers-parted : EndsParted nodes fs ss members count place after
    layers-parted zero s c d =
        first-layer nodes before after h s d ∙ f 0 s d
        ∙ ap₂ (λ (x y : Bool). ltb s count && xor x y)
        (eqb-zero-suc (a s) ∙ sym (leb-suc-zero (a s))) (eqb-zero-suc (b s) ∙ sym (leb-suc-zero (b s)))
    layers-parted (suc p) s c d =
        next-layer nodes before after h p s c d ∙ ap₂ xor (f (suc p) s d) (layers-parted p s (omega arith) d) ∙ regroup (ltb s count) _ _ _ _
        ∙ ap₂ (λ (x y : Bool). ltb s count && xor x y) (turn (a s) p) (turn (b s) p)

-- ---- four layers

module _ (layers : List ℕ) (a b c d : ℕ) where
  pub odd-more : (j : ℕ)
      → count_to (word_bits * j) (oddly layers a b c d) + count_to word_bits (word_bit (odd_word layers a b c d j)) ≡ count_to (word_bits * (j + 1)) (oddly layers a b c d)
  odd-more j =
      let e : word_bits * (j + 1) ≡ word_bits * j + word_bits = omega arith in
      sym (ap (λ (n : ℕ). count_to n (oddly layers a b c d)) e ∙ sum-append (word_bits * j) word_bits (λ i. only (oddly layers a b c d i) 1)
      ∙ ap (λ (n : ℕ). count_to (word_bits * j) (oddly layers a b c d) + n)
      (sum_congr word_bits _ _ (λ r l. ap (λ (x : Bool). only x 1) (odd-bit layers a b c d j r l))))
