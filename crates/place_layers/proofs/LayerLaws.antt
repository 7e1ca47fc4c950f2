-- Layers of bits: a bit turned over behind a place, layers added up from the first on, and the bits that are set in an odd number of four layers, a
-- word at a time.
-- Assumes nothing.
use Prim.Native.Nat.{ℕ, suc, ◌+◌, ◌-◌, ◌*◌, ◌/◌, ◌%◌, ◌≤◌, ◌<◌}
use mathlib.Core.Path.{◌≡◌, sym, ap, ap₂, ◌∙◌}
use mathlib.Core.Bool.{Bool, false, ◌&&◌, xor}
use mathlib.Core.List.{List}
use native.Mathlib.Decide.{dec_lt, ℕ_discrete}
use native.Mathlib.Omega.{arith}
use lib.ListN.{length, replicate, length-replicate}
use lib.Dec.{eqb, ltb, eqb-suc-suc}
use borrow.Author.Tests.{eq-eqb, ne_eqb, lt-ltb, le-ltb}
use Rattle.cuts.specs.Limits.{most_nodes}
use Rattle.arrays.specs.Lists.{entry}
use Rattle.bit_table.specs.Bits.{word_bits, word_bit, bit_of}
use Rattle.bit_table.proofs.BitLaws.{word_bit-xor}
use Rattle.place_layers.specs.Layers.{layer_words, layers_length, layer_bit, LayersSummed, oddly, odd_word}

-- ---- the layer behind a place

-- bit r of the layer behind the place a
pub layer-bit : (p s a r : ℕ) → s < most_nodes → r < most_nodes → eqb (most_nodes * p + s) (most_nodes * (a + 1) + r) ≡ (eqb p (suc a) && eqb s r)
layer-bit p s a r b d = go (ℕ_discrete p (suc a)) (ℕ_discrete s r)
  where
    unlike : (most_nodes * p + s ≡ most_nodes * (a + 1) + r → ⊥) → eqb (most_nodes * p + s) (most_nodes * (a + 1) + r) ≡ false
    unlike = ne_eqb (most_nodes * p + s) (most_nodes * (a + 1) + r)

    go : Dec (p ≡ suc a) → Dec (s ≡ r) → eqb (most_nodes * p + s) (most_nodes * (a + 1) + r) ≡ (eqb p (suc a) && eqb s r)
    go (yes e) (yes f) = eq-eqb (most_nodes * p + s) (most_nodes * (a + 1) + r) (omega arith) ∙ sym (ap₂ ◌&&◌ (eq-eqb p (suc a) e) (eq-eqb s r f))
    go (yes e) (no f) = unlike (λ q. f (omega arith)) ∙ sym (ap₂ ◌&&◌ (eq-eqb p (suc a) e) (ne_eqb s r f))
    go (no e) f = unlike (λ q. e (omega arith)) ∙ sym (ap (λ (x : Bool). x && eqb s r) (ne_eqb p (suc a) e))

-- a number other than r is below r + 1 where it is below r
pub below_next : (s r : ℕ) → (s ≡ r → ⊥) → ltb s r ≡ ltb s (r + 1)
below_next s r d = go (dec_lt s r)
  where
    go : Dec (s < r) → ltb s r ≡ ltb s (r + 1)
    go (yes b) = lt-ltb s r b ∙ sym (lt-ltb s (r + 1) (omega arith))
    go (no b) = le-ltb s r (omega arith) ∙ sym (le-ltb s (r + 1) (omega arith))

-- ---- layers added up

-- the place a is before suc p where it is p, or before p
pub turn : (a p : ℕ) → xor (eqb (suc p) (suc a)) (ltb a p) ≡ ltb a (suc p)
unfolding xor
turn a p = ap (λ (x : Bool). xor x (ltb a p)) (eqb-suc-suc p a) ∙ go (ℕ_discrete p a) (dec_lt a p)
  where
    go : Dec (p ≡ a) → Dec (a < p) → xor (eqb p a) (ltb a p) ≡ ltb a (suc p)
    go (yes e) l = rw (eq-eqb p a e, le-ltb a p (omega arith), lt-ltb a (suc p) (omega arith))
    go (no e) (yes l) = rw (ne_eqb p a e, lt-ltb a p l, lt-ltb a (suc p) (omega arith))
    go (no e) (no l) = rw (ne_eqb p a e, le-ltb a p (omega arith), le-ltb a (suc p) (omega arith))

-- clear layers
pub clear-length : {layers : List ℕ} → layers ≡ replicate layers_length 0 → length layers ≡ layers_length
clear-length e = ap (λ (l : List ℕ). length l) e ∙ length-replicate {A = ℕ} layers_length 0

module _ (last : ℕ) (before after : List ℕ) (h : LayersSummed last before after) where
  pub first-layer : (s : ℕ) → s < most_nodes → layer_bit after 0 s ≡ layer_bit before 0 s
  unfolding bit_of
  first-layer s b = ap (λ (x : ℕ). word_bit x ((most_nodes * 0 + s) % word_bits)) (h.first ((most_nodes * 0 + s) / word_bits) (omega arith))

  pub next-layer : (p s : ℕ) → suc p ≤ last → s < most_nodes → layer_bit after (suc p) s ≡ xor (layer_bit before (suc p) s) (layer_bit after p s)
  unfolding bit_of
  next-layer p s b d =
      let q : (most_nodes * suc p + s) / word_bits - layer_words ≡ (most_nodes * p + s) / word_bits = omega arith in
      let m : (most_nodes * suc p + s) % word_bits ≡ (most_nodes * p + s) % word_bits = omega arith in
      ap (λ (x : ℕ). word_bit x ((most_nodes * suc p + s) % word_bits)) (h.next ((most_nodes * suc p + s) / word_bits) (omega arith) (omega arith))
      ∙ word_bit-xor _ _ ((most_nodes * suc p + s) % word_bits)
      ∙ ap (xor (layer_bit before (suc p) s)) (ap₂ (λ (i j : ℕ). word_bit (entry after i) j) q m)

-- ---- four layers

layer-word : (layers : List ℕ) (p j r : ℕ) → r < word_bits → layer_bit layers p (word_bits * j + r) ≡ word_bit (entry layers (layer_words * p + j)) r
unfolding bit_of
layer-word layers p j r b =
    let q : (most_nodes * p + (word_bits * j + r)) / word_bits ≡ layer_words * p + j = omega arith in
    let m : (most_nodes * p + (word_bits * j + r)) % word_bits ≡ r = omega arith in
    ap₂ (λ (i k : ℕ). word_bit (entry layers i) k) q m

pub odd-bit : (layers : List ℕ) (a b c d j r : ℕ) → r < word_bits → oddly layers a b c d (word_bits * j + r) ≡ word_bit (odd_word layers a b c d j) r
odd-bit layers a b c d j r l =
    ap₂ xor (ap₂ xor (layer-word layers a j r l) (layer-word layers b j r l)) (ap₂ xor (layer-word layers c j r l) (layer-word layers d j r l))
    ∙ sym (word_bit-xor _ _ r ∙ ap₂ xor (word_bit-xor _ _ r) (word_bit-xor _ _ r))
