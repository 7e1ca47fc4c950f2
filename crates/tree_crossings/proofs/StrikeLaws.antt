-- Striking out the cells that pass a test, from one set bit to the next.
-- Assumes nothing.
use Prim.Native.Nat.{ℕ, ◌+◌, ◌≤◌, ◌<◌}
use mathlib.Core.Path.{◌≡◌, refl, sym, ap, ◌∙◌}
use mathlib.Core.Bool.{Bool, true, false, ◌&&◌, not, xor, and-true, and-false}
use mathlib.Core.List.{List}
use native.Mathlib.Decide.{dec_lt, ℕ_discrete}
use native.Mathlib.Omega.{arith}
use lib.Dec.{eqb, ltb}
use borrow.Author.Tests.{eq-eqb, ne_eqb, lt-ltb, le-ltb}
use Rattle.cuts.proofs.FlagLaws.{xor-false, xor_self}
use Rattle.bit_table.specs.Bits.{bit_of, BitsClear}
use Rattle.place_layers.proofs.LayerLaws.{below_next}

module _ (light : ℕ → Bool) (before : List ℕ) where
  -- the cells in front of q that pass the test are struck out
  abbrev pub StruckTo : ℕ → List ℕ → Type 0
  StruckTo q now = (k : ℕ) → bit_of now k ≡ (bit_of before k && not (ltb k q && light k))

  pub struck-none : StruckTo 0 before
  struck-none k = rw (le-ltb k 0 (omega arith)) (sym (and-true (bit_of before k)))

  -- on to the next set bit
  pub skipped : (from q : ℕ) (now : List ℕ) → StruckTo from now → from ≤ q → BitsClear now from q → StruckTo q now
  skipped from q now h l n k = go (dec_lt k from) (dec_lt k q)
    where
      go : Dec (k < from) → Dec (k < q) → bit_of now k ≡ (bit_of before k && not (ltb k q && light k))
      go (yes b) (yes d) = h k ∙ ap (λ (x : Bool). bit_of before k && not (x && light k)) (lt-ltb k from b ∙ sym (lt-ltb k q d))
      go (yes b) (no d) = absurd (omega arith)
      go (no b) (yes d) =
          let z = n k (omega arith) d in
          let off : (bit_of before k && not (ltb k from && light k)) ≡ (bit_of before k && true)
          = ap (λ (x : Bool). bit_of before k && not (x && light k)) (le-ltb k from (omega arith)) in
          let u : bit_of before k ≡ false = sym (and-true (bit_of before k)) ∙ sym off ∙ sym (h k) ∙ z in
          rw (z, u)
      go (no b) (no d) =
          h k ∙ ap (λ (x : Bool). bit_of before k && not (x && light k)) (le-ltb k from (omega arith) ∙ sym (le-ltb k q (omega arith)))

  module _ (q : ℕ) (now : List ℕ) (h : StruckTo q now) where
    -- the bits other than q
    others : (k : ℕ) → (k ≡ q → ⊥) → (bit_of before k && not (ltb k q && light k)) ≡ (bit_of before k && not (ltb k (q + 1) && light k))
    others k d = ap (λ (x : Bool). bit_of before k && not (x && light k)) (below_next k q d)

    pub kept-one : light q ≡ false → StruckTo (q + 1) now
    kept-one z k = h k ∙ go (ℕ_discrete k q)
      where
        go : Dec (k ≡ q) → (bit_of before k && not (ltb k q && light k)) ≡ (bit_of before k && not (ltb k (q + 1) && light k))
        go (yes e) = rw (e, z, le-ltb q q (omega arith), lt-ltb q (q + 1) (omega arith))
        go (no d) = others k d

    pub struck-one : (next : List ℕ) → light q ≡ true → bit_of now q ≡ true → ((k : ℕ) → bit_of next k ≡ xor (bit_of now k) (eqb k q))
        → StruckTo (q + 1) next
    struck-one next z s f k = f k ∙ go (ℕ_discrete k q)
      where
        go : Dec (k ≡ q) → xor (bit_of now k) (eqb k q) ≡ (bit_of before k && not (ltb k (q + 1) && light k))
        go (yes e) = rw (e, z, s, eq-eqb q q refl, lt-ltb q (q + 1) (omega arith)) (xor_self true ∙ sym (and-false (bit_of before q)))
        go (no d) = rw (ne_eqb k q d) (xor-false (bit_of now k) ∙ h k ∙ others k d)
