-- The bits of a word: of two words joined by `|` and by `^`, of a power of two, those at the low end of a word that is not 0, and how many
-- there are; and the bits of a list of words, after one word is written too.
-- Assumes nothing.
use Prim.Native.Nat.{ℕ, zero, suc, max, ◌+◌, ◌-◌, ◌*◌, ◌/◌, ◌%◌, ◌^◌, ◌≤◌, ◌<◌}
use mathlib.Core.Path.{◌≡◌, refl, sym, ap, ◌∙◌}
use mathlib.Core.Bool.{Bool, true, false, ◌||◌, xor}
use mathlib.Core.List.{List}
use native.Mathlib.Nat.{div-eq_of_lt}
use native.Mathlib.Decide.{dec_lt, ℕ_discrete}
use native.Mathlib.Omega.{arith}
use lib.ListN.{length, set, replicate, length-replicate, get_or-replicate, get_or-eq_default}
use lib.Seq.{get_or-set_same, get_or-set_other}
use lib.Pow.{pow_mono, shr-shr, shr_le, shl_exact}
use lib.Bits.{bit_or, bit_xor}
use lib.Count.{count_trailing_zeros, ones, ones_step, ones-ones}
use lib.Dec.{eqb}
use Rattle.std.specs.Int.{bit_at, w64}
use Rattle.std.proofs.lemmas.Nat.Bits.{bit_at_or, bit_at_xor, bit_at-lt, bit_at-pow_same, bit_at-pow_other, bit_at-trailing_zeros}
use Rattle.std.proofs.lemmas.Bool.Decides.{nat_tests}
use borrow.Author.Tests.{eq-eqb, ne_eqb}
use Rattle.cuts.specs.Sums.{sum_to, count_to}
use Rattle.cuts.proofs.FlagLaws.{clash}
use Rattle.sheet.proofs.ByteLaws.{only-digit}
use Rattle.arrays.specs.Lists.{entry}
use Rattle.bit_table.specs.Bits.{word_bits, word_bit, bit_of}

-- ---- the bits of a word

pub word_bit-or : (a b k : ℕ) → word_bit (bit_or a b) k ≡ (word_bit a k || word_bit b k)
word_bit-or a b k = rw (bit_at_or a b k) (digits (bit_at a k) (bit_at b k) (bit_at-lt a k) (bit_at-lt b k))
  where
    digits : (x y : ℕ) → x < 2 → y < 2 → eqb (max x y) 1 ≡ (eqb x 1 || eqb y 1)
    digits x y p q = grind (arith, nat_tests)

pub word_bit-xor : (a b k : ℕ) → word_bit (bit_xor a b) k ≡ xor (word_bit a k) (word_bit b k)
unfolding xor
word_bit-xor a b k = rw (bit_at_xor a b k) (digits (bit_at a k) (bit_at b k) (bit_at-lt a k) (bit_at-lt b k))
  where
    digits : (x y : ℕ) → x < 2 → y < 2 → eqb ((x + y) % 2) 1 ≡ xor (eqb x 1) (eqb y 1)
    digits x y p q = grind (arith, nat_tests)

-- the bits from r on
pub word_bit-shift : (w r d : ℕ) → word_bit (w / 2 ^ r) d ≡ word_bit w (r + d)
word_bit-shift w r d = ap (λ (x : ℕ). eqb (x % 2) 1) (shr-shr w r d)

-- no bit of a number stands where the number is no longer
pub word_bit_past : (w n k : ℕ) → w < 2 ^ n → n ≤ k → word_bit w k ≡ false
word_bit_past w n k h l =
    let m = pow_mono l in
    let e : w / 2 ^ k ≡ 0 = div-eq_of_lt (omega arith) in
    rw e

pub word_bit_power : (j k : ℕ) → word_bit (2 ^ j) k ≡ eqb k j
word_bit_power j k = go (ℕ_discrete k j)
  where
    go : Dec (k ≡ j) → word_bit (2 ^ j) k ≡ eqb k j
    go (yes e) = rw (e, bit_at-pow_same j, eq-eqb j j refl)
    go (no d) = rw (bit_at-pow_other j k d, ne_eqb k j d)

-- what `1 << r` is
pub word_bit-one : (r k : ℕ) → r < word_bits → word_bit (1 * 2 ^ r % 2 ^ word_bits) k ≡ eqb k r
word_bit-one r k h =
    let one : 1 * 2 ^ r ≡ 2 ^ r = omega arith in
    ap (λ (w : ℕ). word_bit w k) (shl_exact {a = 1} 1 r word_bits (omega arith) (omega arith) ∙ one) ∙ word_bit_power r k

-- ---- a list of words

-- the bits of the words, where word q / 64 is written anew and bit q mod 64 is the only one of it that may change
pub bit_of-set : (f : Bool → Bool → Bool) → ((b : Bool) → f b false ≡ b) → (words : List ℕ) (q w : ℕ) → q < word_bits * length words
    → ((j : ℕ) → word_bit w j ≡ f (word_bit (entry words (q / word_bits)) j) (eqb j (q % word_bits)))
    → (k : ℕ) → bit_of (set words (q / word_bits) w) k ≡ f (bit_of words k) (eqb k q)
unfolding bit_of
bit_of-set f keeps words q w inside is k = go (ℕ_discrete (k / word_bits) (q / word_bits))
  where
    same : k / word_bits ≡ q / word_bits → Dec (k % word_bits ≡ q % word_bits) → eqb (k % word_bits) (q % word_bits) ≡ eqb k q
    same e (yes r) = eq-eqb (k % word_bits) (q % word_bits) r ∙ sym (eq-eqb k q (omega arith))
    same e (no r) = ne_eqb (k % word_bits) (q % word_bits) r ∙ sym (ne_eqb k q (λ z. r (omega arith)))

    go : Dec (k / word_bits ≡ q / word_bits)
        → word_bit (entry (set words (q / word_bits) w) (k / word_bits)) (k % word_bits) ≡ f (word_bit (entry words (k / word_bits)) (k % word_bits)) (eqb k q)
    go (yes e) =
        rw e (ap (λ (x : ℕ). word_bit x (k % word_bits)) (get_or-set_same words (q / word_bits) w 0 (omega arith)) ∙ is (k % word_bits)
        ∙ ap (f (word_bit (entry words (q / word_bits)) (k % word_bits))) (same e (ℕ_discrete (k % word_bits) (q % word_bits))))
    go (no e) =
        ap (λ (x : ℕ). word_bit x (k % word_bits)) (get_or-set_other words (q / word_bits) (k / word_bits) w 0 e)
        ∙ sym (keeps (word_bit (entry words (k / word_bits)) (k % word_bits)))
        ∙ ap (f (word_bit (entry words (k / word_bits)) (k % word_bits))) (sym (ne_eqb k q (λ z. e (omega arith))))

-- the bits from q on in its word, and how many of them are unset in front of the first that is set
abbrev pub ahead : List ℕ → ℕ → ℕ
ahead words q = entry words (q / word_bits) / 2 ^ (q % word_bits)

abbrev pub zeros : List ℕ → ℕ → ℕ
zeros words q = count_trailing_zeros word_bits (ahead words q)

module _ (words : List ℕ) (q : ℕ) where
  bit_of-ahead : (d : ℕ) → q % word_bits + d < word_bits → bit_of words (q + d) ≡ word_bit (ahead words q) d
  unfolding bit_of
  bit_of-ahead d b =
      let e : (q + d) / word_bits ≡ q / word_bits = omega arith in
      let f : (q + d) % word_bits ≡ q % word_bits + d = omega arith in
      rw (e, f) (sym (word_bit-shift (entry words (q / word_bits)) (q % word_bits) d))

  ahead-at : (k : ℕ) → q ≤ k → q % word_bits + (k - q) < word_bits → bit_of words k ≡ word_bit (ahead words q) (k - q)
  ahead-at k l b = let e : q + (k - q) ≡ k = omega arith in ap (bit_of words) (sym e) ∙ bit_of-ahead (k - q) b

  pub none_ahead : ahead words q ≡ 0 → (k : ℕ) → q ≤ k → k < q + (word_bits - q % word_bits) → bit_of words k ≡ false
  none_ahead e k l b =
      ahead-at k l (omega arith) ∙ ap (λ (x : ℕ). word_bit x (k - q)) e ∙ word_bit_past 0 0 (k - q) (omega arith) (omega arith)

  module _ (small : entry words (q / word_bits) < 2 ^ word_bits) (some : ahead words q ≡ 0 → ⊥) where
    lowest : (bit_at (ahead words q) (zeros words q) ≡ 1) × ((i : ℕ) → i < zeros words q → bit_at (ahead words q) i ≡ 0)
    lowest =
        let l = shr_le (entry words (q / word_bits)) (q % word_bits) in
        let z = bit_at-trailing_zeros w64 (ahead words q) (omega arith) (omega arith) in
        (z.1, z.2)

    first-set : word_bit (ahead words q) (zeros words q) ≡ true
    first-set = rw lowest.0

    pub first-inside : q % word_bits + zeros words q < word_bits
    first-inside = go (dec_lt (q % word_bits + zeros words q) word_bits)
      where
        go : Dec (q % word_bits + zeros words q < word_bits) → q % word_bits + zeros words q < word_bits
        go (yes b) = b
        go (no b) =
            clash first-set (word_bit-shift (entry words (q / word_bits)) (q % word_bits) (zeros words q)
            ∙ word_bit_past (entry words (q / word_bits)) word_bits (q % word_bits + zeros words q) small (omega arith))

    pub first-ahead : bit_of words (q + zeros words q) ≡ true
    first-ahead = bit_of-ahead _ first-inside ∙ first-set

    pub none-before_first : (k : ℕ) → q ≤ k → k < q + zeros words q → bit_of words k ≡ false
    none-before_first k l b =
        let i = first-inside in
        ahead-at k l (omega arith) ∙ rw (lowest.1 (k - q) (omega arith))

-- no bit of a word that is 0 is set
pub bit_of-none : (words : List ℕ) (k : ℕ) → entry words (k / word_bits) ≡ 0 → bit_of words k ≡ false
unfolding bit_of
bit_of-none words k e = ap (λ (x : ℕ). word_bit x (k % word_bits)) e ∙ word_bit_past 0 0 (k % word_bits) (omega arith) (omega arith)

-- no bit of words that are 0 is set
pub bit_of-clear : (n k : ℕ) → bit_of (replicate n 0) k ≡ false
bit_of-clear n k = bit_of-none (replicate n 0) k (word (dec_lt (k / word_bits) n))
  where
    word : Dec (k / word_bits < n) → entry (replicate n 0) (k / word_bits) ≡ 0
    word (yes b) = get_or-replicate n (k / word_bits) 0 0 b
    word (no b) = get_or-eq_default (replicate n 0) 0 {n = k / word_bits} (let l = length-replicate {A = ℕ} n 0 in omega arith)

-- ---- counting

-- the ones of a word are its set bits below n, and the ones from n up
ones_above : (w n : ℕ) → count_to n (word_bit w) + ones (w / 2 ^ n) ≡ ones w
unfolding sum_to
ones_above w zero = let e : w / 2 ^ 0 ≡ w = omega arith in rw e (omega arith)
ones_above w (suc n) =
    let digit = only-digit 1 (w / 2 ^ n) in
    let step = ones_step (w / 2 ^ n) in
    let above = ap ones (shr-shr w n 1) in
    let next : n + 1 ≡ suc n = omega arith in
    let rest = ones_above w n in
    rw (← next) (omega arith)

pub ones_count : (n w : ℕ) → w < 2 ^ n → ones w ≡ count_to n (word_bit w)
ones_count n w h =
    let e : w / 2 ^ n ≡ 0 = div-eq_of_lt h in
    let z : ones (w / 2 ^ n) ≡ 0 = ap ones e ∙ ones-ones 0 in
    let s = ones_above w n in
    omega arith
