-- Numbers and flags written as bytes and read again, numbers read at a position, and the bits of a number in its bytes.
-- Assumes nothing.
use Prim.Native.Nat.{ℕ, zero, suc, ◌+◌, ◌*◌, ◌/◌, ◌%◌, ◌^◌, ◌<◌}
use mathlib.Core.Path.{◌≡◌, refl, sym, ap, ap₂, ◌∙◌}
use mathlib.Core.Bool.{Bool, true, false, beq}
use mathlib.Core.List.{List, [], ◌∷◌, ◌++◌, append_assoc}
use native.Mathlib.Nat.{add-zero, zero-add, suc-add, mul-add, mul_assoc, pow-suc, pow-succ'}
use native.Mathlib.Numerals.{one-add}
use native.Mathlib.Omega.{arith}
use lib.ListN.{length, get_or, drop, get_or-append}
use lib.Seq.{drop_at, get_or-drop, drop-drop, ext_get_or}
use lib.Pow.{shr-shr}
use lib.Dec.{eqb}
use Rattle.cuts.specs.Sums.{sum_to, only, all_to, table}
use Rattle.cuts.specs.Network.{flag}
use Rattle.cuts.proofs.FlagLaws.{flags_equal, one_table}
use Rattle.cuts.proofs.SumLaws.{sum_congr, all_to-at, table_at, table-length}
use Rattle.sheet.specs.Bytes.{Bytes, number, bytes_of, fields, field_bytes, bit, map_bit, byte_of}

-- ---- numbers

pub bytes_of-length : (w v : ℕ) → length (bytes_of w v) ≡ w
unfolding bytes_of
bytes_of-length zero v = refl
bytes_of-length (suc w) v = ap suc (bytes_of-length w (v / 256))

pub number-bytes_of : (w v : ℕ) (rest : Bytes) → v < 256 ^ w → number w (bytes_of w v ++ rest) ≡ v
unfolding number bytes_of
number-bytes_of zero v rest h = omega arith
number-bytes_of (suc w) v rest h = let r = number-bytes_of w (v / 256) rest (omega arith) in omega arith

number-add : (v w : ℕ) (bs : Bytes) → number (v + w) bs ≡ number v bs + 256 ^ v * number w (drop v bs)
unfolding number
number-add zero w bs = rw (zero-add w) (omega arith)
number-add (suc v) w bs = rw (suc-add, number-add v w (drop 1 bs), pow-succ', mul_assoc, drop-drop, one-add) (omega arith)

pub front-drop : (at : ℕ) (bs : Bytes) → get_or (drop at bs) 0 0 ≡ get_or bs at 0
front-drop at bs = rw (get_or-drop, add-zero)

pub number-one : (at : ℕ) (bs : Bytes) → number 1 (drop at bs) ≡ get_or bs at 0
unfolding number
number-one at bs = rw (front-drop at bs) (omega arith)

pub number-two : (at : ℕ) (bs : Bytes) → number 2 (drop at bs) ≡ get_or bs at 0 + 256 * get_or bs (at + 1) 0
number-two at bs = rw (number-add 1 1 (drop at bs), number-one at bs, drop-drop 1 at bs, number-one (at + 1) bs)

pub number_halves : (w x at : ℕ) (bs : Bytes) → number (w + x) (drop at bs) ≡ number w (drop at bs) + 256 ^ w * number x (drop (at + w) bs)
number_halves w x at bs = rw (number-add w x (drop at bs), drop-drop w at bs)

-- each number fits its width
abbrev pub Fitting : List ℕ → List ℕ → Type 0
Fitting [] [] = Unit {0}
Fitting [] (v ∷ vs) = ⊥
Fitting (w ∷ ws) [] = ⊥
Fitting (w ∷ ws) (v ∷ vs) = (v < 256 ^ w) × Fitting ws vs

pub fields-field_bytes : (ws vs : List ℕ) (rest : Bytes) → Fitting ws vs → fields ws (field_bytes ws vs ++ rest) ≡ vs
unfolding fields field_bytes
fields-field_bytes [] [] rest h = refl
fields-field_bytes [] (v ∷ vs) rest h = absurd h
fields-field_bytes (w ∷ ws) [] rest h = absurd h
fields-field_bytes (w ∷ ws) (v ∷ vs) rest h =
    rw append_assoc (ap₂ ◌∷◌ (number-bytes_of w v (field_bytes ws vs ++ rest) h.0)
    (ap (fields ws) (drop_at (bytes_of w v) (field_bytes ws vs ++ rest) w (bytes_of-length w v)) ∙ fields-field_bytes ws vs rest h.1))

-- ---- flags

-- a flag that is a digit
pub only-digit : (w x : ℕ) → only (eqb (x % 2) 1) w ≡ w * (x % 2)
only-digit w x = step (x % 2) (omega arith)
  where
    step : (b : ℕ) → b < 2 → only (eqb b 1) w ≡ w * b
    step zero h = omega arith
    step (suc zero) h = omega arith
    step (suc (suc b)) h = absurd (omega arith)

-- each bit of the byte of eight flags is its flag
abbrev reads_back : List Bool → Bool
reads_back fs = all_to 8 (λ r. beq (bit (byte_of (flag fs)) r) (flag fs r))

eight : (a b c d e f g h : Bool) → reads_back (a ∷ b ∷ c ∷ d ∷ e ∷ f ∷ g ∷ h ∷ []) ≡ true
unfolding all_to byte_of
eight = one_table 8 (λ a b c d e f g h. reads_back (a ∷ b ∷ c ∷ d ∷ e ∷ f ∷ g ∷ h ∷ [])) (λ a b c d e f g h. true) refl

pub bit-byte_of : (f : ℕ → Bool) (r : ℕ) → r < 8 → bit (byte_of f) r ≡ f r
unfolding byte_of table
bit-byte_of f r b =
    flags_equal (bit (byte_of f) r) (flag (table 8 f) r) (all_to-at 8 (λ i. beq (bit (byte_of f) i) (flag (table 8 f) i)) (eight (f 0) (f 1) (f 2) (f 3) (f 4) (f 5) (f 6) (f 7)) r b)
    ∙ table_at false 8 f r b

-- a map of n bytes that holds the flags f
pub map_bit-table : (n : ℕ) (f : ℕ → Bool) (rest : Bytes) (k : ℕ) → k < 8 * n → map_bit (table n (λ j. byte_of (λ i. f (8 * j + i))) ++ rest) k ≡ f k
map_bit-table n f rest k b =
    ap (λ (x : ℕ). bit x (k % 8)) (get_or-append (table n byte) rest 0 (k / 8) (let e = table-length n byte in omega arith) ∙ table_at 0 n byte (k / 8) (omega arith))
    ∙ bit-byte_of (λ i. f (8 * (k / 8) + i)) (k % 8) (omega arith)
    ∙ ap f (let e : 8 * (k / 8) + k % 8 ≡ k = omega arith in e)
  where
    byte : ℕ → ℕ
    byte j = byte_of (λ i. f (8 * j + i))

-- ---- the bits of a number, byte by byte

pub byte_of_congr : (f g : ℕ → Bool) → ((i : ℕ) → i < 8 → f i ≡ g i) → byte_of f ≡ byte_of g
unfolding byte_of
byte_of_congr f g h = sum_congr 8 _ _ (λ i b. ap (λ (c : Bool). only c (2 ^ i)) (h i b))

-- a number is the sum of its lowest bits and of what is above them
sum_bits : (n v : ℕ) → sum_to n (λ i. only (bit v i) (2 ^ i)) + 2 ^ n * (v / 2 ^ n) ≡ v
unfolding sum_to
sum_bits zero v = omega arith
sum_bits (suc n) v =
    let digit = only-digit (2 ^ n) (v / 2 ^ n) in
    let rest = sum_bits n v in
    let next : n + 1 ≡ suc n = omega arith in
    let x : ℕ = v / 2 ^ n in
    let above : v / 2 ^ suc n ≡ x / 2 = sym (shr-shr v n 1 ∙ ap (λ (k : ℕ). v / 2 ^ k) next) in
    let split : 2 ^ n * x ≡ 2 ^ n * (x % 2) + 2 ^ n * (2 * (x / 2)) = ap (λ (y : ℕ). 2 ^ n * y) (omega arith) ∙ mul-add (2 ^ n) (x % 2) (2 * (x / 2)) in
    let power : 2 ^ suc n * (v / 2 ^ suc n) ≡ 2 ^ n * (2 * (x / 2)) = ap₂ ◌*◌ (pow-suc 2 n) above ∙ mul_assoc (2 ^ n) 2 (x / 2) in
    omega arith

byte_of_bits : (v : ℕ) → byte_of (λ i. bit v i) ≡ v % 256
unfolding byte_of
byte_of_bits v = let s = sum_bits 8 v in omega arith

byte_at : (n v k : ℕ) → k < n → get_or (bytes_of n v) k 0 ≡ v / 2 ^ (8 * k) % 256
unfolding bytes_of
byte_at zero v k b = absurd (omega arith)
byte_at (suc n) v zero b = omega arith
byte_at (suc n) v (suc k) b =
    let e : 8 + 8 * k ≡ 8 * suc k = omega arith in
    byte_at n (v / 256) k (omega arith) ∙ ap (λ (x : ℕ). x % 256) (shr-shr v 8 (8 * k) ∙ ap (λ (x : ℕ). v / 2 ^ x) e)

pub bytes_of_bits : (n v : ℕ) → bytes_of n v ≡ table n (λ k. byte_of (λ i. bit v (8 * k + i)))
bytes_of_bits n v =
    ext_get_or 0 (bytes_of n v) (table n byte) (bytes_of-length n v ∙ sym (table-length n byte))
    (λ k b. let c : k < n = let l = bytes_of-length n v in omega arith in
    byte_at n v k c ∙ sym (byte_of_bits (v / 2 ^ (8 * k)))
    ∙ byte_of_congr _ _ (λ i d. ap (λ (x : ℕ). eqb (x % 2) 1) (shr-shr v (8 * k) i)) ∙ sym (table_at 0 n byte k c))
  where
    byte : ℕ → ℕ
    byte k = byte_of (λ i. bit v (8 * k + i))
