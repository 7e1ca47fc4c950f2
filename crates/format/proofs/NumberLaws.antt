-- Numbers as the language reads and writes their bytes are those of the definitions. Assumes nothing.
use Prim.Native.Nat.{ℕ, zero, suc, ◌+◌, ◌-◌, ◌*◌, ◌/◌, ◌%◌}
use mathlib.Core.Path.{◌≡◌, refl, ap}
use mathlib.Core.List.{[], ◌∷◌, ◌++◌, append_assoc}
use native.Mathlib.Nat.{add_assoc, add-zero}
use native.Mathlib.Omega.{arith}
use lib.ListN.{get_or, take, drop}
use lib.Seq.{get_or-drop, drop-drop}
use Rattle.sheet.specs.Bytes.{Bytes, number, bytes_of}

-- ---- read

-- the first w bytes are enough
number-take : (w : ℕ) (bs : Bytes) → number w (take w bs) ≡ number w bs
unfolding number
number-take zero bs = refl
number-take (suc w) [] = refl
number-take (suc w) (b ∷ bs) = ap (λ (n : ℕ). b + 256 * n) (number-take w bs)

pub number-taken : (w at : ℕ) (s : Bytes) → number w (take (at + w - at) (drop at s)) ≡ number w (drop at s)
number-taken w at s = let e : at + w - at ≡ w = omega arith in rw e (number-take w (drop at s))

pub number-four : (at : ℕ) (s : Bytes)
    → get_or s at 0 + get_or s (at + 1) 0 * 256 + get_or s (at + 2) 0 * 65536 + get_or s (at + 3) 0 * 16777216 ≡ number 4 (drop at s)
unfolding number
number-four at s = simp (drop-drop, get_or-drop, add_assoc, add-zero) (omega arith)

pub number-eight : (bs : Bytes)
    → get_or bs 0 0 + get_or bs 1 0 * 256 + get_or bs 2 0 * 65536 + get_or bs 3 0 * 16777216 + get_or bs 4 0 * 4294967296
    + get_or bs 5 0 * 1099511627776 + get_or bs 6 0 * 281474976710656 + get_or bs 7 0 * 72057594037927936
    ≡ number 8 bs
unfolding number
number-eight bs = simp (drop-drop, get_or-drop) (omega arith)

-- ---- written

pub two-bytes : (v : ℕ) → v % 256 ∷ v / 256 % 256 ∷ [] ≡ bytes_of 2 v
unfolding bytes_of
two-bytes v = refl

pub four-bytes : (v : ℕ) → v % 256 ∷ v / 256 % 256 ∷ v / 65536 % 256 ∷ v / 16777216 % 256 ∷ [] ≡ bytes_of 4 v
unfolding bytes_of
four-bytes v =
    let c : v / 65536 ≡ v / 256 / 256 = omega arith in
    let d : v / 16777216 ≡ v / 65536 / 256 = omega arith in
    rw (d, c)

pub eight-bytes : (v : ℕ) → v % 256 ∷ v / 256 % 256 ∷ v / 65536 % 256 ∷ v / 16777216 % 256 ∷ v / 4294967296 % 256 ∷ v / 1099511627776 % 256
    ∷ v / 281474976710656 % 256 ∷ v / 72057594037927936 % 256 ∷ []
    ≡ bytes_of 8 v
unfolding bytes_of
eight-bytes v =
    let c : v / 65536 ≡ v / 256 / 256 = omega arith in
    let d : v / 16777216 ≡ v / 65536 / 256 = omega arith in
    let e : v / 4294967296 ≡ v / 16777216 / 256 = omega arith in
    let f : v / 1099511627776 ≡ v / 4294967296 / 256 = omega arith in
    let g : v / 281474976710656 ≡ v / 1099511627776 / 256 = omega arith in
    let h : v / 72057594037927936 ≡ v / 281474976710656 / 256 = omega arith in
    rw (h, g, f, e, d, c)

-- the bytes of a number, written over a part of an area
pub written-over : (at w v : ℕ) {new bs : Bytes} (old : Bytes) → new ≡ bs → bs ≡ bytes_of w v
    → take at old ++ (new ++ drop (at + w - at) (drop at old)) ≡ take at old ++ bytes_of w v ++ drop (at + w) old
written-over at w v old p q =
    let e : at + w - at ≡ w = omega arith in
    rw (p, q, e, drop-drop w at old, append_assoc)
