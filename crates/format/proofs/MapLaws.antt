-- Link maps, a byte and a bit at a time: the ones of a byte are its set bits, and a test or a list goes on with one bit more.
-- Assumes nothing.
use Prim.Native.Nat.{ℕ, zero, suc, ◌+◌, ◌-◌, ◌*◌, ◌/◌, ◌%◌, ◌^◌, ◌≤◌, ◌<◌}
use mathlib.Core.Path.{◌≡◌, refl, sym, ap, ◌∙◌}
use mathlib.Core.Logic.{◌⊎◌, inl, inr}
use mathlib.Core.Bool.{Bool, true, false, ◌&&◌, and-eq-true_iff}
use mathlib.Core.List.{List, append-nil}
use native.Mathlib.Decide.{dec_le}
use native.Mathlib.Omega.{arith}
use native.Mathlib.Numerals.{add-one}
use lib.Count.{ones, ones_step, ones-ones}
use lib.Pow.{shr-shr}
use lib.ListN.{length, get_or, take, set}
use lib.Seq.{take-length, take-suc-set, take-set-le}
use lib.Dec.{leb}
use borrow.Author.Tests.{leb-true, le-leb}
use Rattle.std.specs.List.{sum_by, list_any, range_with_len}
use Rattle.std.proofs.lemmas.List.Folds.{list_any_more}
use Rattle.std.proofs.lemmas.List.FromFn.{length-range_with_len, get_or-range_with_len}
use Rattle.std.proofs.lemmas.List.Sums.{sum_by_more}
use Rattle.cuts.specs.Sums.{sum_to, only, count_to, any_to, select}
use Rattle.cuts.proofs.FlagLaws.{truth}
use Rattle.cuts.proofs.SumLaws.{any_to-some}
use Rattle.sheet.specs.Bytes.{Bytes, bit, map_bit}
use Rattle.sheet.proofs.ByteLaws.{only-digit}

-- ---- counting

-- the ones from digit i up are that digit and the ones above it
ones_from : (b i : ℕ) → ones (b / 2 ^ i) ≡ only (bit b i) 1 + ones (b / 2 ^ (i + 1))
ones_from b i =
    let digit = only-digit 1 (b / 2 ^ i) in
    let step = ones_step (b / 2 ^ i) in
    let above = ap ones (shr-shr b i 1) in
    omega arith

chain : (o0 o1 o2 o3 o4 o5 o6 o7 o8 d0 d1 d2 d3 d4 d5 d6 d7 c : ℕ)
    → o0 ≡ d0 + o1 → o1 ≡ d1 + o2 → o2 ≡ d2 + o3 → o3 ≡ d3 + o4 → o4 ≡ d4 + o5 → o5 ≡ d5 + o6 → o6 ≡ d6 + o7 → o7 ≡ d7 + o8 → o8 ≡ 0
    → c + o0 ≡ c + d0 + d1 + d2 + d3 + d4 + d5 + d6 + d7
chain o0 o1 o2 o3 o4 o5 o6 o7 o8 d0 d1 d2 d3 d4 d5 d6 d7 c e0 e1 e2 e3 e4 e5 e6 e7 z = omega arith

map_bit-byte : (map : Bytes) (i r k : ℕ) → r < 8 → k ≡ 8 * i + r → map_bit map k ≡ bit (get_or map i 0) r
map_bit-byte map i r k h e =
    let p : k / 8 ≡ i = omega arith in
    let q : k % 8 ≡ r = omega arith in
    rw (p, q)

-- a byte's ones, behind c others
byte_ones : (b c : ℕ) → b < 256
    → c + ones b ≡ c + only (bit b 0) 1 + only (bit b 1) 1 + only (bit b 2) 1 + only (bit b 3) 1 + only (bit b 4) 1 + only (bit b 5) 1 + only (bit b 6) 1 + only (bit b 7) 1
byte_ones b c h =
    let one : b / 2 ^ 0 ≡ b = omega arith in
    let none : b / 2 ^ 8 ≡ 0 = omega arith in
    ap (λ (x : ℕ). c + ones x) (sym one)
    ∙ chain _ _ _ _ _ _ _ _ _ _ _ _ _ _ _ _ _ c (ones_from b 0) (ones_from b 1) (ones_from b 2) (ones_from b 3) (ones_from b 4) (ones_from b 5)
    (ones_from b 6) (ones_from b 7) (ap ones none ∙ ones-ones 0)

-- the bits of one byte more
pub count-byte : (map : Bytes) (i : ℕ) → get_or map i 0 < 256 → count_to (8 * (i + 1)) (map_bit map) ≡ count_to (8 * i) (map_bit map) + ones (get_or map i 0)
unfolding sum_to
count-byte map i h =
    let n : 8 * (i + 1) ≡ suc (suc (suc (suc (suc (suc (suc (suc (8 * i)))))))) = omega arith in
    let at : (r k : ℕ) → r < 8 → k ≡ 8 * i + r → map_bit map k ≡ bit (get_or map i 0) r = map_bit-byte map i in
    rw (
      n,
      at 0 (8 * i) (omega arith) (omega arith),
      at 1 (suc (8 * i)) (omega arith) (omega arith),
      at 2 (suc (suc (8 * i))) (omega arith) (omega arith),
      at 3 (suc (suc (suc (8 * i)))) (omega arith) (omega arith),
      at 4 (suc (suc (suc (suc (8 * i))))) (omega arith) (omega arith),
      at 5 (suc (suc (suc (suc (suc (8 * i)))))) (omega arith) (omega arith),
      at 6 (suc (suc (suc (suc (suc (suc (8 * i))))))) (omega arith) (omega arith),
      at 7 (suc (suc (suc (suc (suc (suc (suc (8 * i)))))))) (omega arith) (omega arith),
    )
    (sym (byte_ones (get_or map i 0) (count_to (8 * i) (map_bit map)) h))

count_bytes-to : (map : Bytes) → ((k : ℕ) → get_or map k 0 < 256) → (i : ℕ) → i ≤ length map → sum_by ones (take i map) ≡ count_to (8 * i) (map_bit map)
unfolding sum_to
count_bytes-to map small zero h = refl
count_bytes-to map small (suc i) h =
    let here : i < length map = omega arith in
    let before = count_bytes-to map small i (omega arith) in
    rw (← add-one i) (sum_by_more ones map i 0 here ∙ ap (λ (n : ℕ). n + ones (get_or map i 0)) before ∙ sym (count-byte map i (small i)))

-- the bits of all bytes
pub count_bytes : (map : Bytes) → ((k : ℕ) → get_or map k 0 < 256) → sum_by ones map ≡ count_to (8 * length map) (map_bit map)
count_bytes map small = ap (sum_by ones) (sym (take-length map)) ∙ count_bytes-to map small (length map) (omega arith)

-- ---- stray bits

-- the test of the numbers from a on
abbrev from : ℕ → (ℕ → Bool) → ℕ → Bool
from a p k = leb a k && p k

none-before : (p : ℕ → Bool) (a n : ℕ) → n ≤ a → any_to n (from a p) ≡ false
none-before p a n h = go (truth (any_to n (from a p)))
  where
    go : (any_to n (from a p) ≡ true) ⊎ (any_to n (from a p) ≡ false) → any_to n (from a p) ≡ false
    go (inr q) = q
    go (inl q) =
        let s = any_to-some n (from a p) q in
        let t = leb-true a s.0 ((and-eq-true_iff (leb a s.0) (p s.0)).0 s.2).0 in
        absurd (omega (arith, s.1))

any-taken : (p : ℕ → Bool) (a n i : ℕ) → i ≤ n → list_any p (take i (range_with_len a n)) ≡ any_to (a + i) (from a p)
unfolding any_to
any-taken p a n zero h = sym (none-before p a (a + 0) (omega arith))
any-taken p a n (suc i) h =
    let room : i < length (range_with_len a n) = rw length-range_with_len (omega arith) in
    let before = any-taken p a n i (omega arith) in
    let next : a + suc i ≡ suc (a + i) = omega arith in
    let here = le-leb a (a + i) (omega arith) in
    rw (next, here, ← before, ← get_or-range_with_len a n i 0 (omega arith), ← add-one i) (list_any_more p (range_with_len a n) i 0 room)

pub any_from : (p : ℕ → Bool) (a b : ℕ) → list_any p (range_with_len a (b - a)) ≡ any_to b (λ k. leb a k && p k)
any_from p a b = step (dec_le a b)
  where
    step : Dec (a ≤ b) → list_any p (range_with_len a (b - a)) ≡ any_to b (from a p)
    step (yes h) =
        let whole : take (b - a) (range_with_len a (b - a)) ≡ range_with_len a (b - a) = ap (λ (n : ℕ). take n (range_with_len a (b - a))) (sym (length-range_with_len a (b - a))) ∙ take-length (range_with_len a (b - a)) in
        let end : a + (b - a) ≡ b = omega arith in
        ap (list_any p) (sym whole) ∙ any-taken p a (b - a) (b - a) (omega arith) ∙ ap (λ (n : ℕ). any_to n (from a p)) end
    step (no h) = let none : b - a ≡ 0 = omega arith in rw none (sym (none-before p a b (omega arith)))

-- ---- listing

module _ (map : Bytes) (k found : ℕ) (members : List ℕ) (listed : take found members ≡ select k (map_bit map)) where
  pub list_set : map_bit map k ≡ true → found < length members → take (found + 1) (set members found k) ≡ select (k + 1) (map_bit map)
  unfolding select
  list_set h b = rw (add-one found, add-one k, take-suc-set members found k b, listed, h)

  pub list_unset : map_bit map k ≡ false → take found (set members found k) ≡ select (k + 1) (map_bit map)
  unfolding select
  list_unset h = rw (take-set-le found members found k (omega arith), add-one k, h, listed) (sym (append-nil _))
