-- Bytes put into an area: by stores, right behind others, and as fields one behind the other.
-- Assumes nothing.
use Prim.Native.Nat.{ℕ, zero, suc, ◌+◌, ◌*◌, ◌/◌, ◌%◌, ◌^◌, ◌≤◌, ◌<◌}
use mathlib.Core.Path.{◌≡◌, sym, ap, ◌∙◌}
use mathlib.Core.List.{List, [], ◌∷◌, ◌++◌, append-nil, append_assoc}
use native.Mathlib.Nat.{add_assoc, add-zero, zero-add, suc-add}
use native.Mathlib.Omega.{arith}
use lib.ListN.{length, set, take, drop, length-append, take-append-drop}
use lib.Seq.{sets-eq, take_at, drop_at, drop-drop, length-take-le}
use lib.Pow.{shr-shr, field, mod-mod-pow}
use Rattle.sheet.specs.Bytes.{Bytes, bytes_of, field_bytes}
use Rattle.sheet.proofs.ByteLaws.{bytes_of-length}

-- an area that held `old`, with `new` written at a position
abbrev pub put : ℕ → Bytes → Bytes → Bytes
put at new old = take at old ++ new ++ drop (at + length new) old

-- ---- stores

pub set-put : (old : Bytes) (at a : ℕ) → at < length old → a < 256 → set old at a ≡ put at (bytes_of 1 a) old
unfolding bytes_of
set-put old at a h b =
    let e : a % 256 ≡ a = omega arith in
    rw e (sets-eq (a ∷ []) old at (omega arith))

-- ---- bytes behind others

pub put-put : (at : ℕ) (b c old : Bytes) → at ≤ length old → put (at + length b) c (put at b old) ≡ put at (b ++ c) old
put-put at b c old h =
    let n = at + length b in
    let p : length (take at old ++ b) ≡ n = rw (length-append, length-take-le at old h) in
    let front : take n (put at b old) ≡ take at old ++ b = take_at (take at old ++ b) (drop n old) n p in
    let rest : drop n (put at b old) ≡ drop n old = drop_at (take at old ++ b) (drop n old) n p in
    rw (front, ← drop-drop (length c) n (put at b old), rest, drop-drop, length-append, add_assoc, append_assoc (take at old) b c)

-- fields put one behind the other
abbrev pub put_fields : ℕ → List ℕ → List ℕ → Bytes → Bytes
put_fields at [] vs old = old
put_fields at (w ∷ ws) [] old = old
put_fields at (w ∷ ws) (v ∷ vs) old = put_fields (at + w) ws vs (put at (bytes_of w v) old)

put-none : (at : ℕ) (old : Bytes) → old ≡ put at [] old
put-none at old = rw (append-nil, add-zero) (sym (take-append-drop at old))

pub put_fields-put : (at : ℕ) (ws vs : List ℕ) (old : Bytes) → at ≤ length old → put_fields at ws vs old ≡ put at (field_bytes ws vs) old
unfolding field_bytes
put_fields-put at [] vs old h = put-none at old
put_fields-put at (w ∷ ws) [] old h = put-none at old
put_fields-put at (w ∷ ws) (v ∷ vs) old h =
    let l : length (bytes_of w v) ≡ w = bytes_of-length w v in
    put_fields-put (at + w) ws vs (put at (bytes_of w v) old) (simp length-append (let t = length-take-le at old h in omega arith))
    ∙ ap (λ (n : ℕ). put (at + n) (field_bytes ws vs) (put at (bytes_of w v) old)) (sym l)
    ∙ put-put at (bytes_of w v) (field_bytes ws vs) old h

-- ---- the bytes of a number

-- its low bytes, then its high bytes
bytes_of_halves : (w x v : ℕ) → bytes_of (w + x) v ≡ bytes_of w (v % 2 ^ (8 * w)) ++ bytes_of x (v / 2 ^ (8 * w))
unfolding bytes_of
bytes_of_halves zero x v = let e : v / 1 ≡ v = omega arith in rw (zero-add x, e)
bytes_of_halves (suc w) x v =
    let n : 8 * suc w ≡ 8 * w + 8 = omega arith in
    let m : 8 + 8 * w ≡ 8 * w + 8 = omega arith in
    rw (suc-add, n, mod-mod-pow v (8 * w) 8, field v (8 * w) 8, ← m, ← shr-shr v 8 (8 * w)) (ap (λ (bs : Bytes). v % 256 ∷ bs) (bytes_of_halves w x (v / 256)))
