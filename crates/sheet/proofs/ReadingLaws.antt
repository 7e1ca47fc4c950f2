-- What is known where a value was read: each check passed, and each of the records read is one that `one` accepted. What two lists of
-- checks say, one behind the other, which refusals a reader never gives, and how reading goes on from one record to the next.
-- Assumes nothing.
use Prim.Native.Nat.{ℕ, zero, suc, ◌+◌, ◌-◌, ◌<◌}
use mathlib.Core.Path.{◌≡◌, refl, sym, ap, ◌∙◌, subst}
use mathlib.Core.Bool.{Bool, true, false, ◌&&◌, not, cond, and-eq-true_iff}
use mathlib.Core.List.{List, [], ◌∷◌, ◌++◌}
use native.Mathlib.Nat.{sub-zero, not-suc-le-zero}
use native.Mathlib.Omega.{arith}
use lib.ListN.{length, get_or, length-append, get_or-append}
use lib.Seq.{get_or-append_seam}
use lib.Dec.{eqb}
use borrow.Author.Tests.{eqb-true, eqb-false, eq-eqb, ne_eqb, not-true}
use Rattle.cuts.proofs.SumLaws.{all-suc}
use Rattle.sheet.specs.Bytes.{Bytes}
use Rattle.sheet.specs.Reading.{Check, first_failing, Reading, accepted, refused, number_of, unless, and_then, records}

-- what the check with the number n says: it fails
abbrev pub failing : ℕ → List Check → Bool
failing n [] = false
failing n (c ∷ cs) = cond (eqb c.refusal n) c.fails (failing n cs)

-- no check has the number n
abbrev pub lacks : ℕ → List Check → Bool
lacks n [] = true
lacks n (c ∷ cs) = not (eqb c.refusal n) && lacks n cs

lacks_cons : (n : ℕ) (c : Check) (cs : List Check) → lacks n (c ∷ cs) ≡ true → (c.refusal ≡ n → ⊥) × (lacks n cs ≡ true)
lacks_cons n c cs m =
    let p = (and-eq-true_iff (not (eqb c.refusal n)) (lacks n cs)).0 m in
    (eqb-false c.refusal n (not-true (eqb c.refusal n) p.0), p.1)

-- then none fails with it
first_failing-lacks : (n : ℕ) (cs : List Check) → lacks n cs ≡ true → first_failing cs ≡ n → n ≡ 0
unfolding first_failing
first_failing-lacks n [] m e = sym e
first_failing-lacks n (c ∷ cs) m e = let p = lacks_cons n c cs m in step c.fails p.0 (first_failing-lacks n cs p.1) e
  where
    step : (b : Bool) → (c.refusal ≡ n → ⊥) → (first_failing cs ≡ n → n ≡ 0) → cond b c.refusal (first_failing cs) ≡ n → n ≡ 0
    step true q r e = absurd (q e)
    step false q r e = r e

pub passed : (n : ℕ) (cs : List Check) → lacks 0 cs ≡ true → first_failing cs ≡ 0 → failing n cs ≡ false
unfolding first_failing
passed n [] m h = refl
passed n (c ∷ cs) m h = let p = lacks_cons 0 c cs m in step p.0 c.fails refl (eqb c.refusal n) h (passed n cs p.1)
  where
    step : (c.refusal ≡ 0 → ⊥) → (b : Bool) → c.fails ≡ b → (q : Bool) → cond b c.refusal (first_failing cs) ≡ 0 → (first_failing cs ≡ 0 → failing n cs ≡ false)
        → cond q c.fails (failing n cs) ≡ false
    step l true e q h r = absurd (l h)
    step l false e true h r = e
    step l false e false h r = r h

not-refused : {A B : Type 0} {n : ℕ} {x : A} {rest : Bytes} → refused n ≡ accepted x rest → B
not-refused p = let z : ◌≡◌ {A = ℕ} 0 1 = cc in absurd (omega arith)

pub unless-accepted : {A : Type 0} (n : ℕ) (r : Reading A) {x : A} {rest : Bytes} → unless n r ≡ accepted x rest → (n ≡ 0) × (r ≡ accepted x rest)
unless-accepted {A} n r {x} {rest} h = step (eqb n 0) refl h
  where
    step : (b : Bool) → eqb n 0 ≡ b → cond b r (refused n) ≡ accepted x rest → (n ≡ 0) × (r ≡ accepted x rest)
    step true e h = (eqb-true n 0 e, h)
    step false e h = not-refused h

module _ {A : Type 0} (n : ℕ) (r : Reading A) where
  pub unless-passed : n ≡ 0 → unless n r ≡ r
  unless-passed h = rw (eq-eqb n 0 h)

  pub unless-refused : (n ≡ 0 → ⊥) → unless n r ≡ refused n
  unless-refused h = rw (ne_eqb n 0 h)

-- two lists of checks, one behind the other
pub unless-append : {A : Type 0} (xs ys : List Check) (r : Reading A) → lacks 0 xs ≡ true
    → unless (first_failing (xs ++ ys)) r ≡ unless (first_failing xs) (unless (first_failing ys) r)
unfolding first_failing
unless-append [] ys r m = refl
unless-append {A} (c ∷ cs) ys r m = let p = lacks_cons 0 c cs m in step p.0 c.fails (unless-append cs ys r p.1)
  where
    step : (c.refusal ≡ 0 → ⊥) → (b : Bool) → unless (first_failing (cs ++ ys)) r ≡ unless (first_failing cs) (unless (first_failing ys) r)
        → unless (cond b c.refusal (first_failing (cs ++ ys))) r ≡ unless (cond b c.refusal (first_failing cs)) (unless (first_failing ys) r)
    step l true e = unless-refused c.refusal r l ∙ sym (unless-refused c.refusal _ l)
    step l false e = e

pub and_then-accepted : {A B : Type 0} (r : Reading A) (next : A → Bytes → Reading B) {y : B} {end : Bytes} → and_then r next ≡ accepted y end
    → (x : A) × (rest : Bytes) × (r ≡ accepted x rest) × (next x rest ≡ accepted y end)
and_then-accepted (accepted x rest) next h = (x, rest, refl, h)
and_then-accepted (refused n) next h = not-refused h

pub and_then-zero : {A B : Type 0} (r : Reading A) (next : A → Bytes → Reading B) → number_of (and_then r next) ≡ 0 → number_of r ≡ 0
and_then-zero (accepted x rest) next z = refl
and_then-zero (refused n) next z = z

-- ---- refusals that are never given

abbrev pub Never : {A : Type 0} → ℕ → Reading A → Type 0
Never n (accepted x rest) = Unit {0}
Never n (refused m) = m ≡ n → ⊥

module _ (n : ℕ) where
  pub unless_never : {A : Type 0} (cs : List Check) (r : Reading A) → lacks n cs ≡ true → Never n r → Never n (unless (first_failing cs) r)
  unless_never {A} cs r m h = step (eqb (first_failing cs) 0) refl
    where
      step : (b : Bool) → eqb (first_failing cs) 0 ≡ b → Never n (cond b r (refused (first_failing cs)))
      step true e = h
      step false e = λ q. eqb-false (first_failing cs) 0 e (q ∙ first_failing-lacks n cs m q)

  pub and_then_never : {A B : Type 0} (r : Reading B) (next : B → Bytes → Reading A) → Never n r
      → ((x : B) (rest : Bytes) → r ≡ accepted x rest → Never n (next x rest)) → Never n (and_then r next)
  and_then_never (accepted x rest) next h k = k x rest refl
  and_then_never (refused m) next h k = h

  -- P stays true from record to record
  pub records_never : {A : Type 0} (P : List A → Bytes → Type 0) (one : List A → Bytes → Reading A) → ((got : List A) (bs : Bytes) → P got bs → Never n (one got bs))
      → ((got : List A) (bs : Bytes) (x : A) (rest : Bytes) → P got bs → one got bs ≡ accepted x rest → P (got ++ x ∷ []) rest)
      → (k : ℕ) (got : List A) (bs : Bytes) → P got bs → Never n (records one k got bs)
  unfolding records
  records_never P one h s zero got bs p = tt
  records_never P one h s (suc k) got bs p =
      and_then_never (one got bs) (λ x rest. records one k (got ++ x ∷ []) rest) (h got bs p) (λ x rest e. records_never P one h s k (got ++ x ∷ []) rest (s got bs x rest p e))

pub never_zero : {A : Type 0} (r : Reading A) → Never 0 r → number_of r ≡ 0 → (x : A) × (rest : Bytes) × (r ≡ accepted x rest)
never_zero (accepted x rest) h e = (x, rest, refl)
never_zero (refused n) h e = absurd (h e)

pub never_number : {A : Type 0} (n : ℕ) (r : Reading A) → 0 < n → Never n r → number_of r ≡ n → ⊥
never_number n (accepted x rest) l h e = omega arith
never_number n (refused m) l h e = h e

-- ---- what is known of all records read

-- what stays true from record to record
pub records-kept : {A : Type 0} (P : List A → Bytes → Type 0) (one : List A → Bytes → Reading A)
    → ((got : List A) (bs : Bytes) (x : A) (rest : Bytes) → P got bs → one got bs ≡ accepted x rest → P (got ++ x ∷ []) rest)
    → (k : ℕ) (got : List A) (bs : Bytes) {xs : List A} {rest : Bytes} → P got bs → records one k got bs ≡ accepted xs rest → P xs rest
unfolding records
records-kept {A} P one h zero got bs {xs} {rest} p e =
    let a : got ≡ xs = cc in let b : bs ≡ rest = cc in subst (λ (gs : List A). P gs rest) a (subst (P got) b p)
records-kept P one h (suc k) got bs p e =
    let r = and_then-accepted (one got bs) (λ x rest. records one k (got ++ x ∷ []) rest) e in
    records-kept P one h k (got ++ r.0 ∷ []) r.1 (h got bs r.0 r.1 p r.2) r.3

pub records-counted : {A : Type 0} (one : List A → Bytes → Reading A) (k : ℕ) (got : List A) (bs : Bytes) {xs : List A} {rest : Bytes}
    → records one k got bs ≡ accepted xs rest → length xs ≡ length got + k
unfolding records
records-counted one zero got bs {xs} e = let q : got ≡ xs = cc in let l : length got ≡ length xs = ap length q in omega arith
records-counted one (suc k) got bs e =
    let r = and_then-accepted (one got bs) (λ x rest. records one k (got ++ x ∷ []) rest) e in
    let s = records-counted one k (got ++ r.0 ∷ []) r.1 r.3 in
    let l = length-append got (r.0 ∷ []) in
    omega arith

-- every entry of the list passes Q
abbrev pub All : {A : Type 0} → A → (A → Type 0) → List A → Type 0
All d Q xs = (i : ℕ) → i < length xs → Q (get_or xs i d)

pub all_snoc : {A : Type 0} (d : A) (Q : A → Type 0) (xs : List A) (x : A) → All d Q xs → Q x → All d Q (xs ++ x ∷ [])
all_snoc d Q xs x h q i b =
    all-suc (λ j. Q (get_or (xs ++ x ∷ []) j d)) (length xs)
    (λ j c. subst Q (sym (get_or-append xs (x ∷ []) d j c)) (h j c))
    (subst Q (sym (get_or-append_seam xs x [] d)) q) i (let e = length-append xs (x ∷ []) in omega arith)

pub all_none : {A : Type 0} (d : A) (Q : A → Type 0) → All d Q []
all_none d Q i b = absurd (not-suc-le-zero b)

pub records-all : {A : Type 0} (d : A) (Q : A → Type 0) (one : List A → Bytes → Reading A)
    → ((got : List A) (bs : Bytes) (x : A) (rest : Bytes) → one got bs ≡ accepted x rest → Q x)
    → (k : ℕ) (bs : Bytes) {xs : List A} {rest : Bytes} → records one k [] bs ≡ accepted xs rest → All d Q xs
records-all d Q one good k bs e =
    records-kept (λ got _. All d Q got) one (λ got bs x rest h e. all_snoc d Q got x h (good got bs x rest e)) k [] bs (all_none d Q) e

-- after k records, of m from the bytes `start` on: `got` are read, and reading goes on with bs
pub record Run {A : Type 0} (one : List A → Bytes → Reading A) (m k : ℕ) (got : List A) (bs start : Bytes) : Type 0 where
  pub rest : records one (m - k) got bs ≡ records one m [] start

pub run-start : {A : Type 0} (one : List A → Bytes → Reading A) (m : ℕ) (start : Bytes) → Run one m 0 [] start start
run-start one m start = record { rest = rw sub-zero }

module _ {A : Type 0} {one : List A → Bytes → Reading A} {m k : ℕ} {got : List A} {bs start : Bytes} (w : Run one m k got bs start) where
  pub run_more : k < m → {x : A} {rest : Bytes} → one got bs ≡ accepted x rest → Run one m (k + 1) (got ++ x ∷ []) rest start
  unfolding records
  run_more more e = let n : m - k ≡ suc (m - (k + 1)) = omega arith in record { rest = rw (n, e) at w.rest }

  pub run-stop : k < m → {n : ℕ} → one got bs ≡ refused n → refused n ≡ records one m [] start
  unfolding records
  run-stop more e = let n : m - k ≡ suc (m - (k + 1)) = omega arith in rw (n, e) at w.rest

  pub run-done : k ≡ m → accepted got bs ≡ records one m [] start
  unfolding records
  run-done e = let n : m - k ≡ 0 = omega arith in rw n at w.rest
