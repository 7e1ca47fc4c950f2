-- Laws of sums, counts, tests and tables over the numbers below a bound.
-- Assumes nothing.
use Prim.Native.Nat.{ℕ, zero, suc, ◌+◌, ◌*◌, ◌≤◌, ◌<◌}
use mathlib.Core.Path.{◌≡◌, refl, sym, ap, ap₂, ◌∙◌, subst}
use mathlib.Core.Logic.{◌⊎◌, inl, inr}
use mathlib.Core.Bool.{Bool, true, false, ◌&&◌, ◌||◌, not, cond, and-true, and-eq-true_iff, or-false}
use mathlib.Core.List.{List, [], ◌∷◌, ◌++◌, append-nil}
use native.Mathlib.Nat.{eq-or-lt_of_le, le_of_suc-le-suc, not-suc-le-zero}
use native.Mathlib.Decide.{dec_lt}
use native.Mathlib.Numerals.{add-one}
use native.Mathlib.Omega.{arith}
use lib.ListN.{length, get_or, set, take, length-append, get_or-append}
use lib.Seq.{get_or_at, get_or-append_seam, take_all, take-append-le}
use lib.Dec.{eqb, eqb-zero-suc, eqb-suc-zero, eqb-suc-suc}
use borrow.Author.Tests.{eqb-true, eqb-false, eq-eqb, ne_eqb}
use Rattle.cuts.specs.Sums.{sum_to, only, any_to, all_to, table, select, count_to}
use Rattle.cuts.proofs.FlagLaws.{clash, truth, either, or_left, or_right}

-- ---- what holds below suc n

pub all-suc : (P : ℕ → Type 0) (n : ℕ) → ((k : ℕ) → k < n → P k) → P n → (k : ℕ) → k < suc n → P k
all-suc P n h p k b = step (eq-or-lt_of_le (le_of_suc-le-suc b))
  where
    step : (k ≡ n) ⊎ (k < n) → P k
    step (inl e) = subst P (sym e) p
    step (inr l) = h k l

pub any_to-some : (n : ℕ) (f : ℕ → Bool) → any_to n f ≡ true → (k : ℕ) × (k < n) × (f k ≡ true)
unfolding any_to
any_to-some zero f h = clash h refl
any_to-some (suc n) f h = step (any_to-some n f) (either (any_to n f) (f n) h)
  where
    step : (any_to n f ≡ true → (k : ℕ) × (k < n) × (f k ≡ true)) → (any_to n f ≡ true) ⊎ (f n ≡ true) → (k : ℕ) × (k < suc n) × (f k ≡ true)
    step r (inl e) = let s = r e in (s.0, omega (arith, s.1), s.2)
    step r (inr e) = (n, omega arith, e)

pub any_to-at : (n : ℕ) (f : ℕ → Bool) (k : ℕ) → k < n → f k ≡ true → any_to n f ≡ true
unfolding any_to
any_to-at zero f = λ k b. absurd (not-suc-le-zero b)
any_to-at (suc n) f = all-suc (λ k. f k ≡ true → any_to (suc n) f ≡ true) n (λ k b e. or_left (any_to n f) (f n) (any_to-at n f k b e)) (or_right (any_to n f) (f n))

pub any_to_congr : (n : ℕ) (f g : ℕ → Bool) → ((k : ℕ) → k < n → f k ≡ g k) → any_to n f ≡ any_to n g
unfolding any_to
any_to_congr zero f g h = refl
any_to_congr (suc n) f g h = rw (any_to_congr n f g (λ k b. h k (omega arith)), h n (omega arith))

pub all_to-at : (n : ℕ) (f : ℕ → Bool) → all_to n f ≡ true → (k : ℕ) → k < n → f k ≡ true
unfolding all_to
all_to-at zero f h = λ k b. absurd (not-suc-le-zero b)
all_to-at (suc n) f h = let p = (and-eq-true_iff (all_to n f) (f n)).0 h in all-suc (λ k. f k ≡ true) n (all_to-at n f p.0) p.1

pub all_to-all : (n : ℕ) (f : ℕ → Bool) → ((k : ℕ) → k < n → f k ≡ true) → all_to n f ≡ true
unfolding all_to
all_to-all zero f h = refl
all_to-all (suc n) f h = rw (all_to-all n f (λ k b. h k (omega arith)), h n (omega arith))

-- ---- sums

pub sum_congr : (n : ℕ) (f g : ℕ → ℕ) → ((k : ℕ) → k < n → f k ≡ g k) → sum_to n f ≡ sum_to n g
unfolding sum_to
sum_congr zero f g h = refl
sum_congr (suc n) f g h = ap₂ ◌+◌ (sum_congr n f g (λ k b. h k (omega arith))) (h n (omega arith))

pub sum_mono : (n : ℕ) (f g : ℕ → ℕ) → ((k : ℕ) → k < n → f k ≤ g k) → sum_to n f ≤ sum_to n g
unfolding sum_to
sum_mono zero f g h = omega arith
sum_mono (suc n) f g h = let r = sum_mono n f g (λ k b. h k (omega arith)) in omega (arith, h n (omega arith))

pub sum_less : (m n : ℕ) (f : ℕ → ℕ) → m ≤ n → sum_to m f ≤ sum_to n f
unfolding sum_to
sum_less m zero f h = let e : m ≡ 0 = omega arith in rw e (omega arith)
sum_less m (suc n) f h = step (eq-or-lt_of_le h) (sum_less m n f)
  where
    step : (m ≡ suc n) ⊎ (m < suc n) → (m ≤ n → sum_to m f ≤ sum_to n f) → sum_to m f ≤ sum_to n f + f n
    step (inl e) r = rw e (omega arith)
    step (inr l) r = let s = r (omega arith) in omega arith

pub sum-add : (n : ℕ) (f g : ℕ → ℕ) → sum_to n (λ k. f k + g k) ≡ sum_to n f + sum_to n g
unfolding sum_to
sum-add zero f g = refl
sum-add (suc n) f g = let r = sum-add n f g in omega arith

pub sum_scale : (n c : ℕ) (f : ℕ → ℕ) → sum_to n (λ k. c * f k) ≡ c * sum_to n f
unfolding sum_to
sum_scale zero c f = omega arith
sum_scale (suc n) c f = let r = sum_scale n c f in omega arith

pub sum_const : (n c : ℕ) → sum_to n (λ k. c) ≡ n * c
unfolding sum_to
sum_const zero c = omega arith
sum_const (suc n) c = let r = sum_const n c in omega arith

pub sum-zero : (n : ℕ) (f : ℕ → ℕ) → ((k : ℕ) → k < n → f k ≡ 0) → sum_to n f ≡ 0
sum-zero n f h = let a = sum_congr n f (λ k. 0) h in let b = sum_const n 0 in omega arith

pub only_none : (b : Bool) → only b 0 ≡ 0
only_none true = refl
only_none false = refl

pub sum-only : (n : ℕ) (c : Bool) (f : ℕ → ℕ) → sum_to n (λ k. only c (f k)) ≡ only c (sum_to n f)
sum-only n true f = refl
sum-only n false f = sum-zero n (λ k. 0) (λ _ _. refl)

pub sum_prefix : (k m : ℕ) (f : ℕ → ℕ) → k ≤ m → sum_to k f ≤ sum_to m f
unfolding sum_to
sum_prefix k zero f b = let q : k ≡ 0 = omega arith in rw q (omega arith)
sum_prefix k (suc m) f b = go (sum_prefix k m f) (eq-or-lt_of_le b)
  where
    go : (k ≤ m → sum_to k f ≤ sum_to m f) → (k ≡ suc m) ⊎ (k < suc m) → sum_to k f ≤ sum_to m f + f m
    go r (inl q) = rw q (omega arith)
    go r (inr l) = let a = r (omega arith) in omega arith

pub sum-append : (m n : ℕ) (f : ℕ → ℕ) → sum_to (m + n) f ≡ sum_to m f + sum_to n (λ i. f (m + i))
unfolding sum_to
sum-append m zero f = let e : m + 0 ≡ m = omega arith in rw e (omega arith)
sum-append m (suc n) f = let e : m + suc n ≡ suc (m + n) = omega arith in let r = sum-append m n f in rw e (omega arith)

pub sum-swap : (n m : ℕ) (f : ℕ → ℕ → ℕ) → sum_to n (λ i. sum_to m (f i)) ≡ sum_to m (λ j. sum_to n (λ i. f i j))
unfolding sum_to
sum-swap zero m f = let r = sum_const m 0 in omega arith
sum-swap (suc n) m f = let r = sum-swap n m f in let s = sum-add m (λ j. sum_to n (λ i. f i j)) (f n) in omega arith

pub sum-entry : (n : ℕ) (f : ℕ → ℕ) (k : ℕ) → k < n → f k ≤ sum_to n f
unfolding sum_to
sum-entry zero f = λ k b. absurd (not-suc-le-zero b)
sum-entry (suc n) f = all-suc (λ k. f k ≤ sum_to (suc n) f) n (λ k b. let r = sum-entry n f k b in omega arith) (omega arith)

-- where no entry shrinks and the sums agree, so do the entries
pub sum_tight : (n : ℕ) (f g : ℕ → ℕ) → ((k : ℕ) → k < n → f k ≤ g k) → sum_to n g ≤ sum_to n f → (k : ℕ) → k < n → f k ≡ g k
unfolding sum_to
sum_tight zero f g h s = λ k b. absurd (not-suc-le-zero b)
sum_tight (suc n) f g h s =
    let l : f n ≤ g n = h n (omega arith) in
    let m : (k : ℕ) → k < n → f k ≤ g k = λ k b. h k (omega arith) in
    let r : sum_to n f ≤ sum_to n g = sum_mono n f g m in
    all-suc (λ k. f k ≡ g k) n (sum_tight n f g m (omega arith)) (omega arith)

pub sum-single : (n a : ℕ) (f : ℕ → ℕ) → a < n → sum_to n (λ k. only (eqb a k) (f k)) ≡ f a
unfolding sum_to
sum-single zero a f b = absurd (not-suc-le-zero b)
sum-single (suc n) a f b = step (sum-single n a f) (eq-or-lt_of_le (le_of_suc-le-suc b))
  where
    rest : (m : ℕ) → m ≤ a → sum_to m (λ k. only (eqb a k) (f k)) ≡ 0
    rest zero l = refl
    rest (suc m) l = rw (ne_eqb a m (λ e. omega arith)) (let r = rest m (omega arith) in omega arith)

    step : (a < n → sum_to n (λ k. only (eqb a k) (f k)) ≡ f a) → (a ≡ n) ⊎ (a < n) → sum_to n (λ k. only (eqb a k) (f k)) + only (eqb a n) (f n) ≡ f a
    step r (inl e) = rw (eq-eqb a n e, ← e) (let z = rest a (omega arith) in omega arith)
    step r (inr l) = rw (ne_eqb a n (λ e. omega arith)) (let z = r l in omega arith)

-- ---- counts

pub count_most : (n : ℕ) (f : ℕ → Bool) → count_to n f ≤ n
count_most n f = let e = sum_const n 1 in let l = sum_mono n (λ k. only (f k) 1) (λ k. 1) (λ k _. unit (f k)) in omega arith
  where
    unit : (b : Bool) → only b 1 ≤ 1
    unit true = omega arith
    unit false = omega arith

-- where x comes to pass and nothing else changes
pub count-more : (n : ℕ) (f g : ℕ → Bool) (x : ℕ) → x < n → f x ≡ false → g x ≡ true → ((y : ℕ) → y < n → (y ≡ x → ⊥) → g y ≡ f y)
    → count_to n g ≡ suc (count_to n f)
count-more n f g x b p q e =
    let a = sum_congr n (λ y. only (g y) 1) (λ y. only (f y) 1 + only (eqb x y) 1) (λ y c. go y c (truth (eqb x y))) in
    let c = sum-add n (λ y. only (f y) 1) (λ y. only (eqb x y) 1) in
    let d = sum-single n x (λ y. 1) b in
    omega arith
  where
    go : (y : ℕ) → y < n → (eqb x y ≡ true) ⊎ (eqb x y ≡ false) → only (g y) 1 ≡ only (f y) 1 + only (eqb x y) 1
    go y c (inl r) = rw (r, ← eqb-true x y r, p, q)
    go y c (inr r) = rw (r, e y c (λ z. eqb-false x y r (sym z))) (omega arith)

-- a number that passes the test is counted
pub count-rises : (n k : ℕ) (f : ℕ → Bool) → k < n → f k ≡ true → count_to k f < count_to n f
unfolding sum_to
count-rises zero k f b h = absurd (omega arith)
count-rises (suc n) k f b h = go (count-rises n k f) (dec_lt k n)
  where
    go : (k < n → f k ≡ true → count_to k f < count_to n f) → Dec (k < n) → count_to k f < count_to n f + only (f n) 1
    go r (yes c) = let a = r c h in omega arith
    go r (no c) = let e : n ≡ k = omega arith in rw (e, h) (omega arith)

pub count-lacks : (n : ℕ) (f : ℕ → Bool) (x : ℕ) → x < n → f x ≡ false → count_to n f < n
count-lacks n f x b p =
    let a = count-more n f (λ y. eqb y x || f y) x b p (rw (eq-eqb x x refl)) (λ y _ d. rw (ne_eqb y x d)) in
    let c = count_most n (λ y. eqb y x || f y) in
    omega arith

-- the last of those counted
pub record Last (n : ℕ) (f : ℕ → Bool) : Type 0 where
  pub at : ℕ
  pub under : at < n
  pub holds : f at ≡ true
  pub before : suc (count_to at f) ≡ count_to n f
  pub after : (k : ℕ) → k < n → at < k → f k ≡ false

later : (n : ℕ) (f : ℕ → Bool) → f n ≡ false → Last n f → Last (suc n) f
unfolding sum_to
later n f p s = record {
  at = s.at;
  under = omega arith;
  holds = s.holds;
  before = rw p (let b = s.before in omega arith);
  after = all-suc (λ k. s.at < k → f k ≡ false) n s.after (λ c. p);
}

pub count-last : (n : ℕ) (f : ℕ → Bool) → 0 < count_to n f → Last n f
unfolding sum_to
count-last zero f h = absurd (not-suc-le-zero h)
count-last (suc n) f h = step (f n) refl h (count-last n f)
  where
    step : (b : Bool) → f n ≡ b → 0 < count_to n f + only b 1 → (0 < count_to n f → Last n f) → Last (suc n) f
    step true p l r = record { at = n; under = omega arith; holds = p; before = rw p (omega arith); after = λ k b c. absurd (omega arith) }
    step false p l r = later n f p (r (omega arith))

pub count_none : (n : ℕ) (f : ℕ → Bool) → count_to n f ≡ 0 → (k : ℕ) → k < n → f k ≡ false
count_none n f h k b = step (f k) refl
  where
    step : (c : Bool) → f k ≡ c → f k ≡ false
    step false p = p
    step true p = let r : only (f k) 1 ≤ count_to n f = sum-entry n (λ j. only (f j) 1) k b in absurd (omega (arith, rw p at r))

-- what is counted below m, where none passes from m on
pub count_cut : (m n : ℕ) (f : ℕ → Bool) → m ≤ n → ((k : ℕ) → m ≤ k → k < n → f k ≡ false) → count_to n f ≡ count_to m f
unfolding sum_to
count_cut m zero f l h = let e : 0 ≡ m = omega arith in ap (λ (k : ℕ). count_to k f) e
count_cut m (suc n) f l h = step (eq-or-lt_of_le l) (count_cut m n f)
  where
    step : (m ≡ suc n) ⊎ (m < suc n) → (m ≤ n → ((k : ℕ) → m ≤ k → k < n → f k ≡ false) → count_to n f ≡ count_to m f) → count_to (suc n) f ≡ count_to m f
    step (inl e) r = ap (λ (k : ℕ). count_to k f) (sym e)
    step (inr b) r = let q = r (omega arith) (λ k a c. h k a (omega arith)) in rw (h n (omega arith) (omega arith)) (omega arith)

-- k is below, at or above e
pub side_by_side : (P : ℕ → Type 0) (e : ℕ) → ((k : ℕ) → k < e → P k) → P e → ((k : ℕ) → e < k → P k) → (k : ℕ) → P k
side_by_side P e f p g k = step (dec_lt k e)
  where
    step : Dec (k < e) → P k
    step (yes l) = f k l
    step (no n) = above (eq-or-lt_of_le (omega arith))
      where
        above : (e ≡ k) ⊎ (e < k) → P k
        above (inl q) = subst P q p
        above (inr l) = g k l

pub record One (n : ℕ) (f : ℕ → Bool) : Type 0 where
  pub at : ℕ
  pub under : at < n
  pub is : (k : ℕ) → k < n → f k ≡ eqb at k

pub record Two (n : ℕ) (f : ℕ → Bool) : Type 0 where
  pub low : ℕ
  pub high : ℕ
  pub apart : low < high
  pub under : high < n
  pub is : (k : ℕ) → k < n → f k ≡ (eqb low k || eqb high k)

pub count-one : (n : ℕ) (f : ℕ → Bool) → count_to n f ≡ 1 → One n f
count-one n f h = from (count-last n f (omega arith))
  where
    from : Last n f → One n f
    from l = record {
      at = l.at;
      under = l.under;
      is = side_by_side (λ k. k < n → f k ≡ eqb l.at k) l.at
          (λ k b _. count_none l.at f (let c = l.before in omega arith) k b ∙ sym (ne_eqb l.at k (λ e. omega arith)))
          (λ b. l.holds ∙ sym (eq-eqb l.at l.at refl))
          (λ k b c. l.after k c b ∙ sym (ne_eqb l.at k (λ e. omega arith)));
    }

-- where no two different numbers pass
pub count_unique : (n : ℕ) (f : ℕ → Bool) → ((i j : ℕ) → i < n → j < n → f i ≡ true → f j ≡ true → i ≡ j) → count_to n f ≤ 1
count_unique n f h = go (dec_lt 1 (count_to n f))
  where
    again : (l : Last n f) → Last l.at f → ⊥
    again l m = let b = m.under in let c = l.under in let q = h m.at l.at (omega arith) c m.holds l.holds in omega arith

    go : Dec (1 < count_to n f) → count_to n f ≤ 1
    go (no q) = omega arith
    go (yes b) = let l = count-last n f (omega arith) in let c = l.before in absurd (again l (count-last l.at f (omega arith)))

pub count-two : (n : ℕ) (f : ℕ → Bool) → count_to n f ≡ 2 → Two n f
count-two n f h = from (count-last n f (omega arith))
  where
    pair : (l : Last n f) → One l.at f → Two n f
    pair l o = record {
      low = o.at;
      high = l.at;
      apart = o.under;
      under = l.under;
      is = side_by_side (λ k. k < n → f k ≡ (eqb o.at k || eqb l.at k)) l.at
          (λ k b _. rw (ne_eqb l.at k (λ e. omega arith)) (o.is k b ∙ sym (or-false (eqb o.at k))))
          (λ b. rw (ne_eqb o.at l.at (λ e. let u = o.under in omega arith), eq-eqb l.at l.at refl) l.holds)
          (λ k b c. rw (ne_eqb o.at k (λ e. let u = o.under in omega arith), ne_eqb l.at k (λ e. omega arith)) (l.after k c b));
    }

    from : Last n f → Two n f
    from l = pair l (count-one l.at f (let c = l.before in omega arith))

-- ---- tables, lists with an entry cleared, selections

pub table-length : {A : Type 0} (n : ℕ) (f : ℕ → A) → length (table n f) ≡ n
unfolding table
table-length zero f = refl
table-length (suc n) f = rw length-append (let r = table-length n f in omega arith)

pub table_congr : {A : Type 0} (n : ℕ) (f g : ℕ → A) → ((k : ℕ) → k < n → f k ≡ g k) → table n f ≡ table n g
unfolding table
table_congr zero f g h = refl
table_congr (suc n) f g h = rw (table_congr n f g (λ k b. h k (omega arith)), h n (omega arith))

pub take-table : {A : Type 0} (n i : ℕ) (f : ℕ → A) → i ≤ n → take i (table n f) ≡ table i f
unfolding table
take-table zero i f b = rw (let e : i ≡ 0 = omega arith in e)
take-table (suc n) i f b = step (eq-or-lt_of_le b) (λ l. take-table n i f l)
  where
    step : (i ≡ suc n) ⊎ (i < suc n) → (i ≤ n → take i (table n f) ≡ table i f) → take i (table n f ++ f n ∷ []) ≡ table i f
    step (inl e) h = rw e (take_all (suc n) (table (suc n) f) (let l = table-length (suc n) f in omega arith))
    step (inr l) h = take-append-le i (table n f) (f n ∷ []) (let k = table-length n f in omega arith) ∙ h (omega arith)

pub table_at : {A : Type 0} (d : A) (n : ℕ) (f : ℕ → A) (x : ℕ) → x < n → get_or (table n f) x d ≡ f x
unfolding table
table_at d zero f = λ x b. absurd (not-suc-le-zero b)
table_at d (suc n) f = all-suc (λ x. get_or (table n f ++ f n ∷ []) x d ≡ f x) n
    (λ x b. get_or-append (table n f) (f n ∷ []) d x (rw (table-length n f) b) ∙ table_at d n f x b)
    (get_or_at (table n f) (f n) [] d n (table-length n f))

-- of the numbers selected, those that pass a second test
pub select-count : (n : ℕ) (f g : ℕ → Bool) → count_to (length (select n f)) (λ r. g (get_or (select n f) r 0)) ≡ count_to n (λ k. f k && g k)
unfolding select sum_to
select-count zero f g = refl
select-count (suc n) f g = go (f n) (select-count n f g)
  where
    go : (b : Bool) → count_to (length (select n f)) (λ r. g (get_or (select n f) r 0)) ≡ count_to n (λ k. f k && g k)
        → count_to (length (select n f ++ cond b (n ∷ []) [])) (λ r. g (get_or (select n f ++ cond b (n ∷ []) []) r 0))
        ≡ count_to n (λ k. f k && g k) + only (b && g n) 1
    go true h =
        let l : length (select n f ++ n ∷ []) ≡ suc (length (select n f)) = length-append (select n f) (n ∷ []) ∙ add-one (length (select n f)) in
        ap (λ (m : ℕ). count_to m (λ r. g (get_or (select n f ++ n ∷ []) r 0))) l
        ∙ ap₂ ◌+◌
        (sum_congr (length (select n f)) _ _ (λ r b. ap (λ (x : ℕ). only (g x) 1) (get_or-append (select n f) (n ∷ []) 0 r b)) ∙ h)
        (ap (λ (x : ℕ). only (g x) 1) (get_or-append_seam (select n f) n [] 0))
    go false h = rw (append-nil (select n f)) (let e = h in omega arith)

pub cleared_at : (l : List Bool) (e k : ℕ) → get_or (set l e false) k false ≡ (get_or l k false && not (eqb e k))
cleared_at [] e k = refl
cleared_at (true ∷ l) zero zero = refl
cleared_at (false ∷ l) zero zero = refl
cleared_at (b ∷ l) zero (suc k) = rw (eqb-zero-suc k) (sym (and-true (get_or l k false)))
cleared_at (b ∷ l) (suc e) zero = rw (eqb-suc-zero e) (sym (and-true b))
cleared_at (b ∷ l) (suc e) (suc k) = rw (eqb-suc-suc e k) (cleared_at l e k)
