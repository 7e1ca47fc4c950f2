-- The handles of a tree are its members, and its members two by two in their order; the candidates of a network are those of its trees.
-- Assumes nothing.
use Prim.Native.Nat.{ℕ, zero, suc, ◌+◌, ◌<◌}
use mathlib.Core.Path.{◌≡◌, refl, sym, ap, ◌∙◌, subst}
use mathlib.Core.Logic.{◌⊎◌, inl, inr}
use mathlib.Core.Bool.{Bool, true, false, cond}
use mathlib.Core.List.Memᴰ
use mathlib.Core.List.{List, [], ◌∷◌, ◌++◌, map, Memᴰ, append-nil}
use native.Mathlib.Nat.{not-suc-le-zero, le_refl}
use native.Mathlib.Omega.{arith}
use lib.ListN.{length, get_or}
use Rattle.cuts.specs.Sums.{select}
use Rattle.cuts.specs.Network.{Tree, Network, flag, link_count, no_tree, tree_at}
use Rattle.cuts.specs.Tree.{Member}
use Rattle.cuts.specs.Candidate.{Candidate, Handle, one, two, pairs_with, handles, member_links, candidate, candidates_from, candidates, Fits, Sooner, Earlier}
use Rattle.cuts.proofs.SumLaws.{all-suc}
use Rattle.cuts.proofs.ListLaws.{Each, each_append, each_map}

-- each number of the list is below those behind it
abbrev Rising : List ℕ → Type 0
Rising es = Each ◌<◌ es

-- the handle names numbers of the list, two in their order
abbrev Named : List ℕ → Handle → Type 0
Named es (one e) = Memᴰ e es
Named es (two e f) = (e < f) × Memᴰ e es × Memᴰ f es

named_in : (es : List ℕ) → Rising es → (h : Handle) → Named es h → Memᴰ h (handles es)
unfolding handles
named_in [] u (one e) m = absurd (Memᴰ.not-nil m)
named_in [] u (two e f) m = absurd (Memᴰ.not-nil m.1)
named_in (x ∷ es) u (one e) m = go (named_in es u.1 (one e)) (Memᴰ.cases_cons m)
  where
    go : (Memᴰ e es → Memᴰ (one e) (handles es)) → (e ≡ x) ⊎ Memᴰ e es → Memᴰ (one e) (handles (x ∷ es))
    go r (inl q) = Memᴰ.head (ap one q)
    go r (inr i) = Memᴰ.tail (Memᴰ.append_right (pairs_with x es) (r i))
named_in (x ∷ es) u (two e f) m = go (named_in es u.1 (two e f)) (Memᴰ.cases_cons m.1) (Memᴰ.cases_cons m.2)
  where
    go : (Named es (two e f) → Memᴰ (two e f) (handles es)) → (e ≡ x) ⊎ Memᴰ e es → (f ≡ x) ⊎ Memᴰ f es → Memᴰ (two e f) (handles (x ∷ es))
    go r (inl p) (inl q) = let l = m.0 in absurd (omega arith)
    go r (inl p) (inr j) = Memᴰ.tail (Memᴰ.append_left (handles es) (Memᴰ.cast (ap (λ (z : ℕ). two z f) p) (Memᴰ.map (λ z. two x z) j)))
    go r (inr i) (inl q) = let l = m.0 in let k = u.0 e i in absurd (omega arith)
    go r (inr i) (inr j) = Memᴰ.tail (Memᴰ.append_right (pairs_with x es) (r (m.0, i, j)))

named-of : (es : List ℕ) → Rising es → (h : Handle) → Memᴰ h (handles es) → Named es h
unfolding handles
named-of [] u h m = absurd (Memᴰ.not-nil m)
named-of (x ∷ es) u h m = go (named-of es u.1 h) (Memᴰ.cases_cons m)
  where
    behind : (h : Handle) → Named es h → Named (x ∷ es) h
    behind (one e) i = Memᴰ.tail i
    behind (two e f) p = (p.0, Memᴰ.tail p.1, Memᴰ.tail p.2)

    deeper : (Memᴰ h (handles es) → Named es h) → Memᴰ h (pairs_with x es) ⊎ Memᴰ h (handles es) → Named (x ∷ es) h
    deeper r (inl i) =
        let o = Memᴰ.of_map (λ f. two x f) es i in
        subst (Named (x ∷ es)) o.2 (u.0 o.0 o.1, Memᴰ.head refl, Memᴰ.tail o.1)
    deeper r (inr i) = behind h (r i)

    go : (Memᴰ h (handles es) → Named es h) → (h ≡ one x) ⊎ Memᴰ h (pairs_with x es ++ handles es) → Named (x ∷ es) h
    go r (inl q) = subst (Named (x ∷ es)) (sym q) (Memᴰ.head refl)
    go r (inr i) = deeper r (Memᴰ.append_cases (pairs_with x es) i)

-- the handles stand in that order
pub handles-order : (es : List ℕ) → Rising es → Each Sooner (handles es)
unfolding handles
handles-order [] u = tt
handles-order (x ∷ es) u = (
  λ h m. single h (Memᴰ.append_cases (pairs_with x es) m),
  each_append (pairs_with x es) (handles es) (each_map ◌<◌ Sooner (λ f. two x f) (λ e f l. inr (refl, l)) es u.1) (handles-order es u.1)
      (λ g h i j. let o = Memᴰ.of_map (λ f. two x f) es i in subst (λ (y : Handle). Sooner y h) o.2 (double o.0 h (named-of es u.1 h j))),
)
  where
    later : (h : Handle) → Named es h → Sooner (one x) h
    later (one e) n = u.0 e n
    later (two e f) n = let l = u.0 e n.1 in omega arith

    double : (f : ℕ) (h : Handle) → Named es h → Sooner (two x f) h
    double f (one e) n = u.0 e n
    double f (two e g) n = inl (u.0 e n.1)

    single : (h : Handle) → Memᴰ h (pairs_with x es) ⊎ Memᴰ h (handles es) → Sooner (one x) h
    single h (inl m) = let o = Memᴰ.of_map (λ f. two x f) es m in subst (Sooner (one x)) o.2 (le_refl x)
    single h (inr m) = later h (named-of es u.1 h m)

-- ---- selections

pub select_congr : (n : ℕ) (f g : ℕ → Bool) → ((k : ℕ) → k < n → f k ≡ g k) → select n f ≡ select n g
unfolding select
select_congr zero f g h = refl
select_congr (suc n) f g h = rw (select_congr n f g (λ k b. h k (omega arith)), h n (omega arith))

module _ (p : ℕ → Bool) where
  pub select_in : (m k : ℕ) → k < m → p k ≡ true → Memᴰ k (select m p)
  unfolding select
  select_in zero = λ k b. absurd (not-suc-le-zero b)
  select_in (suc m) = all-suc (λ k. p k ≡ true → Memᴰ k (select (suc m) p)) m
      (λ k b e. Memᴰ.append_left (cond (p m) (m ∷ []) []) (select_in m k b e))
      (λ e. Memᴰ.append_right (select m p) (rw e (Memᴰ.head refl)))

  pub select-of : (m : ℕ) {k : ℕ} → Memᴰ k (select m p) → (k < m) × (p k ≡ true)
  unfolding select
  select-of zero i = absurd (Memᴰ.not-nil i)
  select-of (suc m) {k} i = step (select-of m) (Memᴰ.append_cases (select m p) i)
    where
      last : (b : Bool) → p m ≡ b → Memᴰ k (cond b (m ∷ []) []) → (k < suc m) × (p k ≡ true)
      last true e j = let q = Memᴰ.eq_of_singleton j in (omega arith, rw q e)
      last false e j = absurd (Memᴰ.not-nil j)

      step : (Memᴰ k (select m p) → (k < m) × (p k ≡ true)) → Memᴰ k (select m p) ⊎ Memᴰ k (cond (p m) (m ∷ []) []) → (k < suc m) × (p k ≡ true)
      step r (inl j) = let q = r j in (omega arith, q.1)
      step r (inr j) = last (p m) refl j

  select-rising : (m : ℕ) → Rising (select m p)
  unfolding select
  select-rising zero = tt
  select-rising (suc m) = go (p m) (select-rising m)
    where
      go : (b : Bool) → Rising (select m p) → Rising (select m p ++ cond b (m ∷ []) [])
      go true r = each_append (select m p) (m ∷ []) r (λ y i. absurd (Memᴰ.not-nil i), tt) (λ x y i j. rw (Memᴰ.eq_of_singleton j) (select-of m i).0)
      go false r = rw append-nil r

module _ (net : Network) (t : Tree) where
  pub member_in : {k : ℕ} → Member net t k → Memᴰ k (member_links net t)
  unfolding member_links
  member_in {k} m = select_in (λ j. flag t.members j) (link_count net) k m.is_link m.is_set

  pub member_of : {k : ℕ} → Memᴰ k (member_links net t) → Member net t k
  unfolding member_links
  member_of i = let q = select-of (λ j. flag t.members j) (link_count net) i in record { is_link = q.0; is_set = q.1 }

  pub members-rising : Each ◌<◌ (member_links net t)
  unfolding member_links
  members-rising = select-rising (λ j. flag t.members j) (link_count net)

  pub handle_in : (h : Handle) → Fits net t h → Memᴰ h (handles (member_links net t))
  handle_in (one e) m = named_in (member_links net t) members-rising (one e) (member_in m)
  handle_in (two e f) m = named_in (member_links net t) members-rising (two e f) (m.0, member_in m.1, member_in m.2)

  pub handle-of : (h : Handle) → Memᴰ h (handles (member_links net t)) → Fits net t h
  handle-of h i = fit h (named-of (member_links net t) members-rising h i)
    where
      fit : (h : Handle) → Named (member_links net t) h → Fits net t h
      fit (one e) m = member_of m
      fit (two e f) m = (m.0, member_of m.1, member_of m.2)

-- ---- candidates

-- c is the candidate of a handle of one of the trees ts, which are numbered from i
record Stands (net : Network) (i : ℕ) (ts : List Tree) (c : Candidate) : Type 0 where
  place : ℕ
  inside : place < length ts
  handle : Handle
  fits : Fits net (get_or ts place no_tree) handle
  is : c ≡ candidate net (i + place) (get_or ts place no_tree) handle

stands_in : (net : Network) (i : ℕ) (ts : List Tree) (c : Candidate) → Stands net i ts c → Memᴰ c (candidates_from net i ts)
unfolding candidates_from
stands_in net i [] c s = absurd (not-suc-le-zero s.inside)
stands_in net i (t ∷ ts) c s = step s.place s.inside s.fits s.is (stands_in net (suc i) ts c)
  where
    step : (j : ℕ) → j < suc (length ts) → Fits net (get_or (t ∷ ts) j no_tree) s.handle → c ≡ candidate net (i + j) (get_or (t ∷ ts) j no_tree) s.handle
        → (Stands net (suc i) ts c → Memᴰ c (candidates_from net (suc i) ts))
        → Memᴰ c (map (λ h. candidate net i t h) (handles (member_links net t)) ++ candidates_from net (suc i) ts)
    step zero b f q r = Memᴰ.append_left _ (Memᴰ.cast (q ∙ ap (λ (k : ℕ). candidate net k t s.handle) (omega arith)) (Memᴰ.map (λ h. candidate net i t h) (handle_in net t s.handle f)))
    step (suc j) b f q r =
        Memᴰ.append_right (map (λ h. candidate net i t h) (handles (member_links net t)))
        (r (record { place = j; inside = omega arith; handle = s.handle; fits = f; is = q ∙ ap (λ (k : ℕ). candidate net k (get_or ts j no_tree) s.handle) (omega arith) }))

stands_of : (net : Network) (i : ℕ) (ts : List Tree) (c : Candidate) → Memᴰ c (candidates_from net i ts) → Stands net i ts c
unfolding candidates_from
stands_of net i [] c m = absurd (Memᴰ.not-nil m)
stands_of net i (t ∷ ts) c m = step (stands_of net (suc i) ts c) (Memᴰ.append_cases (map (λ h. candidate net i t h) (handles (member_links net t))) m)
  where
    behind : Stands net (suc i) ts c → Stands net i (t ∷ ts) c
    behind s = record {
      place = suc s.place;
      inside = let b = s.inside in omega arith;
      handle = s.handle;
      fits = s.fits;
      is = s.is ∙ ap (λ (k : ℕ). candidate net k (get_or ts s.place no_tree) s.handle) (omega arith);
    }

    step : (Memᴰ c (candidates_from net (suc i) ts) → Stands net (suc i) ts c)
        → Memᴰ c (map (λ h. candidate net i t h) (handles (member_links net t))) ⊎ Memᴰ c (candidates_from net (suc i) ts) → Stands net i (t ∷ ts) c
    step r (inl k) =
        let o = Memᴰ.of_map (λ h. candidate net i t h) (handles (member_links net t)) k in
        record { place = 0; inside = omega arith; handle = o.0; fits = handle-of net t o.0 o.1; is = sym o.2 ∙ ap (λ (k : ℕ). candidate net k t o.0) (omega arith) }
    step r (inr k) = behind (r k)

pub candidate_in : (net : Network) (i : ℕ) (h : Handle) → i < length net.trees → Fits net (tree_at net i) h → Memᴰ (candidate net i (tree_at net i) h) (candidates net)
unfolding candidates
candidate_in net i h b f =
    stands_in net 0 net.trees _ (record { place = i; inside = b; handle = h; fits = f; is = ap (λ (k : ℕ). candidate net k (tree_at net i) h) (omega arith) })

-- c is what its tree and its handle say
pub record Genuine (net : Network) (c : Candidate) : Type 0 where
  pub inside : c.tree < length net.trees
  pub fits : Fits net (tree_at net c.tree) c.handle
  pub is : c ≡ candidate net c.tree (tree_at net c.tree) c.handle

pub candidate-of : (net : Network) (c : Candidate) → Memᴰ c (candidates net) → Genuine net c
unfolding candidates
candidate-of net c m = from (stands_of net 0 net.trees c m)
  where
    at : (i : ℕ) (h : Handle) → i < length net.trees → Fits net (tree_at net i) h → Genuine net (candidate net i (tree_at net i) h)
    at i h b f = record { inside = b; fits = f; is = refl }

    from : Stands net 0 net.trees c → Genuine net c
    from s = subst (Genuine net) (sym (s.is ∙ ap (λ (k : ℕ). candidate net k (tree_at net s.place) s.handle) (omega arith))) (at s.place s.handle s.inside s.fits)

earlier-from : (net : Network) (i : ℕ) (ts : List Tree) → Each Earlier (candidates_from net i ts)
unfolding candidates_from candidate
earlier-from net i [] = tt
earlier-from net i (t ∷ ts) =
    each_append (map (λ h. candidate net i t h) (handles (member_links net t))) (candidates_from net (suc i) ts)
    (each_map Sooner Earlier (λ h. candidate net i t h) (λ g h n. inr (refl, n)) (handles (member_links net t)) (handles-order (member_links net t) (members-rising net t))) (earlier-from net (suc i) ts)
    (λ c d m n.
    let o = Memᴰ.of_map (λ h. candidate net i t h) (handles (member_links net t)) m in
    let s = stands_of net (suc i) ts d n in
    let a : i ≡ c.tree = ap (λ (x : Candidate). x.tree) o.2 in
    let b : d.tree ≡ suc i + s.place = ap (λ (x : Candidate). x.tree) s.is in
    inl (omega arith))

-- the candidates stand in that order
pub candidates-earlier : (net : Network) → Each Earlier (candidates net)
unfolding candidates
candidates-earlier net = earlier-from net 0 net.trees
