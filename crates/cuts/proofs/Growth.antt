-- A spanning tree grows from the root: each of its members, once, adds the node at its other end.
-- Assumes nothing.
use Prim.Native.Nat.{ℕ, zero, suc, ◌+◌, ◌≤◌, ◌<◌}
use mathlib.Core.Path.{◌≡◌, refl, sym, ap, ◌∙◌}
use mathlib.Core.Logic.{◌⊎◌, inl, inr}
use mathlib.Core.Bool.{Bool, true, false, ◌&&◌, not, xor, and-eq-true_iff}
use mathlib.Core.List.Memᴰ
use mathlib.Core.List.{List, [], ◌∷◌, Memᴰ}
use native.Mathlib.Omega.{arith}
use lib.ListN.{length, set, length-set}
use lib.Seq.{get_or-set_same, get_or-set_other}
use lib.Dec.{eqb}
use borrow.Author.Tests.{eqb-true, eqb-false, not-true}
use Rattle.cuts.specs.Sums.{only, any_to, count_to}
use Rattle.cuts.specs.Network.{Tree, Network, flag, link_at, link_count, Linked}
use Rattle.cuts.specs.Cut.{Side, size}
use Rattle.cuts.specs.Tree.{root, spread, member_count, Spanning, Member}
use Rattle.cuts.specs.Paths.{Distinct, Meets, forth, back}
use Rattle.cuts.proofs.FlagLaws.{clash, agree, truth, eqb_comm}
use Rattle.cuts.proofs.SumLaws.{any_to-some, any_to-at, sum_congr, sum-add, sum_const, sum-single, sum_tight, count-more, table-length, table_at}
use Rattle.cuts.proofs.Joined.{Lead, held, meets_in, spread-lead, spread-from, size-most, root-size}
use Rattle.cuts.proofs.Spanning.{closed_all}
use Rattle.cuts.proofs.Walks.{odd, odd_absent, odd-of}

-- s was grown from the root by the links ks, the last of them first
pub data Grown (net : Network) (chosen : List Bool) : Side → List ℕ → Type 0 where
  seed : Grown net chosen (root net) []
  grow : {s : Side} {ks : List ℕ} {x : ℕ} → Grown net chosen s ks → x < net.nodes → flag s x ≡ false → (d : Lead net chosen s x) → Grown net chosen (set s x true) (d.link ∷ ks)

module _ (net : Network) (l : Linked net) (chosen : List Bool) where
  pub grown-length : {s : Side} {ks : List ℕ} → Grown net chosen s ks → length s ≡ net.nodes
  unfolding root
  grown-length seed = table-length net.nodes _
  grown-length (grow {s = s} {x = x} g b f d) = length-set s x true ∙ grown-length g

  -- one more node
  keeps : (s : Side) (x y : ℕ) → length s ≡ net.nodes → x < net.nodes → flag s y ≡ true → flag (set s x true) y ≡ true
  keeps s x y e b h = go (truth (eqb x y))
    where
      go : (eqb x y ≡ true) ⊎ (eqb x y ≡ false) → flag (set s x true) y ≡ true
      go (inl q) = rw (← eqb-true x y q) (get_or-set_same s x true false (rw e b))
      go (inr q) = get_or-set_other s x y true false (λ p. eqb-false x y q (sym p)) ∙ h

  size-set : (s : Side) (x : ℕ) → length s ≡ net.nodes → x < net.nodes → flag s x ≡ false → size net (set s x true) ≡ suc (size net s)
  unfolding size
  size-set s x e b f =
      count-more net.nodes (flag s) (flag (set s x true)) x b f (get_or-set_same s x true false (rw e b)) (λ y _ n. get_or-set_other s x y true false n)

  pub grown-size : {s : Side} {ks : List ℕ} → Grown net chosen s ks → size net s ≡ suc (length ks)
  grown-size seed = root-size net chosen l
  grown-size (grow {s = s} {x = x} g b f d) = size-set s x (grown-length g) b f ∙ ap suc (grown-size g)

  grown-root : {s : Side} {ks : List ℕ} → Grown net chosen s ks → flag s 0 ≡ true
  unfolding root
  grown-root seed = table_at false net.nodes (λ y. eqb y 0) 0 l.rooted
  grown-root (grow {s = s} {x = x} g b f d) = keeps s x 0 (grown-length g) b (grown-root g)

  held_end : {k x y : ℕ} (s : Side) → Meets net k x y → held net s k ≡ true → flag s x ≡ true
  held_end {k} s (forth p q) h = sym (ap (flag s) p) ∙ ((and-eq-true_iff (flag s (link_at net k).first) _).0 h).0
  held_end {k} s (back p q) h = sym (ap (flag s) p) ∙ ((and-eq-true_iff (flag s (link_at net k).first) _).0 h).1

  held_both : {k x y : ℕ} (s : Side) → Meets net k x y → flag s x ≡ true → flag s y ≡ true → held net s k ≡ true
  held_both s (forth p q) a b = rw (ap (flag s) p ∙ a, ap (flag s) q ∙ b)
  held_both s (back p q) a b = rw (ap (flag s) q ∙ b, ap (flag s) p ∙ a)

  -- the links are chosen ones, lie within, and differ
  pub grown-within : {s : Side} {ks : List ℕ} → Grown net chosen s ks → (k : ℕ) → Memᴰ k ks → (k < link_count net) × (flag chosen k ≡ true) × (held net s k ≡ true)
  grown-within seed = λ k i. absurd (Memᴰ.not-nil i)
  grown-within (grow {s = s} {ks = ks} {x = x} g b f d) = λ k i. go (grown-within g k) (Memᴰ.cases_cons i)
    where
      kept : (y : ℕ) → flag s y ≡ true → flag (set s x true) y ≡ true
      kept y = keeps s x y (grown-length g) b

      go : {k : ℕ} → (Memᴰ k ks → (k < link_count net) × (flag chosen k ≡ true) × (held net s k ≡ true)) → (k ≡ d.link) ⊎ Memᴰ k ks
          → (k < link_count net) × (flag chosen k ≡ true) × (held net (set s x true) k ≡ true)
      go {k} r (inr i) = let w = r i in let h = (and-eq-true_iff (flag s (link_at net k).first) _).0 w.2 in (w.0, w.1, rw (kept _ h.0, kept _ h.1))
      go r (inl q) = rw q (d.is_link, d.is_chosen, held_both (set s x true) d.meets (get_or-set_same s x true false (rw (grown-length g) b)) (kept _ d.inside))

  pub grown_distinct : {s : Side} {ks : List ℕ} → Grown net chosen s ks → Distinct ks
  grown_distinct seed = tt
  grown_distinct (grow {s = s} g b f d) = (λ i. clash (held_end s d.meets (grown-within g d.link i).2) f, grown_distinct g)

  -- some chosen link leaves s, or none does
  leaves : (s : Side) → ((x : ℕ) × (x < net.nodes) × (flag s x ≡ false) × Lead net chosen s x)
      ⊎ ((k : ℕ) → k < link_count net → flag chosen k ≡ true → flag s (link_at net k).first ≡ flag s (link_at net k).second)
  leaves s = go (truth (any_to net.nodes new))
    where
      new : ℕ → Bool
      new x = flag (spread net chosen s) x && not (flag s x)

      lead : {x : ℕ} → flag s x ≡ false → (flag s x ≡ true) ⊎ Lead net chosen s x → Lead net chosen s x
      lead f (inl t) = clash t f
      lead f (inr d) = d

      none : any_to net.nodes new ≡ false → (k x y : ℕ) → k < link_count net → flag chosen k ≡ true → Meets net k x y → flag s y ≡ true → (c : Bool) → flag s x ≡ c → c ≡ true
      none h k x y b e m t true q = refl
      none h k x y b e m t false q =
          clash (any_to-at net.nodes new x (meets_in l b m)
          (rw (spread-lead net chosen s x (meets_in l b m) (record { link = k; far = y; is_link = b; is_chosen = e; meets = m; inside = t }), q))) h

      go : (any_to net.nodes new ≡ true) ⊎ (any_to net.nodes new ≡ false) → ((x : ℕ) × (x < net.nodes) × (flag s x ≡ false) × Lead net chosen s x)
          ⊎ ((k : ℕ) → k < link_count net → flag chosen k ≡ true → flag s (link_at net k).first ≡ flag s (link_at net k).second)
      go (inl h) =
          let a = any_to-some net.nodes new h in
          let p = (and-eq-true_iff (flag (spread net chosen s) a.0) _).0 a.2 in
          let f = not-true (flag s a.0) p.1 in
          inl (a.0, a.1, f, lead f (spread-from net chosen s a.0 a.1 p.0))
      go (inr h) = inr (λ k b e. agree _ _ (λ t. none h k _ _ b e (forth refl refl) t _ refl) (λ t. none h k _ _ b e (back refl refl) t _ refl))

-- how many numbers a list without repetition holds
distinct_count : (n : ℕ) (ks : List ℕ) → Distinct ks → ((k : ℕ) → Memᴰ k ks → k < n) → count_to n (λ k. odd k ks) ≡ length ks
unfolding odd xor
distinct_count n [] d h = let a = sum_const n 0 in omega arith
distinct_count n (j ∷ ks) d h =
    let r = distinct_count n ks d.1 (λ k i. h k (Memᴰ.tail i)) in
    let a = sum_congr n (λ k. only (xor (eqb k j) (odd k ks)) 1) (λ k. only (eqb j k) 1 + only (odd k ks) 1) (λ k _. rw (eqb_comm k j) (go k (truth (eqb j k)))) in
    let b = sum-add n (λ k. only (eqb j k) 1) (λ k. only (odd k ks) 1) in
    let c = sum-single n j (λ k. 1) (h j (Memᴰ.head refl)) in
    omega arith
  where
    other : (b : Bool) → only (xor false b) 1 ≡ only b 1
    other true = refl
    other false = refl

    go : (k : ℕ) → (eqb j k ≡ true) ⊎ (eqb j k ≡ false) → only (xor (eqb j k) (odd k ks)) 1 ≡ only (eqb j k) 1 + only (odd k ks) 1
    go k (inl q) = rw (q, odd_absent k ks (λ i. d.0 (Memᴰ.cast (eqb-true j k q) i)))
    go k (inr q) = rw q (let e = other (odd k ks) in omega arith)

-- all nodes, grown by all members, each once
pub record Full (net : Network) (t : Tree) : Type 0 where
  pub side : Side
  pub links : List ℕ
  pub grown : Grown net t.members side links
  pub all : (x : ℕ) → x < net.nodes → flag side x ≡ true

module _ {net : Network} {t : Tree} (g : Spanning net t) where
  further : (s : Side) (ks : List ℕ) → Grown net t.members s ks
      → ((x : ℕ) (k : ℕ) → Grown net t.members (set s x true) (k ∷ ks) → size net (set s x true) ≡ suc (size net s) → Full net t) → Full net t
  further s ks w r = go (leaves net g.linked t.members s)
    where
      go : ((x : ℕ) × (x < net.nodes) × (flag s x ≡ false) × Lead net t.members s x)
          ⊎ ((k : ℕ) → k < link_count net → flag t.members k ≡ true → flag s (link_at net k).first ≡ flag s (link_at net k).second) → Full net t
      go (inl d) = r d.0 d.3.link (grow w d.1 d.2 d.3) (size-set net g.linked t.members s d.0 (grown-length net g.linked t.members w) d.1 d.2)
      go (inr h) = record {
        side = s;
        links = ks;
        grown = w;
        all = closed_all g (flag s) (grown-root net g.linked t.members w) (λ k m. h k m.is_link m.is_set);
      }

  grown-from : (r : ℕ) (s : Side) (ks : List ℕ) → Grown net t.members s ks → net.nodes ≤ size net s + r → Full net t
  grown-from zero s ks w b = further s ks w (λ x k v e. let m = size-most net t.members (set s x true) in absurd (omega arith))
  grown-from (suc r) s ks w b = further s ks w (λ x k v e. grown-from r (set s x true) (k ∷ ks) v (omega arith))

  pub grown-full : Full net t
  grown-full = grown-from net.nodes (root net) [] seed (omega arith)

  module _ (f : Full net t) where
    -- in one step fewer than there are nodes
    pub full_steps : suc (length f.links) ≡ net.nodes
    unfolding size
    full_steps =
        let a = sum_congr net.nodes (λ x. only (flag f.side x) 1) (λ x. 1) (λ x b. rw (f.all x b)) in
        let b = sum_const net.nodes 1 in
        let c = grown-size net g.linked t.members f.grown in
        omega arith

    pub full_distinct : Distinct f.links
    full_distinct = grown_distinct net g.linked t.members f.grown

    pub full-within : (k : ℕ) → Memᴰ k f.links → (k < link_count net) × (flag t.members k ≡ true) × (held net f.side k ≡ true)
    full-within = grown-within net g.linked t.members f.grown

    -- every member is used
    pub full-members : (k : ℕ) → Member net t k → Memᴰ k f.links
    unfolding member_count
    full-members k m = odd-of k f.links (is (odd k f.links) (sum_tight (link_count net) _ _ (λ j _. fits j (truth (odd j f.links))) (omega (arith, total)) k m.is_link))
      where
        total : count_to (link_count net) (λ j. odd j f.links) ≡ member_count net t
        total =
            let a = distinct_count (link_count net) f.links full_distinct (λ j i. (full-within j i).0) in
            let b = full_steps in let c = g.counted in omega arith

        fits : (j : ℕ) → (odd j f.links ≡ true) ⊎ (odd j f.links ≡ false) → only (odd j f.links) 1 ≤ only (flag t.members j) 1
        fits j (inl q) = rw (q, (full-within j (odd-of j f.links q)).1) (omega arith)
        fits j (inr q) = rw q (omega arith)

        is : (c : Bool) → only c 1 ≡ only (flag t.members k) 1 → c ≡ true
        is true e = refl
        is false e = absurd (omega (arith, rw m.is_set at e))
