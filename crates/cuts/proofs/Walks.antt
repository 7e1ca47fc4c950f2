-- What `joined` and `below` say in terms of walks: a node is joined to the root where a walk along chosen links leads there; a walk along
-- the members of a spanning tree that takes no link twice takes a member exactly where one of its two ends lies below it; and so there
-- is one such walk between two nodes and no other, the tree path.
-- Assumes nothing.
use Prim.Native.Nat.{ℕ, zero, suc, ◌<◌}
use mathlib.Core.Path.{◌≡◌, refl, sym, ap, ◌∙◌, subst}
use mathlib.Core.Logic.{◌⊎◌, inl, inr, ◌↔◌}
use mathlib.Core.Bool.{Bool, true, false, ◌&&◌, xor, and-eq-true_iff}
use mathlib.Core.List.Memᴰ
use mathlib.Core.List.{List, [], ◌∷◌, ◌++◌, Memᴰ}
use lib.Dec.{eqb}
use borrow.Author.Tests.{eqb-true, eq-eqb, ne_eqb}
use Rattle.cuts.specs.Network.{Tree, Network, flag, link_at, Linked}
use Rattle.cuts.specs.Cut.{Side, crosses}
use Rattle.cuts.specs.Tree.{spreads, root, joined, spans, below, Spanning, Member}
use Rattle.cuts.specs.Paths.{Meets, forth, back, Walk, stop, step, Distinct, Trail, TreePath, Reachable, Reaches, Paths}
use Rattle.cuts.proofs.FlagLaws.{clash, truth, xor_self, xor-false, xor_via}
use Rattle.cuts.proofs.SumLaws.{all_to-at, table_at}
use Rattle.cuts.proofs.Joined.{Lead, turned, meets_in, crosses-meets, spread-from, joined-lead, joined-root}
use Rattle.cuts.proofs.CutLaws.{crosses-is}
use Rattle.cuts.proofs.Spanning.{below-crosses, below-rootless}

-- ---- how often a walk takes a link, odd or even

unfoldable pub odd : ℕ → List ℕ → Bool
unfolding xor
odd e [] = false
odd e (k ∷ ks) = xor (eqb e k) (odd e ks)

pub odd_absent : (e : ℕ) (ks : List ℕ) → (Memᴰ e ks → ⊥) → odd e ks ≡ false
unfolding odd xor
odd_absent e [] h = refl
odd_absent e (k ∷ ks) h = rw (ne_eqb e k (λ q. h (Memᴰ.head q)), odd_absent e ks (λ m. h (Memᴰ.tail m)))

pub odd_in : (e : ℕ) (ks : List ℕ) → Distinct ks → Memᴰ e ks → odd e ks ≡ true
unfolding odd xor
odd_in e [] d m = absurd (Memᴰ.not-nil m)
odd_in e (k ∷ ks) d m = go (odd_in e ks d.1) (Memᴰ.cases_cons m)
  where
    go : (Memᴰ e ks → odd e ks ≡ true) → (e ≡ k) ⊎ Memᴰ e ks → xor (eqb e k) (odd e ks) ≡ true
    go r (inl q) = rw (eq-eqb e k q, odd_absent e ks (λ i. d.0 (Memᴰ.cast (sym q) i)))
    go r (inr i) = rw (ne_eqb e k (λ q. d.0 (Memᴰ.cast (sym q) i)), r i)

pub odd-of : (e : ℕ) (ks : List ℕ) → odd e ks ≡ true → Memᴰ e ks
unfolding odd xor
odd-of e [] h = clash h refl
odd-of e (k ∷ ks) h = go (truth (eqb e k)) (odd-of e ks)
  where
    go : (eqb e k ≡ true) ⊎ (eqb e k ≡ false) → (odd e ks ≡ true → Memᴰ e ks) → Memᴰ e (k ∷ ks)
    go (inl q) r = Memᴰ.head (eqb-true e k q)
    go (inr q) r = Memᴰ.tail (r (odds (odd e ks) (rw q at h)))
      where
        odds : (b : Bool) → xor false b ≡ true → b ≡ true
        odds true h = refl
        odds false h = h

module _ {net : Network} {t : Tree} (g : Spanning net t) (e : ℕ) (m : Member net t e) where
  walk_odd : {x y : ℕ} {ks : List ℕ} → Walk net t.members x y ks → xor (flag (below net t e) x) (flag (below net t e) y) ≡ odd e ks
  unfolding odd
  walk_odd {x} {y} (stop q) = rw q (xor_self (flag (below net t e) y))
  walk_odd {x} (step {k = k} {y = y} {z = z} b c i w) =
      xor_via (flag (below net t e) x) (flag (below net t e) y) (flag (below net t e) z)
      ∙ rw (← crosses-meets (below net t e) i, walk_odd w, below-crosses g e m k (record { is_link = b; is_set = c }))

  -- a walk that takes no link twice takes e exactly where one of its ends lies below e
  pub walk_takes : {x y : ℕ} {ks : List ℕ} → Walk net t.members x y ks → Distinct ks → Memᴰ e ks ↔ (xor (flag (below net t e) x) (flag (below net t e) y) ≡ true)
  walk_takes {ks = ks} w d = (λ i. walk_odd w ∙ odd_in e ks d i, λ h. odd-of e ks (sym (walk_odd w) ∙ h))

  -- so a walk to the root takes e exactly where it starts below e
  pub walk_home_takes : {x : ℕ} {ks : List ℕ} → Walk net t.members x 0 ks → Distinct ks → Memᴰ e ks ↔ (flag (below net t e) x ≡ true)
  walk_home_takes {x} w d = let r = walk_takes w d in rw ((below-rootless g e m).without, xor-false (flag (below net t e) x)) at r

-- ---- walks that take no link twice

abbrev Trails : Network → List Bool → ℕ → ℕ → Type 0
Trails net chosen x y = (ks : List ℕ) × Trail net chosen x y ks

meets-same : {net : Network} {k a b x y : ℕ} → Meets net k a b → Meets net k x y → (a ≡ x) ⊎ (b ≡ x)
meets-same (forth p q) (forth u v) = inl (sym p ∙ u)
meets-same (forth p q) (back u v) = inr (sym q ∙ u)
meets-same (back p q) (forth u v) = inr (sym q ∙ u)
meets-same (back p q) (back u v) = inl (sym p ∙ u)

module _ {net : Network} {chosen : List Bool} where
  from : {x y z : ℕ} {ks : List ℕ} → x ≡ y → Walk net chosen x z ks → Walk net chosen y z ks
  from {z = z} {ks = ks} q w = subst (λ (u : ℕ). Walk net chosen u z ks) q w

  -- there and on from the same start
  pub around : {x y z : ℕ} {ks js : List ℕ} → Walk net chosen x y ks → Walk net chosen x z js → (ls : List ℕ) × Walk net chosen y z ls
  around {js = js} (stop q) v = (js, from q v)
  around (step b c m w) v = around w (step b c (turned m) v)

  -- a walk to a node with a link at hand that it takes: from that link's end
  short_cut : {a x y z k : ℕ} {ks : List ℕ} → Walk net chosen a z ks → Distinct ks → Memᴰ k ks → Meets net k x y → Trails net chosen x z
  short_cut (stop q) d i m = absurd (Memᴰ.not-nil i)
  short_cut {x = x} {y = y} {z = z} {k = k} (step {k = j} {x = a} {y = b} {ks = ks} l c n w) d i m = go (Memᴰ.cases_cons i) (λ h. short_cut w d.1 h m)
    where
      there : (a ≡ x) ⊎ (b ≡ x) → Trails net chosen x z
      there (inl q) = (j ∷ ks, (from q (step l c n w), d))
      there (inr q) = (ks, (from q w, d.1))

      go : (k ≡ j) ⊎ Memᴰ k ks → (Memᴰ k ks → Trails net chosen x z) → Trails net chosen x z
      go (inl q) r = there (meets-same n (subst (λ (h : ℕ). Meets net h x y) q m))
      go (inr h) r = r h

  pub trail : {x y : ℕ} {ks : List ℕ} → Walk net chosen x y ks → Trails net chosen x y
  trail (stop q) = ([], (stop q, tt))
  trail (step {k = k} {x = x} {y = y} {z = z} b c m w) = go (trail w)
    where
      go : Trails net chosen y z → Trails net chosen x z
      go (ks, (v, d)) = known (truth (odd k ks))
        where
          known : (odd k ks ≡ true) ⊎ (odd k ks ≡ false) → Trails net chosen x z
          known (inl q) = short_cut v d (odd-of k ks q) m
          known (inr q) = (k ∷ ks, (step b c m v, (λ i. clash (odd_in k ks d i) q, d)))

-- ---- what is joined to the root is what has a walk there

module _ (net : Network) (l : Linked net) (chosen : List Bool) where
  home : (r x : ℕ) → x < net.nodes → flag (spreads r net chosen (root net)) x ≡ true → Reachable net chosen x
  unfolding spreads root
  home zero x b h = ([], stop (eqb-true x 0 (sym (table_at false net.nodes (λ y. eqb y 0) x b) ∙ h)))
  home (suc r) x b h = go (spread-from net chosen (spreads r net chosen (root net)) x b h) (home r)
    where
      go : {s : Side} → (flag s x ≡ true) ⊎ Lead net chosen s x → ((y : ℕ) → y < net.nodes → flag s y ≡ true → Reachable net chosen y) → Reachable net chosen x
      go (inl p) i = i x b p
      go (inr d) i = let w = i d.far (meets_in l d.is_link (turned d.meets)) d.inside in (d.link ∷ w.0, step d.is_link d.is_chosen d.meets w.1)

  pub joined-trail : (x : ℕ) → x < net.nodes → flag (joined net chosen) x ≡ true → Trails net chosen x 0
  unfolding joined
  joined-trail x b h = trail (home net.nodes x b h).1

  pub walk_joined : {x y : ℕ} {ks : List ℕ} → Walk net chosen x y ks → flag (joined net chosen) y ≡ true → flag (joined net chosen) x ≡ true
  walk_joined (stop q) h = ap (flag (joined net chosen)) q ∙ h
  walk_joined (step {k = k} {y = y} b c m w) h =
      joined-lead net chosen _ (meets_in l b m) (record { link = k; far = y; is_link = b; is_chosen = c; meets = m; inside = walk_joined w h })

  pub reaches : Reaches net chosen
  reaches = record { joined_is = λ x b. (λ h. let r = joined-trail x b h in (r.0, r.1.0), λ r. walk_joined r.1 (joined-root net chosen l)) }

-- ---- a walk taken apart

-- the walk from x to z takes k from `here` to `there`
record Taken (net : Network) (chosen : List Bool) (x z k : ℕ) (ks : List ℕ) : Type 0 where
  here : ℕ
  there : ℕ
  front : List ℕ
  behind : List ℕ
  splits : ks ≡ front ++ k ∷ behind
  before : Walk net chosen x here front
  meets : Meets net k here there
  after : Walk net chosen there z behind

taken : {net : Network} {chosen : List Bool} {x z k : ℕ} {ks : List ℕ} → Walk net chosen x z ks → Memᴰ k ks → Taken net chosen x z k ks
taken (stop q) i = absurd (Memᴰ.not-nil i)
taken {net} {chosen} {k = k} (step {k = j} {x = x} {y = y} {z = z} {ks = ks} b c m w) i = go (Memᴰ.cases_cons i) (λ h. taken w h)
  where
    go : (k ≡ j) ⊎ Memᴰ k ks → (Memᴰ k ks → Taken net chosen y z k ks) → Taken net chosen x z k (j ∷ ks)
    go (inl q) r = record {
      here = x;
      there = y;
      front = [];
      behind = ks;
      splits = ap (λ (h : ℕ). h ∷ ks) (sym q);
      before = stop refl;
      meets = subst (λ (h : ℕ). Meets net h x y) (sym q) m;
      after = w;
    }
    go (inr h) r = let s = r h in record {
      here = s.here;
      there = s.there;
      front = j ∷ s.front;
      behind = s.behind;
      splits = ap (λ (hs : List ℕ). j ∷ hs) s.splits;
      before = step b c m s.before;
      meets = s.meets;
      after = s.after;
    }

distinct_parts : {A : Type 0} (front : List A) {k : A} {behind : List A} → Distinct (front ++ k ∷ behind) → Distinct front × (Memᴰ k behind → ⊥) × Distinct behind
distinct_parts [] d = (tt, d.0, d.1)
distinct_parts (x ∷ front) d = let r = distinct_parts front d.1 in ((λ i. d.0 (Memᴰ.append_left _ i), r.0), r.1, r.2)

-- the other end of a link
meets-other : {net : Network} {k a b x y : ℕ} → Meets net k a b → Meets net k x y → a ≡ x → b ≡ y
meets-other (forth p q) (forth u v) e = sym q ∙ v
meets-other (forth p q) (back u v) e = sym q ∙ u ∙ sym e ∙ sym p ∙ v
meets-other (back p q) (forth u v) e = sym q ∙ u ∙ sym e ∙ sym p ∙ v
meets-other (back p q) (back u v) e = sym q ∙ v

-- ---- tree paths

module _ {net : Network} {t : Tree} (g : Spanning net t) where
  -- every node has a trail to the root along members, and every two nodes have one
  pub trail-home : (x : ℕ) → x < net.nodes → Trails net t.members x 0
  unfolding spans
  trail-home x b = joined-trail net g.linked t.members x b (all_to-at net.nodes (λ y. flag (joined net t.members) y) g.spanning x b)

  pub trail-between : (x y : ℕ) → x < net.nodes → y < net.nodes → Trails net t.members x y
  trail-between x y b c = trail (around (around (trail-home x b).1.0 (stop refl)).1 (around (trail-home y c).1.0 (stop refl)).1).1

  -- a link crosses the side below e exactly where the trail between its ends takes e
  pub link-takes : (e : ℕ) → Member net t e → (k : ℕ) {ks : List ℕ} → Walk net t.members (link_at net k).first (link_at net k).second ks → Distinct ks
      → Memᴰ e ks ↔ (crosses net (below net t e) k ≡ true)
  link-takes e m k w d = rw (crosses-is net (below net t e) k) (walk_takes g e m w d)

  first_member : {x z k : ℕ} {ks : List ℕ} → Walk net t.members x z (k ∷ ks) → Member net t k
  first_member (step b c m w) = record { is_link = b; is_set = c }

  -- a walk that comes back and takes no link twice takes none
  closed_none : (ks : List ℕ) {x z : ℕ} → Walk net t.members x z ks → x ≡ z → Distinct ks → ks ≡ []
  closed_none [] w q d = refl
  closed_none (k ∷ ks) {x} {z} w q d =
      clash ((walk_takes g k (first_member w) w d).0 (Memᴰ.head refl)) (ap (λ (y : ℕ). xor (flag (below net t k) y) (flag (below net t k) z)) q ∙ xor_self (flag (below net t k) z))

  -- two walks between the same nodes that take no link twice take the same links
  same-links : {x z k : ℕ} {ks js : List ℕ} → Walk net t.members x z ks → Distinct ks → Walk net t.members x z js → Distinct js → Member net t k → Memᴰ k ks → Memᴰ k js
  same-links {k = k} w d v e m i = (walk_takes g k m v e).1 ((walk_takes g k m w d).0 i)

  no_end : {x z : ℕ} → Walk net t.members x z [] → x ≡ z
  no_end (stop q) = q

  pub only-trail : (ks js : List ℕ) {x z : ℕ} → Walk net t.members x z ks → Distinct ks → Walk net t.members x z js → Distinct js → ks ≡ js
  only-trail [] js w d v e = sym (closed_none js v (no_end w) e)
  only-trail (k ∷ ks) js {x} {z} (step {y = y} b c m w) d v e = go (taken v (same-links {k = k} (step b c m w) d v e (record { is_link = b; is_set = c }) (Memᴰ.head refl))) (λ hs u v. only-trail ks hs)
    where
      go : Taken net t.members x z k js → ((hs : List ℕ) (u v : ℕ) → Walk net t.members u v ks → Distinct ks → Walk net t.members u v hs → Distinct hs → ks ≡ hs) → k ∷ ks ≡ js
      go s r = at (meets-same s.meets m)
        where
          parts : Distinct s.front × (Memᴰ k s.behind → ⊥) × Distinct s.behind
          parts = distinct_parts s.front (rw s.splits at e)

          at : (s.here ≡ x) ⊎ (s.there ≡ x) → k ∷ ks ≡ js
          at (inl q) =
              let f = closed_none s.front s.before (sym q) parts.0 in
              let h = r s.behind y z w d.1 (from (meets-other s.meets m q) s.after) parts.2 in
              ap (λ (hs : List ℕ). k ∷ hs) h ∙ ap (λ (hs : List ℕ). hs ++ k ∷ s.behind) (sym f) ∙ sym s.splits
          at (inr q) = absurd (parts.1 (same-links {k = k} (step b c m w) d (from q s.after) parts.2 (record { is_link = b; is_set = c }) (Memᴰ.head refl)))

  -- what the definitions say of the tree paths
  pub paths : Paths net t
  paths = record {
    path = trail-between;
    only_path = λ {x} {y} {ks} {js} w v. only-trail ks js w.0 w.1 v.0 v.1;
    takes_is = λ e m w. walk_takes g e m w.0 w.1;
    below_is = λ e m w. let r = walk_home_takes g e m w.0 w.1 in (r.1, r.0);
    shared_is = shared;
  }
    where
      shared : (e f : ℕ) → Member net t e → Member net t f → (k : ℕ) {ks : List ℕ} → TreePath net t (link_at net k).first (link_at net k).second ks
          → ((crosses net (below net t e) k && crosses net (below net t f) k) ≡ true) ↔ (Memᴰ e ks × Memᴰ f ks)
      shared e f m n k w =
          let p = link-takes e m k w.0 w.1 in
          let q = link-takes f n k w.0 w.1 in
          (λ h. let r = (and-eq-true_iff (crosses net (below net t e) k) _).0 h in (p.1 r.0, q.1 r.1), λ i. rw (p.0 i.0, q.0 i.1))
