-- Making the order of a tree's nodes: each turn adds the node that hangs by a member on a node reached. Where no member has exactly one
-- end reached and a node is left, the members do not join it to the root.
-- Assumes nothing.
use Prim.Native.Nat.{ℕ, suc, ◌≤◌, ◌<◌}
use mathlib.Core.Path.{◌≡◌, refl, sym, ap, ◌∙◌, subst}
use mathlib.Core.Logic.{◌⊎◌, inl, inr}
use mathlib.Core.Bool.{Bool, true, false}
use mathlib.Core.List.{List}
use native.Mathlib.Omega.{arith}
use lib.ListN.{length, set, length-set}
use lib.Seq.{get_or-set_same, get_or-set_other}
use lib.Dec.{eqb}
use borrow.Author.Tests.{eqb-true, eqb-false}
use Rattle.cuts.specs.Sums.{only, count_to}
use Rattle.cuts.specs.Network.{Tree, Network, Linked, flag, link_at}
use Rattle.cuts.specs.Tree.{Member, joined, spans}
use Rattle.cuts.proofs.FlagLaws.{clash, truth, eqb_comm}
use Rattle.cuts.proofs.SumLaws.{all-suc, all_to-at, sum_congr, sum_const, sum-single, count-more, count-lacks}
use Rattle.cuts.proofs.Joined.{turned, meets_in, joined-within}
use Rattle.arrays.specs.Lists.{entry, marked}
use Rattle.arrays.specs.Order.{Hung, Tied, Listed, Ordered}

-- the order while it is made: the nodes marked in `reached` are those of the first `count` positions
pub record Growing (net : Network) (t : Tree) (reached order parents uplinks : List ℕ) (count : ℕ) : Type 0 where
  pub reached_room : net.nodes ≤ length reached
  pub order_room : net.nodes ≤ length order
  pub parents_room : net.nodes ≤ length parents
  pub uplinks_room : net.nodes ≤ length uplinks
  pub some : 0 < count
  pub counted : count_to net.nodes (marked reached) ≡ count
  pub listed : Listed net t order parents uplinks count
  pub holds : (i : ℕ) → i < count → marked reached (entry order i) ≡ true
  pub found : (x : ℕ) → x < net.nodes → marked reached x ≡ true → (i : ℕ) × (i < count) × (entry order i ≡ x)

-- no member has exactly one end reached
abbrev pub Quiet : Network → Tree → List ℕ → Type 0
Quiet net t reached = (k : ℕ) → Member net t k → marked reached (link_at net k).first ≡ marked reached (link_at net k).second

module _ {net : Network} {t : Tree} (l : Linked net) where
  -- the root alone
  pub growing-start : (reached order parents uplinks : List ℕ) → net.nodes ≤ length reached → net.nodes ≤ length order → net.nodes ≤ length parents
      → net.nodes ≤ length uplinks → ((x : ℕ) → x < net.nodes → entry reached x ≡ 0) → Growing net t (set reached 0 1) (set order 0 0) parents uplinks 1
  growing-start reached order parents uplinks rs os ps ls f = record {
    reached_room = rw (length-set reached 0 1) rs;
    order_room = rw (length-set order 0 0) os;
    parents_room = ps;
    uplinks_room = ls;
    some = omega arith;
    counted =
        sum_congr net.nodes _ (λ x. only (eqb 0 x) 1) (λ x b. ap (λ (c : Bool). only c 1) (is-root x b (truth (eqb x 0)) ∙ eqb_comm x 0))
        ∙ sum-single net.nodes 0 (λ x. 1) l.rooted;
    listed = record {
      start = start;
      within = λ i b. rw (first i b, start) l.rooted;
      once = λ i j b c _. omega arith;
      tied = λ i b c. absurd (omega arith);
    };
    holds = λ i b. rw (first i b, start) (is-root 0 l.rooted (inl refl));
    found = λ x b h. (0, omega arith, start ∙ sym (eqb-true x 0 (sym (is-root x b (truth (eqb x 0))) ∙ h)));
  }
    where
      start : entry (set order 0 0) 0 ≡ 0
      start = get_or-set_same order 0 0 0 (let z = l.rooted in omega arith)

      first : (i : ℕ) → i < 1 → i ≡ 0
      first i b = omega arith

      is-root : (x : ℕ) → x < net.nodes → (eqb x 0 ≡ true) ⊎ (eqb x 0 ≡ false) → marked (set reached 0 1) x ≡ eqb x 0
      is-root x b (inl q) = let z = l.rooted in rw (q, eqb-true x 0 q, get_or-set_same reached 0 1 0 (omega arith))
      is-root x b (inr q) = rw (q, get_or-set_other reached 0 x 1 0 (eqb-false x 0 q), f x b)

  module _ {reached order parents uplinks : List ℕ} {count : ℕ} (w : Growing net t reached order parents uplinks count) where
    -- one more node x, by the member k
    module _ {k x p : ℕ} (h : Hung net t k x p) (out : marked reached x ≡ false) (into : marked reached p ≡ true) where
      x_in : x < net.nodes
      x_in = meets_in l h.member.is_link h.meets

      p_in : p < net.nodes
      p_in = meets_in l h.member.is_link (turned h.meets)

      room : count < net.nodes
      room = let a = count-lacks net.nodes (marked reached) x x_in out in let c = w.counted in omega arith

      old : (i : ℕ) → i < count → entry (set order count x) i ≡ entry order i
      old i b = get_or-set_other order count i x 0 (λ q. omega arith)

      new : entry (set order count x) count ≡ x
      new = get_or-set_same order count x 0 (let a = room in let b = w.order_room in omega arith)

      apart : (i : ℕ) → i < count → entry order i ≡ x → ⊥
      apart i b q = clash (sym (ap (marked reached) q) ∙ w.holds i b) out

      other : (xs : List ℕ) (a i : ℕ) → i < count → entry (set xs x a) (entry order i) ≡ entry xs (entry order i)
      other xs a i b = get_or-set_other xs x (entry order i) a 0 (apart i b)

      mark_new : marked (set reached x 1) x ≡ true
      mark_new = ap (λ (a : ℕ). eqb a 1) (get_or-set_same reached x 1 0 (let a = x_in in let b = w.reached_room in omega arith))

      mark_old : (y : ℕ) → (y ≡ x → ⊥) → marked (set reached x 1) y ≡ marked reached y
      mark_old y n = ap (λ (a : ℕ). eqb a 1) (get_or-set_other reached x y 1 0 n)

      tied-old : (i : ℕ) → 0 < i → i < count → Tied net t (set order count x) (set parents x p) (set uplinks x k) i
      tied-old i z b =
          let d = w.listed.tied i z b in
          let c : d.at < i = d.before in
          record {
            at = d.at;
            before = d.before;
            above = old d.at (omega arith) ∙ d.above ∙ sym (other parents p i b) ∙ ap (entry (set parents x p)) (sym (old i b));
            hung = rw (old i b, other parents p i b, other uplinks k i b) d.hung;
          }

      tied_new : Tied net t (set order count x) (set parents x p) (set uplinks x k) count
      tied_new =
          let d = w.found p p_in into in
          let b = x_in in
          let pa : entry (set parents x p) x ≡ p = get_or-set_same parents x p 0 (let a = w.parents_room in omega arith) in
          let la : entry (set uplinks x k) x ≡ k = get_or-set_same uplinks x k 0 (let a = w.uplinks_room in omega arith) in
          record {
            at = d.0;
            before = d.1;
            above = rw (new, pa) (old d.0 d.1 ∙ d.2);
            hung = rw (new, pa, la) h;
          }

      listed_more : Listed net t (set order count x) (set parents x p) (set uplinks x k) (suc count)
      listed_more = record {
        start = old 0 w.some ∙ w.listed.start;
        within = all-suc (λ i. entry (set order count x) i < net.nodes) count (λ i b. rw (old i b) (w.listed.within i b)) (rw new x_in);
        once = λ i j b c. all-suc (λ i. entry (set order count x) i ≡ entry (set order count x) j → i ≡ j) count
            (λ i b. all-suc (λ j. entry (set order count x) i ≡ entry (set order count x) j → i ≡ j) count
            (λ j c q. w.listed.once i j b c (sym (old i b) ∙ q ∙ old j c))
            (λ q. absurd (apart i b (sym (old i b) ∙ q ∙ new)))
            j
            c)
            (all-suc (λ j. entry (set order count x) count ≡ entry (set order count x) j → count ≡ j) count
            (λ j c q. absurd (apart j c (sym (old j c) ∙ sym q ∙ new)))
            (λ q. refl)
            j
            c)
            i
            b;
        tied = λ i z b. all-suc (λ i. 0 < i → Tied net t (set order count x) (set parents x p) (set uplinks x k) i) count
            (λ i b z. tied-old i z b) (λ z. tied_new) i b z;
      }

      pub growing_step : Growing net t (set reached x 1) (set order count x) (set parents x p) (set uplinks x k) (suc count)
      growing_step = record {
        reached_room = rw (length-set reached x 1) w.reached_room;
        order_room = rw (length-set order count x) w.order_room;
        parents_room = rw (length-set parents x p) w.parents_room;
        uplinks_room = rw (length-set uplinks x k) w.uplinks_room;
        some = omega arith;
        counted = count-more net.nodes (marked reached) (marked (set reached x 1)) x x_in out mark_new (λ y _ n. mark_old y n) ∙ ap suc w.counted;
        listed = listed_more;
        holds = all-suc (λ i. marked (set reached x 1) (entry (set order count x) i) ≡ true) count
            (λ i b. rw (old i b) (mark_old (entry order i) (apart i b) ∙ w.holds i b))
            (rw new mark_new);
        found = λ y b i. from y b i (truth (eqb x y));
      }
        where
          from : (y : ℕ) → y < net.nodes → marked (set reached x 1) y ≡ true → (eqb x y ≡ true) ⊎ (eqb x y ≡ false)
              → (i : ℕ) × (i < suc count) × (entry (set order count x) i ≡ y)
          from y b i (inl q) = (count, omega arith, new ∙ eqb-true x y q)
          from y b i (inr q) =
              let d = w.found y b (sym (mark_old y (λ z. eqb-false x y q (sym z))) ∙ i) in
              (d.0, omega (arith, d.1), old d.0 d.1 ∙ d.2)

    pub growing_stuck : Quiet net t reached → count < net.nodes → spans net t ≡ false
    unfolding spans
    growing_stuck h b = go (truth (spans net t))
      where
        go : (spans net t ≡ true) ⊎ (spans net t ≡ false) → spans net t ≡ false
        go (inr q) = q
        go (inl q) =
            let a = sum_congr net.nodes (λ x. only (marked reached x) 1) (λ x. 1)
            (λ x c. rw (joined-within net t.members (marked reached) l (sym (ap (marked reached) w.listed.start) ∙ w.holds 0 w.some)
            (λ k e m. h k (record { is_link = e; is_set = m })) x c (all_to-at net.nodes (λ y. flag (joined net t.members) y) q x c))) in
            let d = sum_const net.nodes 1 in
            let e = w.counted in
            absurd (omega arith)

-- all nodes
pub growing-done : {net : Network} {t : Tree} {reached order parents uplinks : List ℕ} {count : ℕ} → Growing net t reached order parents uplinks count
    → count ≡ net.nodes → Ordered net t order parents uplinks
growing-done {net} {t} {reached} {order} {parents} {uplinks} {count} w e = record {
  listed = subst (λ (c : ℕ). Listed net t order parents uplinks c) e w.listed;
  every = λ x b. let d = w.found x b (all x b (truth (marked reached x))) in (d.0, omega (arith, d.1), d.2);
}
  where
    all : (x : ℕ) → x < net.nodes → (marked reached x ≡ true) ⊎ (marked reached x ≡ false) → marked reached x ≡ true
    all x b (inl q) = q
    all x b (inr q) = let a = count-lacks net.nodes (marked reached) x b q in let c = w.counted in absurd (omega arith)
