-- Spanning trees: a side without the root is known by the members that it crosses, every choice of members is crossed by one,
-- and the side below a member crosses that member alone.
-- Assumes nothing.
use Prim.Native.Nat.{ℕ, zero, suc, ◌+◌, ◌-◌, ◌≤◌, ◌<◌}
use mathlib.Core.Path.{◌≡◌, refl, sym, ap, ◌∙◌, subst}
use mathlib.Core.Bool.{Bool, true, false, ◌&&◌, not, xor}
use mathlib.Core.List.{List}
use native.Mathlib.Nat.{not-suc-le-zero}
use native.Mathlib.Omega.{arith}
use lib.ListN.{set, length-map}
use lib.Seq.{ext_get_or}
use lib.Dec.{eqb}
use borrow.Author.Tests.{eqb-true, eq-eqb, ne_eqb, not-true}
use Rattle.cuts.specs.Sums.{only, table, count_to}
use Rattle.cuts.specs.Network.{Tree, Network, flag, link_at, link_count}
use Rattle.cuts.specs.Cut.{Side, crosses, size, sym_diff, Rootless}
use Rattle.cuts.specs.Tree.{joined, member_count, spans, below, Spanning, Member}
use Rattle.cuts.proofs.FlagLaws.{clash, xor_self, xor-false, xor_equal, xor-not}
use Rattle.cuts.proofs.SumLaws.{all-suc, all_to-at, table-length, table_at, sum_congr, sum-add, sum_const, sum-single, cleared_at}
use Rattle.cuts.proofs.Joined.{joined-within, joined-closed, joined-root, joined_length, joined-count}
use Rattle.cuts.proofs.CutLaws.{flag-sym_diff, sym_diff-length, crosses-is, crosses-sym_diff, flag-not}

pub rootless-sym_diff : (net : Network) (r s : Side) → Rootless net r → Rootless net s → Rootless net (sym_diff r s)
unfolding xor
rootless-sym_diff net r s p q = record {
  sized = sym_diff-length r s (p.sized ∙ sym q.sized) ∙ q.sized;
  without = rw (flag-sym_diff r s 0, p.without, q.without);
}

module _ {net : Network} {t : Tree} (g : Spanning net t) where
  -- no member leaves q, so that it is all or nothing
  pub closed_all : (q : ℕ → Bool) → q 0 ≡ true → ((k : ℕ) → Member net t k → q (link_at net k).first ≡ q (link_at net k).second) → (x : ℕ) → x < net.nodes → q x ≡ true
  unfolding spans
  closed_all q z h x b =
      joined-within net t.members q g.linked z (λ k c m. h k (record { is_link = c; is_set = m })) x b (all_to-at net.nodes (λ y. flag (joined net t.members) y) g.spanning x b)

  -- a side without the root that crosses no member is empty
  pub crosses-none : (s : Side) → flag s 0 ≡ false → ((k : ℕ) → Member net t k → crosses net s k ≡ false) → (x : ℕ) → x < net.nodes → flag s x ≡ false
  crosses-none s z h x b =
      not-true (flag s x) (closed_all (λ y. not (flag s y)) (rw z) (λ k m. ap not (xor_equal _ _ (sym (crosses-is net s k) ∙ h k m))) x b)

  -- two sides without the root that cross the same members are the same
  pub same_side : (r s : Side) → Rootless net r → Rootless net s → ((k : ℕ) → Member net t k → crosses net r k ≡ crosses net s k) → r ≡ s
  same_side r s p q h =
      ext_get_or false r s (p.sized ∙ sym q.sized) (λ x b. xor_equal _ _ (sym (flag-sym_diff r s x) ∙ empty x (rw p.sized at b)))
    where
      empty : (x : ℕ) → x < net.nodes → flag (sym_diff r s) x ≡ false
      empty = crosses-none (sym_diff r s) (rootless-sym_diff net r s p q).without (λ k m. crosses-sym_diff net r s k ∙ rw (h k m) (xor_self _))

  module _ (e : ℕ) (m : Member net t e) where
    cleared : List Bool
    cleared = set t.members e false

    cleared-count : suc (count_to (link_count net) (λ k. flag cleared k)) ≡ member_count net t
    unfolding member_count cleared
    cleared-count =
        let a = sum_congr (link_count net) (λ k. only (flag t.members k) 1) (λ k. only (flag (set t.members e false) k) 1 + only (eqb e k) (only (flag t.members k) 1))
        (λ k _. rw (cleared_at t.members e k) (split (flag t.members k) (eqb e k))) in
        let b = sum-add (link_count net) (λ k. only (flag (set t.members e false) k) 1) (λ k. only (eqb e k) (only (flag t.members k) 1)) in
        let c = sum-single (link_count net) e (λ k. only (flag t.members k) 1) m.is_link in
        let d : only (flag t.members e) 1 ≡ 1 = rw m.is_set in
        omega arith
      where
        split : (a q : Bool) → only a 1 ≡ only (a && not q) 1 + only q (only a 1)
        split true true = refl
        split true false = refl
        split false true = refl
        split false false = refl

    below_at : (x : ℕ) → x < net.nodes → flag (below net t e) x ≡ not (flag (joined net cleared) x)
    unfolding below cleared
    below_at x b = flag-not (joined net cleared) x (rw (joined_length net cleared) b)

    pub below-rootless : Rootless net (below net t e)
    unfolding below cleared
    below-rootless = record {
      sized = length-map (joined net cleared) not ∙ joined_length net cleared;
      without = below_at 0 g.linked.rooted ∙ ap not (joined-root net cleared g.linked);
    }

    below-crosses_at : (k : ℕ) → k < link_count net → crosses net (below net t e) k ≡ xor (flag (joined net cleared) (link_at net k).first) (flag (joined net cleared) (link_at net k).second)
    below-crosses_at k b = crosses-is net (below net t e) k ∙ rw (below_at _ (g.linked.first_in k b), below_at _ (g.linked.second_in k b)) (xor-not _ _)

    others-closed : (k : ℕ) → Member net t k → eqb e k ≡ false → flag (joined net cleared) (link_at net k).first ≡ flag (joined net cleared) (link_at net k).second
    unfolding cleared
    others-closed k n q = joined-closed net cleared g.linked k n.is_link (cleared_at t.members e k ∙ rw (n.is_set, q))

    -- the other members are too few to join all nodes to the root
    not-all : ((x : ℕ) → x < net.nodes → flag (joined net cleared) x ≡ true) → ⊥
    unfolding size
    not-all h =
        let a = sum_congr net.nodes (λ x. only (flag (joined net cleared) x) 1) (λ x. 1) (λ x b. rw (h x b)) in
        let b = sum_const net.nodes 1 in
        let c = joined-count net cleared g.linked in
        let d = cleared-count in
        let r : 0 < net.nodes = g.linked.rooted in
        let n : member_count net t ≡ net.nodes - 1 = g.counted in
        omega arith

    -- the side below e crosses e and no other member
    pub below-crosses : (k : ℕ) → Member net t k → crosses net (below net t e) k ≡ eqb e k
    below-crosses k n = step (eqb e k) refl (crosses net (below net t e) k) refl
      where
        step : (q : Bool) → eqb e k ≡ q → (c : Bool) → crosses net (below net t e) k ≡ c → c ≡ q
        step false q c p = sym p ∙ below-crosses_at k n.is_link ∙ rw (others-closed k n q) (xor_self _)
        step true q true p = refl
        step true q false p = absurd (not-all (closed_all (flag (joined net cleared)) (joined-root net cleared g.linked) (λ j o. closed j o (eqb e j) refl)))
          where
            closed : (j : ℕ) → Member net t j → (c : Bool) → eqb e j ≡ c → flag (joined net cleared) (link_at net j).first ≡ flag (joined net cleared) (link_at net j).second
            closed j o false r = others-closed j o r
            closed j o true r =
                subst (λ (i : ℕ). flag (joined net cleared) (link_at net i).first ≡ flag (joined net cleared) (link_at net i).second) (sym (eqb-true e k q) ∙ eqb-true e j r)
                (xor_equal _ _ (sym (below-crosses_at k n.is_link) ∙ p))

  -- a side that crosses the chosen members below j and no other
  record Partly (c : ℕ → Bool) (j : ℕ) : Type 0 where
    side : Side
    rootless : Rootless net side
    done : (k : ℕ) → k < j → Member net t k → crosses net side k ≡ c k
    rest : (k : ℕ) → j ≤ k → Member net t k → crosses net side k ≡ false

  module _ (c : ℕ → Bool) where
    partly : (j : ℕ) → j ≤ link_count net → Partly c j
    unfolding xor
    partly zero b = record {
      side = table net.nodes (λ x. false);
      rootless = record { sized = table-length net.nodes _; without = table_at false net.nodes _ 0 g.linked.rooted };
      done = λ k d. absurd (not-suc-le-zero d);
      rest = λ k d m. crosses-is net _ k
          ∙ rw (table_at false net.nodes (λ x. false) _ (g.linked.first_in k m.is_link), table_at false net.nodes (λ x. false) _ (g.linked.second_in k m.is_link));
    }
    partly (suc j) b = step (partly j (omega arith)) (flag t.members j) refl (c j) refl
      where
        same : (p : Partly c j) → (Member net t j → c j ≡ false) → Partly c (suc j)
        same p h = record {
          side = p.side;
          rootless = p.rootless;
          done = all-suc (λ k. Member net t k → crosses net p.side k ≡ c k) j p.done (λ m. p.rest j (omega arith) m ∙ sym (h m));
          rest = λ k d. p.rest k (omega arith);
        }

        step : Partly c j → (a : Bool) → flag t.members j ≡ a → (d : Bool) → c j ≡ d → Partly c (suc j)
        step p false e d f = same p (λ m. clash m.is_set e)
        step p true e false f = same p (λ m. f)
        step p true e true f =
            let m : Member net t j = record { is_link = b; is_set = e } in
            let x : (k : ℕ) (v w : Bool) → Member net t k → crosses net p.side k ≡ v → eqb j k ≡ w → crosses net (sym_diff p.side (below net t j)) k ≡ xor v w
            = λ k v w n y z. crosses-sym_diff net p.side (below net t j) k ∙ rw (y, below-crosses j m k n, z) in
            record {
              side = sym_diff p.side (below net t j);
              rootless = rootless-sym_diff net p.side (below net t j) p.rootless (below-rootless j m);
              done = all-suc (λ k. Member net t k → crosses net (sym_diff p.side (below net t j)) k ≡ c k) j
                  (λ k d n. x k (c k) false n (p.done k d n) (ne_eqb j k (λ q. omega arith)) ∙ xor-false (c k))
                  (λ n. x j false true n (p.rest j (omega arith) n) (eq-eqb j j refl) ∙ sym f);
              rest = λ k d n. x k false false n (p.rest k (omega arith) n) (ne_eqb j k (λ q. omega arith));
            }

    -- every choice of members is what exactly one side without the root crosses
    pub extension : (s : Side) × Rootless net s × ((k : ℕ) → Member net t k → crosses net s k ≡ c k)
        × ((r : Side) → Rootless net r → ((k : ℕ) → Member net t k → crosses net r k ≡ c k) → r ≡ s)
    extension =
        let p = partly (link_count net) (omega arith) in
        let h : (k : ℕ) → Member net t k → crosses net p.side k ≡ c k = λ k m. p.done k m.is_link m in
        (p.side, p.rootless, h, λ r q i. same_side r p.side q p.rootless (λ k m. i k m ∙ sym (h k m)))
