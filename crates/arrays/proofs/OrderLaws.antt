-- What an order of a tree's nodes is good for: going along it from the root, and the member by which each node hangs, which is no other
-- node's. Where the tree has one member fewer than nodes, every member is such a link.
-- Assumes nothing.
use Prim.Native.Nat.{ℕ, zero, suc, ◌+◌, ◌-◌, ◌≤◌, ◌<◌}
use mathlib.Core.Path.{◌≡◌, refl, sym, ap, ◌∙◌, subst}
use mathlib.Core.Logic.{◌⊎◌, inl, inr}
use mathlib.Core.Bool.{Bool, true, false, ◌&&◌, not, and-eq-true_iff}
use mathlib.Core.List.{List}
use native.Mathlib.Nat.{not-suc-le-zero}
use native.Mathlib.Decide.{dec_lt}
use native.Mathlib.Omega.{arith}
use lib.Dec.{eqb}
use borrow.Author.Tests.{eqb-true, eqb-false, eq-eqb, not-true}
use Rattle.cuts.specs.Sums.{sum_to, only, count_to}
use Rattle.cuts.specs.Network.{Tree, Network, Linked, flag, link_count}
use Rattle.cuts.specs.Tree.{Member, joined, member_count, spans}
use Rattle.cuts.specs.Paths.{Meets, forth, back}
use Rattle.cuts.proofs.FlagLaws.{clash, truth}
use Rattle.cuts.proofs.SumLaws.{all_to-all, sum_congr, sum-add, sum_const, sum-swap, sum_tight, sum-single, count-last, count_unique, One, count-one}
use Rattle.cuts.proofs.Joined.{joined-root, joined-lead}
use Rattle.arrays.specs.Lists.{entry}
use Rattle.arrays.specs.Order.{Hung, Ordered, Lower, Owned}

-- the place in the order of a node other than the root, and of its parent
pub record Spot (net : Network) (t : Tree) (order parents uplinks : List ℕ) (x : ℕ) : Type 0 where
  pub at : ℕ
  pub under : at < net.nodes
  pub is : entry order at ≡ x
  pub up : ℕ
  pub up_before : up < at
  pub up_is : entry order up ≡ entry parents x
  pub hung : Hung net t (entry uplinks x) x (entry parents x)

module _ {net : Network} {t : Tree} {order parents uplinks : List ℕ} (o : Ordered net t order parents uplinks) where
  pub not_root : (i : ℕ) → 0 < i → i < net.nodes → entry order i ≡ 0 → ⊥
  not_root i z b q = let e = o.listed.once i 0 b (omega arith) (q ∙ sym o.listed.start) in omega arith

  pub spot : (x : ℕ) → x < net.nodes → (x ≡ 0 → ⊥) → Spot net t order parents uplinks x
  spot x b f = let d = o.every x b in from d.0 d.1 d.2
    where
      from : (i : ℕ) → i < net.nodes → entry order i ≡ x → Spot net t order parents uplinks x
      from zero c e = absurd (f (sym e ∙ o.listed.start))
      from (suc i) c e =
          let d = o.listed.tied (suc i) (omega arith) c in
          record { at = suc i; under = c; is = e; up = d.at; up_before = d.before; up_is = d.above ∙ ap (entry parents) e; hung = rw e at d.hung }

  pub parent_in : (x : ℕ) → x < net.nodes → (x ≡ 0 → ⊥) → entry parents x < net.nodes
  parent_in x b f = let d = spot x b f in let c = d.up_before in let e = d.under in rw (← d.up_is) (o.listed.within d.up (omega arith))

  -- what holds of the root, and of each node whose parent has it, holds of all nodes
  pub climb : (P : ℕ → Type 0) → P 0 → ((x : ℕ) → x < net.nodes → (x ≡ 0 → ⊥) → P (entry parents x) → P x) → (x : ℕ) → x < net.nodes → P x
  climb P z s x b = let d = o.every x b in subst P d.2 (go (suc d.0) d.0 (omega arith) d.1)
    where
      go : (m i : ℕ) → i < m → i < net.nodes → P (entry order i)
      go zero i c b = absurd (not-suc-le-zero c)
      go (suc m) zero c b = subst P (sym o.listed.start) z
      go (suc m) (suc i) c b =
          let d = o.listed.tied (suc i) (omega arith) b in
          let u : d.at < suc i = d.before in
          let r : P (entry order d.at) = go m d.at (omega arith) (omega arith) in
          s (entry order (suc i)) (o.listed.within (suc i) b) (not_root (suc i) (omega arith) b) (subst P d.above r)

  -- the members join every node to the root
  pub ordered_spans : Linked net → spans net t ≡ true
  unfolding spans
  ordered_spans l = all_to-all net.nodes _ (climb (λ x. flag (joined net t.members) x ≡ true) (joined-root net t.members l)
      (λ x b f r. let m = (spot x b f).hung in joined-lead net t.members x b
      (record { link = entry uplinks x; far = entry parents x; is_link = m.member.is_link; is_chosen = m.member.is_set; meets = m.meets; inside = r })))

  -- each node but the root hangs by a link of its own
  pub link_once : (x y : ℕ) → x < net.nodes → (x ≡ 0 → ⊥) → y < net.nodes → (y ≡ 0 → ⊥) → entry uplinks x ≡ entry uplinks y → x ≡ y
  link_once x y b f c g q = go sx.hung.meets (subst (λ (k : ℕ). Meets net k y (entry parents y)) (sym q) sy.hung.meets)
    where
      sx : Spot net t order parents uplinks x
      sx = spot x b f

      sy : Spot net t order parents uplinks y
      sy = spot y c g

      turn : entry parents x ≡ y → entry parents y ≡ x → ⊥
      turn p r =
          let a = sx.up_before in
          let d = sy.up_before in
          let bx = sx.under in
          let by = sy.under in
          let u = o.listed.once sx.up sy.at (omega arith) by (sx.up_is ∙ p ∙ sym sy.is) in
          let v = o.listed.once sy.up sx.at (omega arith) bx (sy.up_is ∙ r ∙ sym sx.is) in
          omega arith

      go : Meets net (entry uplinks x) x (entry parents x) → Meets net (entry uplinks x) y (entry parents y) → x ≡ y
      go (forth m n) (forth m' n') = sym m ∙ m'
      go (forth m n) (back m' n') = absurd (turn (sym n ∙ m') (sym n' ∙ m))
      go (back m n) (forth m' n') = absurd (turn (sym n ∙ m') (sym n' ∙ m))
      go (back m n) (back m' n') = sym m ∙ m'

  pub lower_once : {e u v : ℕ} → Lower net uplinks e u → Lower net uplinks e v → u ≡ v
  lower_once {e} {u} {v} a b = link_once u v a.under a.off b.under b.off (a.is ∙ sym b.is)

  pub lower_member : {e v : ℕ} → Lower net uplinks e v → Member net t e
  lower_member {e} {v} a = rw a.is at (spot v a.under a.off).hung.member

  -- node x is the lower end of link k
  lowers : ℕ → ℕ → Bool
  lowers k x = not (eqb 0 x) && eqb (entry uplinks x) k

  lowers_is : (k x : ℕ) → x < net.nodes → lowers k x ≡ true → Lower net uplinks k x
  unfolding lowers
  lowers_is k x b h =
      let p = (and-eq-true_iff (not (eqb 0 x)) _).0 h in
      record { under = b; off = λ q. eqb-false 0 x (not-true (eqb 0 x) p.0) (sym q); is = eqb-true (entry uplinks x) k p.1 }

  lowers_most : (k : ℕ) → count_to net.nodes (lowers k) ≤ only (flag t.members k) 1
  lowers_most k = go (truth (flag t.members k))
    where
      none : flag t.members k ≡ false → Dec (0 < count_to net.nodes (lowers k)) → count_to net.nodes (lowers k) ≤ 0
      none q (no z) = omega arith
      none q (yes b) = let l = count-last net.nodes (lowers k) b in clash (lower_member (lowers_is k l.at l.under l.holds)).is_set q

      go : (flag t.members k ≡ true) ⊎ (flag t.members k ≡ false) → count_to net.nodes (lowers k) ≤ only (flag t.members k) 1
      go (inl q) = rw q (count_unique net.nodes (lowers k) (λ i j b c p r. lower_once (lowers_is k i b p) (lowers_is k j c r)))
      go (inr q) = rw q (none q (dec_lt 0 _))

  -- each node but the root is the lower end of one link
  lowers_total : 0 < net.nodes → suc (sum_to (link_count net) (λ k. count_to net.nodes (lowers k))) ≡ net.nodes
  unfolding lowers
  lowers_total z =
      let a = sum-swap (link_count net) net.nodes (λ k x. only (lowers k x) 1) in
      let b = sum_congr net.nodes (λ x. sum_to (link_count net) (λ k. only (lowers k x) 1) + only (eqb 0 x) 1) (λ x. 1) (λ x b. at x b (truth (eqb 0 x))) in
      let c = sum-add net.nodes (λ x. sum_to (link_count net) (λ k. only (lowers k x) 1)) (λ x. only (eqb 0 x) 1) in
      let d = sum-single net.nodes 0 (λ x. 1) z in
      let e = sum_const net.nodes 1 in
      omega arith
    where
      at : (x : ℕ) → x < net.nodes → (eqb 0 x ≡ true) ⊎ (eqb 0 x ≡ false) → sum_to (link_count net) (λ k. only (lowers k x) 1) + only (eqb 0 x) 1 ≡ 1
      at x b (inl q) =
          let r = sum_congr (link_count net) (λ k. only (lowers k x) 1) (λ k. 0) (λ k _. rw q) in let s = sum_const (link_count net) 0 in rw q (omega arith)
      at x b (inr q) =
          let r = sum_congr (link_count net) (λ k. only (lowers k x) 1) (λ k. only (eqb (entry uplinks x) k) 1) (λ k _. rw q) in
          let s = sum-single (link_count net) (entry uplinks x) (λ k. 1) (spot x b (λ e. eqb-false 0 x q (sym e))).hung.member.is_link in
          rw q (omega arith)

  pub lower_end : 0 < net.nodes → member_count net t ≡ net.nodes - 1 → Owned net t uplinks
  unfolding member_count
  lower_end z c e m = from (count-one net.nodes (lowers e) one)
    where
      one : count_to net.nodes (lowers e) ≡ 1
      one =
          sum_tight (link_count net) (λ k. count_to net.nodes (lowers k)) (λ k. only (flag t.members k) 1) (λ k _. lowers_most k)
          (let a = lowers_total z in omega arith) e m.is_link
          ∙ rw m.is_set

      from : One net.nodes (lowers e) → (v : ℕ) × Lower net uplinks e v × ((w : ℕ) → Lower net uplinks e w → w ≡ v)
      from a = let l = lowers_is e a.at a.under (a.is a.at a.under ∙ eq-eqb a.at a.at refl) in (a.at, l, λ w k. lower_once k l)
