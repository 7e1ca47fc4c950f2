-- The nodes below a member, from an order of the tree's nodes: a node is below the member if it hangs by it or if its parent is below
-- it.
-- Assumes nothing.
use Prim.Native.Nat.{ℕ, ◌<◌}
use mathlib.Core.Path.{◌≡◌, refl, sym, ap, ◌∙◌}
use mathlib.Core.Bool.{Bool, true, false, ◌||◌, xor}
use mathlib.Core.List.{List}
use native.Mathlib.Omega.{arith}
use lib.Dec.{eqb}
use borrow.Author.Tests.{eqb-true, ne_eqb}
use Rattle.cuts.specs.Network.{Tree, Network, flag}
use Rattle.cuts.specs.Tree.{below, Member, Spanning}
use Rattle.cuts.proofs.FlagLaws.{one_table, eqb_comm}
use Rattle.cuts.proofs.Joined.{crosses-meets}
use Rattle.cuts.proofs.Spanning.{below-crosses, below-rootless}
use Rattle.arrays.specs.Lists.{entry}
use Rattle.arrays.specs.Order.{Ordered}
use Rattle.arrays.proofs.OrderLaws.{Spot, spot, parent_in, climb, link_once}

xor-back : (a b : Bool) → a ≡ xor (xor a b) b
unfolding xor
xor-back = one_table 2 (λ a b. a) (λ a b. xor (xor a b) b) refl

xor-or : (a b : Bool) → (a ≡ true → b ≡ false) → xor a b ≡ (a || b)
unfolding xor
xor-or true b h = rw (h refl)
xor-or false true h = refl
xor-or false false h = refl

module _ {net : Network} {t : Tree} {order parents uplinks : List ℕ} {e : ℕ} (g : Spanning net t) (o : Ordered net t order parents uplinks) (m : Member net t e) where
  -- a node lies on the same side as its parent, but for the one that hangs by e
  below-turn : (x : ℕ) → x < net.nodes → (x ≡ 0 → ⊥) → flag (below net t e) x ≡ xor (eqb (entry uplinks x) e) (flag (below net t e) (entry parents x))
  below-turn x b f =
      let h = (spot o x b f).hung in
      xor-back (flag (below net t e) x) (flag (below net t e) (entry parents x))
      ∙ ap (λ (c : Bool). xor c (flag (below net t e) (entry parents x)))
      (sym (crosses-meets (below net t e) h.meets) ∙ below-crosses g e m (entry uplinks x) h.member ∙ eqb_comm e (entry uplinks x))

  module _ {v : ℕ} (b : v < net.nodes) (f : v ≡ 0 → ⊥) (q : entry uplinks v ≡ e) where
    abbrev here : Spot net t order parents uplinks v
    here = spot o v b f

    -- node x is not below e if it stands before v
    abbrev Before : ℕ → Type 0
    Before x = (i : ℕ) → i < here.at → entry order i ≡ x → flag (below net t e) x ≡ false

    below-before : (x : ℕ) → x < net.nodes → Before x
    unfolding xor
    below-before = climb o Before (λ i c p. (below-rootless g e m).without) step
      where
        step : (x : ℕ) → x < net.nodes → (x ≡ 0 → ⊥) → Before (entry parents x) → Before x
        step x k z r i c p =
            let u : here.at < net.nodes = here.under in
            let d = spot o x k z in
            let l : d.up < d.at = d.up_before in
            let n = o.listed.once i d.at (omega arith) d.under (p ∙ sym d.is) in
            let w : entry uplinks x ≡ e → ⊥
            = λ h. let j = o.listed.once i here.at (omega arith) u (p ∙ link_once o x v k z b f (h ∙ sym q) ∙ sym here.is) in omega arith in
            below-turn x k z ∙ rw (ne_eqb (entry uplinks x) e w, r d.up (omega arith) d.up_is)

    pub below_parent : flag (below net t e) (entry parents v) ≡ false
    below_parent = below-before (entry parents v) (parent_in o v b f) here.up here.up_before here.up_is

  -- the law of a walk along the order
  pub below_law : (x : ℕ) → x < net.nodes → (x ≡ 0 → ⊥) → flag (below net t e) x ≡ (eqb (entry uplinks x) e || flag (below net t e) (entry parents x))
  below_law x b f = below-turn x b f ∙ xor-or _ _ (λ q. below_parent b f (eqb-true (entry uplinks x) e q))
