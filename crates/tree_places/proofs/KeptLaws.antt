-- What is kept by place, from places by node: the node at a place is the lower end of the link there, so that the places have the tree's
-- links, and the nodes below each are an interval.
-- Assumes nothing.
use Prim.Native.Nat.{ℕ, suc, ◌≤◌, ◌<◌}
use mathlib.Core.Path.{◌≡◌, sym, ap, ap₂, ◌∙◌, subst}
use mathlib.Core.Logic.{◌⊎◌, inl, inr}
use mathlib.Core.List.{List}
use native.Mathlib.Nat.{eq-or-lt_of_le}
use native.Mathlib.Omega.{arith}
use lib.ListN.{length, set}
use lib.Seq.{get_or-set_same, get_or-set_other}
use Rattle.cuts.specs.Network.{Tree, Network}
use Rattle.cuts.proofs.SumLaws.{all-suc}
use Rattle.arrays.specs.Lists.{entry}
use Rattle.arrays.specs.Order.{Lower}
use Rattle.arrays.proofs.OrderLaws.{lower_once, lower_member, lower_end}
use Rattle.arrays.specs.Kept.{within, LinksAt, Kept}
use Rattle.tree_places.specs.Places.{Rooted, Preorder, ByPlace, Gathered}

-- ---- one number more

pub node-more : {net : Network} {t : Tree} {uplinks place stop : List ℕ} → Preorder net t uplinks place stop → (node : List ℕ) (x : ℕ)
    → x < net.nodes → net.nodes ≤ length node → ((y : ℕ) → y < x → entry node (entry place y) ≡ y)
    → (y : ℕ) → y < suc x → entry (set node (entry place x) x) (entry place y) ≡ y
node-more {place = place} k node x b l h = all-suc (λ y. entry (set node (entry place x) x) (entry place y) ≡ y) x
    (λ y c. get_or-set_other node (entry place x) (entry place y) x 0 (λ e. let q = k.once y x (omega arith) b e in omega arith) ∙ h y c)
    (get_or-set_same node (entry place x) x 0 (let w = k.placed x b in omega arith))

pub gathered-more : (out node from : List ℕ) (p : ℕ) → p < length out → Gathered out node from p → Gathered (set out p (entry from (entry node p))) node from (suc p)
gathered-more out node from p b h = all-suc (λ q. entry (set out p (entry from (entry node p))) q ≡ entry from (entry node q)) p
    (λ q c. get_or-set_other out p q (entry from (entry node p)) 0 (λ e. omega arith) ∙ h q c)
    (get_or-set_same out p (entry from (entry node p)) 0 b)

-- ---- by place

module _ {net : Network} {t : Tree} {order parents uplinks place stop : List ℕ} {nodes : ℕ} (r : Rooted net t order parents uplinks nodes)
    (k : Preorder net t uplinks place stop) (node stops links : List ℕ) (n : ByPlace net place node)
    (s : Gathered stops node stop nodes) (l : Gathered links node uplinks nodes) where
  node_in : (p : ℕ) → p < net.nodes → (entry node p < net.nodes) × (entry place (entry node p) ≡ p)
  node_in p b = let d = k.every p b in let e : entry node p ≡ d.0 = ap (entry node) (sym d.2) ∙ n d.0 d.1 in rw e (d.1, d.2)

  gathered : {p : ℕ} → p < net.nodes → p < nodes
  gathered b = let e = r.counted in omega arith

  -- the node at a place is the lower end of the link there
  lower-at : (p : ℕ) → 0 < p → p < net.nodes → Lower net uplinks (entry links p) (entry node p)
  lower-at p z b = record {
    under = (node_in p b).0;
    off = λ e. let q : p ≡ 0 = sym (node_in p b).1 ∙ ap (entry place) e ∙ k.root in omega arith;
    is = sym (l p (gathered b));
  }

  lower-place : {e v : ℕ} → Lower net uplinks e v → 0 < entry place v
  lower-place {e} {v} a = go (eq-or-lt_of_le (omega arith))
    where
      go : (0 ≡ entry place v) ⊎ (0 < entry place v) → 0 < entry place v
      go (inl q) = absurd (a.off (k.once v 0 a.under r.spanning.linked.rooted (sym q ∙ sym k.root)))
      go (inr z) = z

  links-at : LinksAt net t links
  links-at = record {
    member = λ p z b. lower_member r.ordered (lower-at p z b);
    once = λ p q y a z b e.
        let x = lower_once r.ordered (lower-at p y a) (subst (λ (f : ℕ). Lower net uplinks f (entry node q)) (sym e) (lower-at q z b)) in
        sym (node_in p a).1 ∙ ap (entry place) x ∙ (node_in q b).1;
    every = λ e m.
        let v = lower_end r.ordered r.spanning.linked.rooted r.spanning.counted e m in
        let a = v.1 in
        let b = k.placed v.0 a.under in
        (entry place v.0, lower-place a, b, l (entry place v.0) (gathered b) ∙ ap (entry uplinks) (n v.0 a.under) ∙ a.is);
  }

  pub preorder-kept : Kept net t place node stops links
  preorder-kept = record {
    spanning = r.spanning;
    placed = k.placed;
    back = n;
    taken = λ p b. (node_in p b).0;
    forth = λ p b. (node_in p b).1;
    root = k.root;
    links-at = links-at;
    some = λ p b. let d = node_in p b in let e = k.bounds (entry node p) d.0 in let f = s p (gathered b) in omega (arith, d.1);
    most = λ p b. let d = node_in p b in let e = k.bounds (entry node p) d.0 in let f = s p (gathered b) in omega arith;
    below_is = λ p x z b c.
        k.below_is (lower-at p z b) x c
        ∙ ap₂ (λ (from : ℕ) (to : ℕ). within from to (entry place x)) (node_in p b).1 (sym (s p (gathered b)));
  }
