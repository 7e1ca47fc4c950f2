-- Networks that differ in weights only have the same sides and spanning trees, and are sound alike.
--   SameEnds a b   a and b have the same nodes, and the same links but for their weights
--   Alike a b      they have the same trees too, and so differ in weights only
-- Assumes nothing.
use Prim.Native.Nat.{ℕ, zero, suc, ◌-◌, ◌≤◌}
use mathlib.Core.Path.{◌≡◌, refl, sym, ap, ◌∙◌, subst}
use mathlib.Core.Bool.{Bool, ◌&&◌, ◌||◌}
use mathlib.Core.List.{List}
use lib.ListN.{get_or}
use lib.Dec.{eqb}
use Rattle.cuts.specs.Sums.{sum_to, only, any_to, all_to, table}
use Rattle.cuts.specs.Network.{Tree, Network, Linked, flag, link_at, link_count, no_tree, tree_at}
use Rattle.cuts.specs.Cut.{Side, Proper, Respects, crosses, crossings, size}
use Rattle.cuts.specs.Tree.{Spanning, Sound, joins, spread, spreads, root, joined, member_count, spans}
use Rattle.cuts.proofs.CutLaws.{crosses-is}

pub record SameEnds (a b : Network) : Type 0 where
  pub nodes : a.nodes ≡ b.nodes
  pub count : link_count a ≡ link_count b
  pub first : (k : ℕ) → (link_at a k).first ≡ (link_at b k).first
  pub second : (k : ℕ) → (link_at a k).second ≡ (link_at b k).second

pub record Alike (a b : Network) : Type 0 where
  pub ends : SameEnds a b
  pub trees : a.trees ≡ b.trees

pub alike-back : {a b : Network} → Alike a b → Alike b a
alike-back p = record {
  ends = let e = p.ends in
      record { nodes = sym e.nodes; count = sym e.count; first = λ k. sym (e.first k); second = λ k. sym (e.second k) };
  trees = sym p.trees;
}

module _ {a b : Network} (e : SameEnds a b) where
  -- ---- sides

  pub crosses-same : (s : Side) (k : ℕ) → crosses a s k ≡ crosses b s k
  crosses-same s k = rw (crosses-is a s k, crosses-is b s k, e.first k, e.second k)

  crossings-same : (t : Tree) (s : Side) → crossings a t s ≡ crossings b t s
  unfolding crossings
  crossings-same t s = λ i. sum_to (e.count i) (λ k. only (flag t.members k && crosses-same s k i) 1)

  size_same : (s : Side) → size a s ≡ size b s
  unfolding size
  size_same s = λ i. sum_to (e.nodes i) (λ x. only (flag s x) 1)

  pub proper-same : {s : Side} → Proper a s → Proper b s
  proper-same {s} p = record {
    sized = p.sized ∙ e.nodes;
    not_empty = rw (size_same s) at p.not_empty;
    not_full = rw (size_same s, e.nodes) at p.not_full;
  }

  -- ---- trees

  joins-same : (s : Side) (x k : ℕ) → joins a s x k ≡ joins b s x k
  unfolding joins
  joins-same s x k = rw (e.first k, e.second k)

  spread_same : (chosen : List Bool) (s : Side) → spread a chosen s ≡ spread b chosen s
  unfolding spread
  spread_same chosen s = λ i. table (e.nodes i) (λ x. flag s x || any_to (e.count i) (λ k. flag chosen k && joins-same s x k i))

  spreads-same : (r : ℕ) (chosen : List Bool) (s : Side) → spreads r a chosen s ≡ spreads r b chosen s
  unfolding spreads
  spreads-same zero chosen s = refl
  spreads-same (suc r) chosen s = spread_same chosen (spreads r a chosen s) ∙ ap (spread b chosen) (spreads-same r chosen s)

  joined_same : (chosen : List Bool) → joined a chosen ≡ joined b chosen
  unfolding joined root
  joined_same chosen = spreads-same a.nodes chosen (root a) ∙ (λ i. spreads (e.nodes i) b chosen (table (e.nodes i) (λ x. eqb x 0)))

  spans-same : (t : Tree) → spans a t ≡ spans b t
  unfolding spans
  spans-same t = λ i. all_to (e.nodes i) (λ x. flag (joined_same t.members i) x)

  member_count-same : (t : Tree) → member_count a t ≡ member_count b t
  unfolding member_count
  member_count-same t = λ i. sum_to (e.count i) (λ k. only (flag t.members k) 1)

  linked-same : Linked a → Linked b
  linked-same l = record {
    rooted = rw e.nodes at l.rooted;
    first_in = λ k c. rw (e.first k, e.nodes) at (l.first_in k (rw e.count c));
    second_in = λ k c. rw (e.second k, e.nodes) at (l.second_in k (rw e.count c));
  }

  spanning-same : {t : Tree} → Spanning a t → Spanning b t
  spanning-same {t} g = record {
    linked = linked-same g.linked;
    counted = sym (member_count-same t) ∙ g.counted ∙ ap (λ (n : ℕ). n - 1) e.nodes;
    spanning = sym (spans-same t) ∙ g.spanning;
  }

module _ {a b : Network} (e : Alike a b) where
  -- ---- the listed trees

  pub respects-same : (i : ℕ) (s : Side) → Respects a (tree_at a i) s → Respects b (tree_at b i) s
  respects-same i s r = subst (λ (ts : List Tree). crossings b (get_or ts i no_tree) s ≤ 2) e.trees (rw (crossings-same e.ends (tree_at a i) s) at r)

  pub sound-same : Sound a → Sound b
  sound-same v = record {
    several = rw e.ends.nodes at v.several;
    linked = linked-same e.ends v.linked;
    listed = rw e.trees at v.listed;
    spanning = λ i c.
        subst (λ (ts : List Tree). Spanning b (get_or ts i no_tree)) e.trees (spanning-same e.ends (v.spanning i (rw e.trees c)));
  }
