-- A search by rows on its way: what is found says the first of what was found before the tree and of the candidates tried so far.
-- Assumes nothing.
use Prim.Native.Nat.{ℕ, zero, suc, ◌+◌, ◌-◌, ◌≤◌, ◌<◌}
use mathlib.Core.Path.{◌≡◌, sym, ap₂, ◌∙◌, subst}
use mathlib.Core.Logic.{inl}
use mathlib.Core.Bool.{Bool, true, false, cond}
use lib.Dec.{ltb}
use mathlib.Core.List.{List}
use native.Mathlib.Omega.{arith}
use Rattle.cuts.specs.First.{first_from}
use Rattle.cuts.specs.Network.{Network, Tree}
use Rattle.cuts.specs.Cut.{size}
use Rattle.cuts.specs.Candidate.{Candidate, Key, fewer_nodes, candidate, ahead, side_of, weight_of}
use Rattle.cuts.proofs.Least.{Order}
use Rattle.cuts.proofs.ThenLaws.{then_left, by-number_in}
use Rattle.cuts.proofs.Demands.{ahead-weighing}
use Rattle.arrays.specs.Lists.{entry}
use Rattle.arrays.specs.Kept.{LinksAt}
use Rattle.search_order.specs.Choice.{earlier, comes_first, chosen, Says, said, Paired, Prior, tree_candidates}
use Rattle.search_order.specs.Visits.{handle_at, Reached}
use Rattle.search_order.specs.declared.Found.{Found}
use Rattle.search_order.proofs.OrderLaws.{first_alone}
use Rattle.search_order.proofs.PrecedesLaws.{comes_first-order}
use Rattle.search_order.proofs.FoundLaws.{says-order, says-taken, says-kept}
use Rattle.search_order.proofs.TreeLaws.{tree-first}
use Rattle.search_order.proofs.RowLaws.{rows_start, row-start, pair_step, rows_end}

-- a heavier one does not come first
heavier-later : (key : Key) (c d : Candidate) → c.weight < d.weight → comes_first (ahead key) d c ≡ false
unfolding comes_first ahead
heavier-later key c d l =
    (comes_first-order (ahead-weighing key).order).one_way c d
    (then_left (ahead key) earlier c d (by-number_in (λ c. c.weight) (λ c d. ltb (key c) (key d)) c d (inl l)))

module _ {before : Candidate → Candidate → Bool} {net : Network} {i : ℕ} {t : Tree} {links : List ℕ} {c : Candidate} {found : Found} where
  pub reached-row : (u v : ℕ) → net.nodes ≤ v → Reached before c net i t links (u + 1) v found → Reached before c net i t links u u found
  reached-row u v n r = record { so_far = r.so_far; says = r.says; first = row-start u v n r.first }

module _ {before : Candidate → Candidate → Bool} (o : Order before) {net : Network} {i : ℕ} {t : Tree} {links : List ℕ} {c : Candidate} {found : Found} where
  pub reached-start : (u v : ℕ) → net.nodes ≤ u → Says found c → Reached before c net i t links u v found
  reached-start u v n s = record { so_far = c; says = s; first = rows_start u v n (first_alone (comes_first-order o) c) }

  pub reached-step : (u v : ℕ) → 0 < u → u ≤ v → v < net.nodes → Reached before c net i t links u v found → {next : Found}
      → ((x : Candidate) → Says found x → let d = candidate net i t (handle_at links u v) in Says next (cond (comes_first before d x) d x))
      → Reached before c net i t links u (v + 1) next
  reached-step u v z l b r h = record { so_far = _; says = h r.so_far r.says; first = pair_step (comes_first-order o) u v z l b r.first }

  pub reached_end : LinksAt net t links → (u v : ℕ) → u ≤ 1 → net.nodes ≤ v → Prior before net i t c → Reached before c net i t links u v found
      → Says found (first_from before c (tree_candidates net i t))
  reached_end a u v l n p r = subst (Says found) (tree-first before net i t o c p (rows_end a u v l n r.first)) r.says

-- what is made of the links at two places says their candidate
pub says-pair : (net : Network) {i : ℕ} (t : Tree) (links : List ℕ) {tried : Found} (u v : ℕ) {w n : ℕ}
    → Paired i (entry links u) (entry links v) w n tried
    → w ≡ weight_of net t (handle_at links u v) → n ≡ size net (side_of net t (handle_at links u v)) → Says tried (candidate net i t (handle_at links u v))
unfolding candidate
says-pair net t links u v e w n = record {
  tree = e.of_tree;
  handle = ap₂ chosen e.lesser e.greater;
  weight = e.weighs ∙ w;
  count = e.counts ∙ n;
}

-- ---- by fewer nodes

module _ {net : Network} {i : ℕ} {t : Tree} {links : List ℕ} {c : Candidate} {found : Found} (u v : ℕ) (z : 0 < u) (l : u ≤ v) (b : v < net.nodes)
    (r : Reached (ahead fewer_nodes) c net i t links u v found) where
  -- one that is heavier than what is found need not be tried
  pub reached-heavier : found.weight < weight_of net t (handle_at links u v) → Reached (ahead fewer_nodes) c net i t links u (v + 1) found
  unfolding candidate
  reached-heavier h =
      reached-step (ahead-weighing fewer_nodes).order u v z l b r
      (λ x s. says-kept x (candidate net i t (handle_at links u v)) (heavier-later fewer_nodes x (candidate net i t (handle_at links u v)) (omega (arith, s.weight))) s)

  -- one that was tried, and came first or did not
  module _ {tried : Found} (says : Says tried (candidate net i t (handle_at links u v))) where
    pub reached-taken : comes_first (ahead fewer_nodes) (said tried) (said found) ≡ true → Reached (ahead fewer_nodes) c net i t links u (v + 1) tried
    reached-taken e = reached-step (ahead-weighing fewer_nodes).order u v z l b r (λ x s. says-taken x _ (sym (says-order says s) ∙ e) says)

    pub reached-kept : comes_first (ahead fewer_nodes) (said tried) (said found) ≡ false → Reached (ahead fewer_nodes) c net i t links u (v + 1) found
    reached-kept e = reached-step (ahead-weighing fewer_nodes).order u v z l b r (λ x s. says-kept x _ (sym (says-order says s) ∙ e) s)

-- nor need a run of such be
module _ {net : Network} {i : ℕ} {t : Tree} {links : List ℕ} {c : Candidate} {found : Found} (u from : ℕ) (z : 0 < u) (l : u ≤ from)
    (r : Reached (ahead fewer_nodes) c net i t links u from found) where
  so_many : (n : ℕ) → from + n ≤ net.nodes → ((v : ℕ) → from ≤ v → v < from + n → found.weight < weight_of net t (handle_at links u v))
      → Reached (ahead fewer_nodes) c net i t links u (from + n) found
  so_many zero b h = subst (λ (v : ℕ). Reached (ahead fewer_nodes) c net i t links u v found) (omega arith) r
  so_many (suc n) b h =
      subst (λ (v : ℕ). Reached (ahead fewer_nodes) c net i t links u v found) (omega arith)
      (reached-heavier u (from + n) z (omega arith) (omega arith) (so_many n (omega arith) (λ v a d. h v a (omega arith))) (h (from + n) (omega arith) (omega arith)))

  pub reached-run : (to : ℕ) → from ≤ to → to ≤ net.nodes → ((v : ℕ) → from ≤ v → v < to → found.weight < weight_of net t (handle_at links u v))
      → Reached (ahead fewer_nodes) c net i t links u to found
  reached-run to a b h =
      subst (λ (v : ℕ). Reached (ahead fewer_nodes) c net i t links u v found) (omega arith) (so_many (to - from) (omega arith) (λ v p q. h v p (omega arith)))
