-- What is seen as the rows of a tree are gone through: nothing before the last row, one handle more at each step, all at the end.
-- Assumes nothing.
use Prim.Native.Nat.{ℕ, ◌+◌, ◌≤◌, ◌<◌}
use mathlib.Core.Path.{◌≡◌, refl, sym, ap, ◌∙◌}
use mathlib.Core.Logic.{◌⊎◌, inl, inr}
use mathlib.Core.Bool.{Bool, cond}
use mathlib.Core.List.Memᴰ
use mathlib.Core.List.{List, Memᴰ}
use native.Mathlib.Omega.{arith}
use Rattle.cuts.specs.Network.{Network, Tree}
use Rattle.cuts.specs.Candidate.{Handle, Candidate, candidate, handles, member_links}
use Rattle.cuts.proofs.Least.{Order}
use Rattle.cuts.proofs.Handles.{handle_in, handle-of}
use Rattle.arrays.specs.Kept.{LinksAt}
use Rattle.search_order.specs.Choice.{FirstOf, tree_candidates}
use Rattle.search_order.specs.Visits.{handle_at, passed, Tried, Seen}
use Rattle.search_order.proofs.OrderLaws.{first-same, first_step}
use Rattle.search_order.proofs.LinkLaws.{handle-fits, handle-every}
use Rattle.search_order.proofs.PassedLaws.{passed_none, passed-begun, passed-behind, passed-wider, passed-new, passed-all}

-- one tried may have been tried by another stage too
moved : {net : Network} {i : ℕ} {t : Tree} {links : List ℕ} {a b u v : ℕ} {c : Candidate} (r : Tried net i t links a b c) → passed u v r.row r.column → Tried net i t links u v c
moved r d = record { row = r.row; column = r.column; some = r.some; up = r.up; within = r.within; done = d; is = r.is }

module _ {before : Candidate → Candidate → Bool} {net : Network} {i : ℕ} {t : Tree} {links : List ℕ} {P : Candidate → Type 0} {c : Candidate} where
  -- before the last row nothing of the tree is seen
  pub rows_start : (u v : ℕ) → net.nodes ≤ u → FirstOf before P c → FirstOf before (Seen P net i t links u v) c
  rows_start u v n = first-same (λ x m. inl m) of
    where
      of : (x : Candidate) → Seen P net i t links u v x → P x
      of x (inl m) = m
      of x (inr r) = absurd (passed_none u v r.row r.column net.nodes n r.up r.within r.done)

  -- with the row behind it done, row u begins
  pub row-start : (u v : ℕ) → net.nodes ≤ v → FirstOf before (Seen P net i t links (u + 1) v) c → FirstOf before (Seen P net i t links u u) c
  row-start u v n = first-same to of
    where
      to : (x : Candidate) → Seen P net i t links (u + 1) v x → Seen P net i t links u u x
      to x (inl m) = inl m
      to x (inr r) = inr (moved r (passed-begun u v r.row r.column r.done))

      of : (x : Candidate) → Seen P net i t links u u x → Seen P net i t links (u + 1) v x
      of x (inl m) = inl m
      of x (inr r) = inr (moved r (passed-behind u v r.row r.column net.nodes n r.up r.within r.done))

  -- with row 1 done, all candidates of the tree are seen
  pub rows_end : LinksAt net t links → (u v : ℕ) → u ≤ 1 → net.nodes ≤ v → FirstOf before (Seen P net i t links u v) c
      → FirstOf before (λ x. P x ⊎ Memᴰ x (tree_candidates net i t)) c
  rows_end a u v l n = first-same to of
    where
      to : (x : Candidate) → Seen P net i t links u v x → P x ⊎ Memᴰ x (tree_candidates net i t)
      to x (inl m) = inl m
      to x (inr r) = inr (Memᴰ.cast r.is (Memᴰ.map (λ h. candidate net i t h) (handle_in net t _ (handle-fits a r.row r.column r.some r.up r.within))))

      of : (x : Candidate) → P x ⊎ Memᴰ x (tree_candidates net i t) → Seen P net i t links u v x
      of x (inl m) = inl m
      of x (inr m) =
          let h = Memᴰ.of_map (λ h. candidate net i t h) (handles (member_links net t)) m in
          let p = handle-every a h.0 (handle-of net t h.0 h.1) in
          inr (record {
            row = p.0;
            column = p.1;
            some = p.2;
            up = p.3;
            within = p.4;
            done = passed-all u v p.0 p.1 net.nodes l n p.2 p.4;
            is = sym h.2 ∙ ap (λ (g : Handle). candidate net i t g) p.5;
          })

  -- the next pair, or the row's link alone, is tried
  pub pair_step : Order before → (u v : ℕ) → 0 < u → u ≤ v → v < net.nodes → FirstOf before (Seen P net i t links u v) c
      → let d = candidate net i t (handle_at links u v) in FirstOf before (Seen P net i t links u (v + 1)) (cond (before d c) d c)
  pair_step o u v z l b f = first-same to of (first_step o (candidate net i t (handle_at links u v)) f)
    where
      to : (x : Candidate) → Seen P net i t links u v x ⊎ (x ≡ candidate net i t (handle_at links u v)) → Seen P net i t links u (v + 1) x
      to x (inl (inl m)) = inl m
      to x (inl (inr r)) = inr (moved r (passed-wider u v r.row r.column r.done))
      to x (inr e) = inr (record { row = u; column = v; some = z; up = l; within = b; done = inr (refl, omega arith); is = e })

      new : (x : Candidate) (r : Tried net i t links u (v + 1) x) → passed u v r.row r.column ⊎ ((r.row ≡ u) × (r.column ≡ v))
          → Seen P net i t links u v x ⊎ (x ≡ candidate net i t (handle_at links u v))
      new x r (inl d) = inl (inr (moved r d))
      new x r (inr q) = inr (r.is ∙ ap (λ (k : ℕ). candidate net i t (handle_at links k r.column)) q.0 ∙ ap (λ (k : ℕ). candidate net i t (handle_at links u k)) q.1)

      of : (x : Candidate) → Seen P net i t links u (v + 1) x → Seen P net i t links u v x ⊎ (x ≡ candidate net i t (handle_at links u v))
      of x (inl m) = inl (inl m)
      of x (inr r) = new x r (passed-new u v r.row r.column r.done)
