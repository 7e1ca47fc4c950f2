-- The runs of places below two links of a tree never overlap in part.
-- Assumes nothing.
use Prim.Native.Nat.{ℕ, ◌≤◌, ◌<◌}
use mathlib.Core.Path.{◌≡◌, ap, ◌∙◌}
use mathlib.Core.List.{List}
use native.Mathlib.Decide.{dec_lt}
use native.Mathlib.Omega.{arith}
use Rattle.cuts.specs.Network.{Tree, Network, flag}
use Rattle.cuts.specs.Tree.{below}
use Rattle.arrays.specs.Lists.{entry}
use Rattle.arrays.specs.Kept.{within, Kept}
use Rattle.tree_places.proofs.WithinLaws.{within_in, within-before, within-behind}
use Rattle.tree_places.proofs.Laminar.{below_laminar}

module _ {net : Network} {t : Tree} {place node stops links : List ℕ} (w : Kept net t place node stops links) where
  below_at : (u : ℕ) → 0 < u → u < net.nodes → (p : ℕ) → p < net.nodes → flag (below net t (entry links u)) (entry node p) ≡ within u (entry stops u) p
  below_at u z b p c = w.below_is u (entry node p) z b (w.taken p c) ∙ ap (within u (entry stops u)) (w.forth p c)

  -- the later run lies in the earlier, if it starts there
  pub stops_nest : (u v : ℕ) → 0 < u → u < v → v < net.nodes → v < entry stops u → entry stops v ≤ entry stops u
  stops_nest u v z l b c = go (dec_lt (entry stops u) (entry stops v))
    where
      go : Dec (entry stops u < entry stops v) → entry stops v ≤ entry stops u
      go (no d) = omega arith
      go (yes d) =
          let s : ℕ = entry stops u in
          let low : u < net.nodes = omega arith in
          let high : 0 < v = omega arith in
          let i : s < net.nodes = omega (arith, w.most v b) in
          let m = w.links-at.member in
          absurd (below_laminar w.spanning (entry links u) (entry links v) (m u z low) (m v high b)
          (w.taken u low) (w.taken s i) (w.taken v b)
          (below_at u z low u low ∙ within_in u s u (omega arith) (w.some u low)) (below_at v high b u low ∙ within-before v (entry stops v) u l)
          (below_at u z low s i ∙ within-behind u s s (omega arith)) (below_at v high b s i ∙ within_in v (entry stops v) s (omega arith) d)
          (below_at u z low v b ∙ within_in u s v (omega arith) c) (below_at v high b v b ∙ within_in v (entry stops v) v (omega arith) (w.some v b)))
