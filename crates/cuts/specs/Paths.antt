-- Walks and tree paths, and what the definitions of Tree and Candidate say in terms of them. Assumes nothing.
--   Meets net k x y           link k has the ends x and y
--   Walk net chosen x y ks    a walk from x to y along chosen links takes the links ks, in their order
--   Distinct ks               no entry of ks stands twice
--   Trail net chosen x y ks   a walk that takes no link twice
--   TreePath net t x y ks     a trail along members of the tree t
--   Reachable net chosen x    some walk along chosen links leads from x to the root
--   Reaches net chosen        the nodes joined to the root are those from which a walk leads there
--   Paths net t               the tree paths of t are what `below` and the pair weight are about
use Rattle.std.specs.Prelude.{ℕ, ◌<◌, ◌≡◌, ◌↔◌, Bool, true, ◌&&◌}
use Rattle.std.specs.Bool.{xor}
use mathlib.Core.List.{List, [], ◌∷◌, Memᴰ}
use Rattle.cuts.specs.Network.{Tree, Network, flag, link_at, link_count}
use Rattle.cuts.specs.Cut.{crosses}
use Rattle.cuts.specs.Tree.{joined, below, Member}

pub data Meets (net : Network) (k x y : ℕ) : Type 0 where
  forth : (link_at net k).first ≡ x → (link_at net k).second ≡ y → Meets net k x y
  back : (link_at net k).second ≡ x → (link_at net k).first ≡ y → Meets net k x y

pub data Walk (net : Network) (chosen : List Bool) : ℕ → ℕ → List ℕ → Type 0 where
  stop : {x y : ℕ} → x ≡ y → Walk net chosen x y []
  step : {k x y z : ℕ} {ks : List ℕ} → k < link_count net → flag chosen k ≡ true → Meets net k x y
      → Walk net chosen y z ks → Walk net chosen x z (k ∷ ks)

abbrev pub Distinct : {A : Type 0} → List A → Type 0
Distinct [] = Unit {0}
Distinct (k ∷ ks) = (Memᴰ k ks → ⊥) × Distinct ks

abbrev pub Trail : Network → List Bool → ℕ → ℕ → List ℕ → Type 0
Trail net chosen x y ks = Walk net chosen x y ks × Distinct ks

abbrev pub TreePath : Network → Tree → ℕ → ℕ → List ℕ → Type 0
TreePath net t x y ks = Trail net t.members x y ks

abbrev pub Reachable : Network → List Bool → ℕ → Type 0
Reachable net chosen x = (ks : List ℕ) × Walk net chosen x 0 ks

pub record Reaches (net : Network) (chosen : List Bool) : Type 0 where
  pub joined_is : (x : ℕ) → x < net.nodes → (flag (joined net chosen) x ≡ true) ↔ Reachable net chosen x

pub record Paths (net : Network) (t : Tree) : Type 0 where
  -- any two nodes have one tree path and no other
  pub path : (x y : ℕ) → x < net.nodes → y < net.nodes → (ks : List ℕ) × TreePath net t x y ks
  pub only_path : {x y : ℕ} {ks js : List ℕ} → TreePath net t x y ks → TreePath net t x y js → ks ≡ js
  -- a tree path takes a tree link exactly where one of its two ends lies below that link
  pub takes_is : (e : ℕ) → Member net t e → {x y : ℕ} {ks : List ℕ} → TreePath net t x y ks
      → Memᴰ e ks ↔ (xor (flag (below net t e) x) (flag (below net t e) y) ≡ true)
  -- below a tree link lie the nodes whose tree path to the root uses it
  pub below_is : (e : ℕ) → Member net t e → {x : ℕ} {ks : List ℕ} → TreePath net t x 0 ks
      → (flag (below net t e) x ≡ true) ↔ Memᴰ e ks
  -- what two tree links share is the links whose ends are joined by a tree path using both
  pub shared_is : (e f : ℕ) → Member net t e → Member net t f
      → (k : ℕ) {ks : List ℕ} → TreePath net t (link_at net k).first (link_at net k).second ks
      → ((crosses net (below net t e) k && crosses net (below net t f) k) ≡ true) ↔ (Memᴰ e ks × Memᴰ f ks)
