-- The candidates of a tree by the places of their lower ends: row u has the link at place u alone, then with each one at a place v
-- behind it. Rows are gone through from the last place down; `links` has the link at each place. Assumes nothing.
--   handle_at links u v                        the links at places u and v as a handle; one link where u is v
--   passed u v x y                             row x, column y comes in a row behind u, or in row u before column v
--   Tried net i t links u v c                  c is the candidate of one of the handles passed
--   Seen P net i t links u v c                 so it is, or it is one of P, that were visited before the tree
--   Reached before c net i t links u v found   `found` says the first of c and what was tried, by `before` and then the earlier
use Rattle.std.specs.Prelude.{ℕ, ◌≤◌, ◌<◌, min, max, ◌≡◌, ◌⊎◌, Bool, List}
use Rattle.cuts.specs.Network.{Network, Tree}
use Rattle.cuts.specs.Candidate.{Handle, Candidate, candidate}
use Rattle.arrays.specs.Lists.{entry}
use Rattle.search_order.specs.Choice.{FirstOf, comes_first, chosen, Says}
use Rattle.search_order.specs.declared.Found.{Found}

abbrev pub handle_at : List ℕ → ℕ → ℕ → Handle
handle_at links u v = chosen (min (entry links u) (entry links v)) (max (entry links u) (entry links v))

abbrev pub passed : ℕ → ℕ → ℕ → ℕ → Type 0
passed u v x y = (u < x) ⊎ ((x ≡ u) × (y < v))

pub record Tried (net : Network) (i : ℕ) (t : Tree) (links : List ℕ) (u v : ℕ) (c : Candidate) : Type 0 where
  pub row : ℕ
  pub column : ℕ
  pub some : 0 < row
  pub up : row ≤ column
  pub within : column < net.nodes
  pub done : passed u v row column
  pub is : c ≡ candidate net i t (handle_at links row column)

abbrev pub Seen : (Candidate → Type 0) → Network → ℕ → Tree → List ℕ → ℕ → ℕ → Candidate → Type 0
Seen P net i t links u v c = P c ⊎ Tried net i t links u v c

pub record Reached (before : Candidate → Candidate → Bool) (c : Candidate) (net : Network) (i : ℕ) (t : Tree) (links : List ℕ) (u v : ℕ) (found : Found) : Type 0 where
  pub so_far : Candidate
  pub says : Says found so_far
  pub first : FirstOf (comes_first before) (Seen (λ x. x ≡ c) net i t links u v) so_far
