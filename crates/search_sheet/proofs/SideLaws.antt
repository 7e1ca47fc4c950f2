-- The side of what is found, tree by tree: it stays as long as what is found stays, and in the end is that of the candidate that is reported.
-- Assumes nothing.
use Prim.Native.Nat.{ℕ}
use mathlib.Core.Path.{◌≡◌, sym, ap, subst}
use mathlib.Core.List.{List}
use Rattle.cuts.specs.Network.{Network, tree_at}
use Rattle.cuts.specs.Tree.{Sound}
use Rattle.cuts.specs.Candidate.{Handle, Fits, side_of, Candidate, candidate, fewer_nodes}
use Rattle.cuts.specs.Answer.{reported}
use Rattle.cuts.proofs.Handles.{candidate-of}
use Rattle.cuts.proofs.Least.{first_in}
use Rattle.cuts.proofs.Demands.{reported_first}
use Rattle.search_order.specs.Choice.{Says, chosen}
use Rattle.search_order.specs.declared.Found.{Found}
use Rattle.tree_sides.specs.NodeLayers.{SideWords}

-- the words hold the side of the links h of tree i, if they are members of it
abbrev Holds : Network → ℕ → Handle → List ℕ → Type 0
Holds net i h side = Fits net (tree_at net i) h → SideWords side (side_of net (tree_at net i) h)

pub record SideKept (net : Network) (found : Found) (side : List ℕ) : Type 0 where
  pub holds : Holds net found.tree (chosen found.first found.second) side

module _ {net : Network} {found : Found} {side : List ℕ} where
  pub side_same : {next : Found} → next.tree ≡ found.tree → chosen next.first next.second ≡ chosen found.first found.second
      → SideKept net found side → SideKept net next side
  side_same {next} e f k = record {
    holds = subst (λ (i : ℕ). Holds net i (chosen next.first next.second) side) (sym e) (subst (λ (h : Handle). Holds net found.tree h side) (sym f) k.holds);
  }

  pub side_made : {i : ℕ} → found.tree ≡ i → Holds net i (chosen found.first found.second) side → SideKept net found side
  side_made e k = record { holds = subst (λ (i : ℕ). Holds net i (chosen found.first found.second) side) (sym e) k }

  pub side-reported : Sound net → Says found (reported fewer_nodes net) → SideKept net found side → SideWords side (reported fewer_nodes net).side
  unfolding candidate
  side-reported v s k =
      let c : Candidate = reported fewer_nodes net in
      let g = candidate-of net c (first_in (reported_first net v fewer_nodes)) in
      let h : Holds net c.tree c.handle side =
      subst (λ (i : ℕ). Holds net i c.handle side) s.tree (subst (λ (h : Handle). Holds net found.tree h side) s.handle k.holds) in
      subst (SideWords side) (sym (ap (λ (x : Candidate). x.side) g.is)) (h g.fits)
