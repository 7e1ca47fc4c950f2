-- `tree_sides::side_of` meets its contract: both members are found at places of the tree, whose nodes the layers have. Assumes nothing.
use Rattle.std.proofs.Common.{List, Option, Some, None, MatchOption, ◌≡◌, ℕ, true, false, eqb, ◌⊎◌, sym, subst, ap₂, inl, inr, arith, eqb-true}
use Rattle.cuts.specs.Network.{Network, Tree}
use Rattle.cuts.specs.Tree.{Member}
use Rattle.cuts.specs.Candidate.{Handle, one, two, Fits, side_of}
use Rattle.cuts.proofs.FlagLaws.{truth}
use Rattle.search_order.specs.Choice.{chosen}
use Rattle.tree_sides.specs.NodeLayers.{NodesBefore, SideWords}
use Rattle.std.specs.Option.{unwrap_or}
use Rattle.arrays.specs.Kept.{LinksAt}
use Rattle.tree_sides.specs.Sides.{NoPlace, StandsAt}
use Rattle.tree_sides.proofs.side_of.Goals as goal

-- the links that a handle names are members
members-of : {net : Network} {t : Tree} (first second : ℕ) → Fits net t (chosen first second) → Member net t first × Member net t second
members-of {net} {t} first second fits = go (truth (eqb first second))
  where
    go : (eqb first second ≡ true) ⊎ (eqb first second ≡ false) → Member net t first × Member net t second
    go (inl q) =
        let c : chosen first second ≡ one first = rw q in
        let m : Member net t first = subst (Fits net t) c fits in
        (m, subst (Member net t) (eqb-true first second q) m)
    go (inr q) =
        let c : chosen first second ≡ two first second = rw q in
        let m : Fits net t (two first second) = subst (Fits net t) c fits in
        (m.1, m.2)

-- a member that is looked for is found where it stands
found : {net : Network} {t : Tree} {links : List ℕ} (at : LinksAt net t links) (e : ℕ) → Member net t e
    → (o : Option ℕ) → MatchOption o (NoPlace net.nodes links e) (StandsAt net.nodes links e) → StandsAt net.nodes links e (unwrap_or o 0)
found at e m None none = let p = at.every e m in absurd (none p.0 (record { behind = p.1; within = p.2; is = p.3 }))
found at e m (Some p) there = there

pub returns : goal.returns
returns c net t k n fits =
    let a = c.args in
    let p = a.p.now in
    let m = members-of a.first a.second fits in
    let stands : (e r : ℕ) (o : Option ℕ) → Member net t e → r ≡ unwrap_or o 0 → MatchOption o (NoPlace a.nodes p.links e) (StandsAt a.nodes p.links e) → StandsAt net.nodes p.links e r
    = λ e r o m q found_there. rw q (found k.links-at e m o (subst (λ (x : ℕ). MatchOption o (NoPlace x p.links e) (StandsAt x p.links e)) (sym n) found_there)) in
    let u = stands a.first c.unwrap_or-u.result c.place_of.result m.0 c.unwrap_or-u.ensures c.place_of.ensures in
    let v = stands a.second c.unwrap_or-v.result c.place_of-2.result m.1 c.unwrap_or-v.ensures c.place_of-2.ensures in
    let layers = c.node_layers in
    subst (λ (h : Handle). SideWords c.side_at.result (side_of net t h)) (ap₂ chosen u.is v.is)
    (c.side_at.ensures net t p.place p.node p.links k
    (record { behind = u.behind; within = u.within }) (record { behind = v.behind; within = v.within })
    (subst (λ (x : ℕ). NodesBefore x p.place layers.new.layers) (sym n) layers.ensures))
