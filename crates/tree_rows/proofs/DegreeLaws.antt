-- The weight of the links at each place, where it is gathered from the nodes.
-- Assumes nothing.
use Rattle.std.proofs.Common.{◌≡◌, ℕ, ◌+◌, ◌<◌, Bool, true, false, eqb, ◌⊎◌, List, sym, ap, ◌∙◌, ap₂, inl, inr, eq-eqb, ne_eqb, eqb-true}
use borrow.Author.Tests.{eqb-false}
use Rattle.cuts.specs.Sums.{only}
use Rattle.cuts.specs.Network.{Tree, Network, link_at, link_count}
use Rattle.cuts.proofs.FlagLaws.{truth}
use Rattle.cuts.proofs.SumLaws.{sum_congr}
use Rattle.arrays.specs.Lists.{entry}
use Rattle.arrays.specs.Links.{Loopless}
use Rattle.arrays.specs.ByNode.{Degrees}
use Rattle.arrays.specs.Kept.{Kept}
use Rattle.tree_rows.specs.Rows.{degree, weight_at, PlaceDegrees}
use Rattle.tree_rows.proofs.RunLaws.{ends_of}

module _ {net : Network} {t : Tree} {place node stops links : List ℕ} (w : Kept net t place node stops links) (apart : Loopless net) where
  same_test : (a y : ℕ) → a < net.nodes → y < net.nodes → eqb a (entry node y) ≡ eqb (entry place a) y
  same_test a y b c = go (truth (eqb (entry place a) y))
    where
      go : (eqb (entry place a) y ≡ true) ⊎ (eqb (entry place a) y ≡ false) → eqb a (entry node y) ≡ eqb (entry place a) y
      go (inl q) = eq-eqb a (entry node y) (sym (w.back a b) ∙ ap (entry node) (eqb-true (entry place a) y q)) ∙ sym q
      go (inr q) = ne_eqb a (entry node y) (λ e. eqb-false (entry place a) y q (ap (entry place) e ∙ w.forth y c)) ∙ sym q

  pub place-degrees : (degrees out : List ℕ) → Degrees net degrees → ((p : ℕ) → p < net.nodes → entry out p ≡ entry degrees (entry node p)) → PlaceDegrees net place out
  unfolding degree
  place-degrees degrees out d g = record {
    is = λ y b.
        g y b ∙ d (entry node y) (w.taken y b)
        ∙ sum_congr (link_count net) _ _ (λ k c.
        let f = w.spanning.linked.first_in k c in
        let s = w.spanning.linked.second_in k c in
        ends_of (link_at net k).first (link_at net k).second (entry node y) (λ _. weight_at net k) (apart k c)
        ∙ ap₂ (λ (i : Bool) (j : Bool). only i (weight_at net k) + only j (weight_at net k)) (same_test (link_at net k).first y f b) (same_test (link_at net k).second y s b));
  }
