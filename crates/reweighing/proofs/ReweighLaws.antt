-- What a replaced weight leaves as it was, and by how much it moves the weight of a side: by the difference where the link crosses the side,
-- and not at all elsewhere.
-- Assumes nothing.
use Prim.Native.Nat.{ℕ, ◌+◌, ◌≤◌, ◌<◌}
use mathlib.Core.Path.{◌≡◌, refl, sym, ap, ◌∙◌}
use mathlib.Core.Logic.{◌⊎◌, inl, inr}
use mathlib.Core.Bool.{Bool, true, false, cond}
use mathlib.Core.List.{List}
use native.Mathlib.Decide.{dec_lt}
use native.Mathlib.Omega.{arith}
use lib.ListN.{get_or, set, length-set}
use lib.Seq.{get_or-set_same, get_or-set_other, set_out, set-get_or}
use lib.Dec.{eqb}
use borrow.Author.Tests.{eqb-true, eqb-false}
use Rattle.cuts.specs.Sums.{sum_to, only}
use Rattle.cuts.specs.Network.{Link, Network, no_link, link_at, link_count}
use Rattle.cuts.specs.Cut.{Side, crosses, cut_weight}
use Rattle.cuts.specs.Tree.{Sound}
use Rattle.cuts.proofs.FlagLaws.{truth}
use Rattle.cuts.proofs.SumLaws.{sum_congr, sum-add, sum-single}
use Rattle.sheet.specs.Sheet.{Format, Accepted}
use Rattle.reweighing.specs.Reweighed.{with_weight, reweigh}
use Rattle.reweighing.proofs.AlikeLaws.{Alike, crosses-same, sound-same}

module _ (net : Network) (k w : ℕ) where
  pub reweigh-at : (j : ℕ) → k < link_count net → link_at (reweigh net k w) j ≡ cond (eqb k j) (with_weight (link_at net k) w) (link_at net j)
  unfolding reweigh
  reweigh-at j b = step (truth (eqb k j))
    where
      step : (eqb k j ≡ true) ⊎ (eqb k j ≡ false)
          → get_or (set net.links k (with_weight (link_at net k) w)) j no_link ≡ cond (eqb k j) (with_weight (link_at net k) w) (link_at net j)
      step (inl q) = rw (q, ← eqb-true k j q) (get_or-set_same net.links k _ no_link b)
      step (inr q) = rw q (get_or-set_other net.links k j _ no_link (λ p. eqb-false k j q (sym p)))

  -- the changed link's weight
  pub reweigh-same : k < link_count net → (link_at (reweigh net k w) k).weight ≡ w
  unfolding reweigh
  reweigh-same b = ap (λ (l : Link). l.weight) (get_or-set_same net.links k _ no_link b)

  -- "others kept": every other link is as it was
  pub reweigh-other : (j : ℕ) → (j ≡ k → ⊥) → link_at (reweigh net k w) j ≡ link_at net j
  unfolding reweigh
  reweigh-other j n = get_or-set_other net.links k j _ no_link n

  pub reweigh-alike : Alike net (reweigh net k w)
  unfolding reweigh
  reweigh-alike = record {
    ends = record {
      nodes = refl;
      count = sym (length-set net.links k _);
      first = λ j. sym (ends (λ l. l.first) refl j);
      second = λ j. sym (ends (λ l. l.second) refl j);
    };
    trees = refl;
  }
    where
      ends : (f : Link → ℕ) → f (with_weight (link_at net k) w) ≡ f (link_at net k) → (j : ℕ)
          → f (get_or (set net.links k (with_weight (link_at net k) w)) j no_link) ≡ f (link_at net j)
      ends f q j = step (dec_lt k (link_count net))
        where
          step : Dec (k < link_count net) → f (get_or (set net.links k (with_weight (link_at net k) w)) j no_link) ≡ f (link_at net j)
          step (yes b) = ap f (reweigh-at j b) ∙ go (eqb k j) refl
            where
              go : (c : Bool) → eqb k j ≡ c → f (cond c (with_weight (link_at net k) w) (link_at net j)) ≡ f (link_at net j)
              go true p = q ∙ ap (λ (i : ℕ). f (link_at net i)) (eqb-true k j p)
              go false p = refl
          step (no b) = ap (λ (ls : List Link). f (get_or ls j no_link)) (set_out net.links k _ (omega arith))

  -- what holds of the new weight and of every weight before
  pub reweigh-all : (P : ℕ → Type 0) → P w → ((j : ℕ) → j < link_count net → P (link_at net j).weight)
      → (j : ℕ) → j < link_count (reweigh net k w) → P (link_at (reweigh net k w) j).weight
  reweigh-all P l h j b = step (truth (eqb k j))
    where
      inside : j < link_count net
      inside = let e = reweigh-alike.ends.count in omega arith

      step : (eqb k j ≡ true) ⊎ (eqb k j ≡ false) → P (link_at (reweigh net k w) j).weight
      step (inl q) = let e = eqb-true k j q in rw (← e, reweigh-same (omega (arith, inside))) l
      step (inr q) = rw (reweigh-other j (λ p. eqb-false k j q (sym p))) (h j inside)

  pub reweigh-sound : Sound net → Sound (reweigh net k w)
  reweigh-sound = sound-same reweigh-alike

  pub reweigh-accepted : {f : Format} → w ≤ f.weight_limit → Accepted f net → Accepted f (reweigh net k w)
  unfolding reweigh
  reweigh-accepted {f} l a =
      let e = reweigh-alike in
      let c = e.ends.count in
      record {
        sound = reweigh-sound a.sound;
        nodes_most = rw e.ends.nodes at a.nodes_most;
        links_most = let m = a.links_most in omega arith;
        trees_most = rw e.trees at a.trees_most;
        ends_differ = λ j b q. a.ends_differ j (omega arith) (e.ends.first j ∙ q ∙ sym (e.ends.second j));
        weights_most = reweigh-all (λ v. v ≤ f.weight_limit) l a.weights_most;
        members_sized = λ i b. a.members_sized i b ∙ c;
      }

  -- the weight of a side moves by the difference, where the link crosses it
  pub cut_weight_reweigh : k < link_count net → (s : Side)
      → cut_weight (reweigh net k w) s + only (crosses net s k) (link_at net k).weight ≡ cut_weight net s + only (crosses net s k) w
  unfolding cut_weight
  cut_weight_reweigh b s =
      let m : ℕ = link_count net in
      let e = reweigh-alike.ends in
      let x : ℕ → Bool = crosses net s in
      let old : ℕ → ℕ = λ j. (link_at net j).weight in
      let new : ℕ → ℕ = λ j. (link_at (reweigh net k w) j).weight in
      let p : sum_to (link_count (reweigh net k w)) (λ j. only (crosses (reweigh net k w) s j) (new j)) ≡ sum_to m (λ j. only (x j) (new j))
      = λ i. sum_to (sym e.count i) (λ j. only (sym (crosses-same e s j) i) (new j)) in
      let q = sum-add m (λ j. only (x j) (new j)) (λ j. only (eqb k j) (only (x j) (old j))) in
      let r = sum-add m (λ j. only (x j) (old j)) (λ j. only (eqb k j) (only (x j) w)) in
      let t = sum_congr m (λ j. only (x j) (new j) + only (eqb k j) (only (x j) (old j)))
      (λ j. only (x j) (old j) + only (eqb k j) (only (x j) w)) (λ j c. each j) in
      let u = sum-single m k (λ j. only (x j) (old j)) b in
      let v = sum-single m k (λ j. only (x j) w) b in
      omega arith
    where
      go : (q c : Bool) (y : ℕ) → only c (cond q w y) + only q (only c y) ≡ only c y + only q (only c w)
      go true true y = omega arith
      go true false y = omega arith
      go false true y = omega arith
      go false false y = omega arith

      picked : (q : Bool) (l l' : Link) → (cond q (with_weight l w) l').weight ≡ cond q w l'.weight
      picked true l l' = refl
      picked false l l' = refl

      each : (j : ℕ) → only (crosses net s j) (link_at (reweigh net k w) j).weight + only (eqb k j) (only (crosses net s j) (link_at net j).weight)
          ≡ only (crosses net s j) (link_at net j).weight + only (eqb k j) (only (crosses net s j) w)
      each j = rw (reweigh-at j b, picked (eqb k j) (link_at net k) (link_at net j)) (go (eqb k j) (crosses net s j) (link_at net j).weight)

-- the weight that the link has
pub reweigh_present : (net : Network) (k : ℕ) → reweigh net k (link_at net k).weight ≡ net
unfolding reweigh
reweigh_present net k = λ i. record { nodes = net.nodes; links = set-get_or net.links k no_link i; trees = net.trees }
