-- The network that arrays with one weight written hold is the network that they held, reweighed; and a sheet whose network they held is held.
-- Assumes nothing.
use Prim.Native.Nat.{ℕ, ◌*◌, ◌≤◌, ◌<◌}
use mathlib.Core.Path.{◌≡◌, sym, ◌∙◌, subst}
use mathlib.Core.Logic.{◌⊎◌, inl, inr}
use mathlib.Core.Bool.{true, false}
use mathlib.Core.List.{List, []}
use native.Mathlib.Omega.{arith}
use lib.ListN.{length, get_or, set, drop, length-set}
use lib.Seq.{ext_get_or, get_or-set_same, get_or-set_other}
use lib.Dec.{eqb}
use borrow.Author.Tests.{eqb-true, eqb-false}
use Rattle.cuts.specs.Sums.{table}
use Rattle.cuts.specs.Network.{Link, Network, no_link, link_count}
use Rattle.cuts.proofs.FlagLaws.{truth}
use Rattle.sheet.specs.Bytes.{Bytes, map_bit, number}
use Rattle.sheet.specs.Sheet.{Format, tree_length, tree_in, network, Accepted}
use Rattle.arrays.specs.Lists.{part}
use Rattle.arrays.specs.Links.{links_of}
use Rattle.arrays.specs.Records.{trees_from, network_at, SheetHeld}
use Rattle.arrays.specs.declared.Layout.{Layout}
use Rattle.arrays.proofs.LinkLaws.{links_of-length, links_of-at}
use Rattle.reweighing.specs.Reweighed.{with_weight, reweigh}
use Rattle.reweighing.proofs.ReweighLaws.{reweigh-accepted}

module _ (m : ℕ) (fs ss ws : List ℕ) (k x : ℕ) (is_link : k < m) (room : k < length ws) where
  abbrev held : List Link
  held = links_of m fs ss ws

  at_set : (j : ℕ) → j < m → get_or (links_of m fs ss (set ws k x)) j no_link ≡ get_or (set held k (with_weight (get_or held k no_link) x)) j no_link
  at_set j b = rw (links_of-at m fs ss (set ws k x) j b) (step (truth (eqb j k)))
    where
      link : ℕ → Link
      link w = record { first = get_or fs j 0; second = get_or ss j 0; weight = w }

      step : (eqb j k ≡ true) ⊎ (eqb j k ≡ false) → link (get_or (set ws k x) j 0) ≡ get_or (set held k (with_weight (get_or held k no_link) x)) j no_link
      step (inl q) =
          let e = eqb-true j k q in
          let l = links_of-length m fs ss ws in
          rw (e, get_or-set_same ws k x 0 room, get_or-set_same held k (with_weight (get_or held k no_link) x) no_link (omega arith), links_of-at m fs ss ws k is_link)
      step (inr q) =
          let n = eqb-false j k q in
          rw (get_or-set_other ws k j x 0 n, get_or-set_other held k j (with_weight (get_or held k no_link) x) no_link n, links_of-at m fs ss ws j b)

  links_of-set : links_of m fs ss (set ws k x) ≡ set held k (with_weight (get_or held k no_link) x)
  links_of-set =
      let l = links_of-length m fs ss (set ws k x) in
      ext_get_or no_link (links_of m fs ss (set ws k x)) (set held k (with_weight (get_or held k no_link) x))
      (l ∙ sym (length-set held k _ ∙ links_of-length m fs ss ws)) (λ j c. at_set j (omega arith))

-- the trees go by the number of links
trees-same : (a b : Network) → link_count a ≡ link_count b → (n : ℕ) (bs : Bytes) → trees_from a n bs ≡ trees_from b n bs
unfolding trees_from tree_in
trees-same a b e n bs = λ i. table n (λ j. record {
  share = number 4 (drop (j * tree_length (e i)) bs);
  members = table (e i) (map_bit (drop 4 (drop (j * tree_length (e i)) bs)));
})

module _ {f : Format} {s : Bytes} {ends : List (List ℕ)} {ws : List ℕ} {l : Layout} (h : SheetHeld f s ends ws l) (k x : ℕ) (is_link : k < l.links) where
  pub network_at-set : network_at s ends (set ws k x) l ≡ reweigh (network_at s ends ws l) k x
  unfolding reweigh
  network_at-set =
      let e = links_of-set l.links (part ends 0) (part ends 1) ws k x is_link (let r = h.arrays.weights_room in let m = h.few_links in omega arith) in
      let a = links_of-length l.links (part ends 0) (part ends 1) (set ws k x) in
      let b = links_of-length l.links (part ends 0) (part ends 1) ws in
      let t = trees-same (network l.nodes (links_of l.links (part ends 0) (part ends 1) (set ws k x)) [])
      (network l.nodes (links_of l.links (part ends 0) (part ends 1) ws) []) (a ∙ sym b) l.trees (drop l.records s) in
      λ i. network l.nodes (e i) (t i)

  pub held-set : x ≤ f.weight_limit → SheetHeld f s ends (set ws k x) l
  held-set m = record {
    inside = h.inside;
    few_links = h.few_links;
    few_trees = h.few_trees;
    accepted = subst (Accepted f) (sym network_at-set) (reweigh-accepted (network_at s ends ws l) k x m h.accepted);
    arrays = record { ends_room = h.arrays.ends_room; weights_room = length-set ws k x ∙ h.arrays.weights_room };
  }
