-- The header of a sheet, outcome by outcome: which check of its counts is the first to fail. Assumes nothing.
use Prim.Native.Nat.{ℕ, ◌-◌, ◌≤◌, ◌<◌}
use mathlib.Core.Path.{◌≡◌, sym, ◌∙◌}
use mathlib.Core.Logic.{◌⊎◌, inl, inr}
use mathlib.Core.Bool.{true, false, ◌||◌}
use native.Mathlib.Omega.{arith}
use lib.ListN.{length, get_or, drop}
use lib.Dec.{eqb, ltb}
use borrow.Author.Tests.{lt-ltb, le-ltb, eq-eqb, ne_eqb}
use Rattle.cuts.proofs.FlagLaws.{or_left, or_right}
use Rattle.cuts.specs.Limits.{most_nodes, most_links, most_trees}
use Rattle.sheet.specs.Bytes.{Bytes, number}
use Rattle.sheet.specs.Reading.{first_failing, accepted, refused, unless}
use Rattle.sheet.specs.Sheet.{Counts, header_length, counts_in, count_checks, header_record}
use Rattle.sheet.proofs.Acceptance.{GoodCounts}
use Rattle.sheet.proofs.ByteLaws.{number-one}

outside : (n least most : ℕ) → (n < least) ⊎ (most < n) → (ltb n least || ltb most n) ≡ true
outside n least most (inl h) = or_left (ltb n least) (ltb most n) (lt-ltb n least h)
outside n least most (inr h) = or_right (ltb n least) (ltb most n) (lt-ltb most n h)

inside : (n least most : ℕ) → least ≤ n → n ≤ most → (ltb n least || ltb most n) ≡ false
inside n least most a b = rw (le-ltb n least a, le-ltb most n b)

module _ (c : Counts) where
  pub nodes-refused : (c.nodes < 2) ⊎ (most_nodes < c.nodes) → first_failing (count_checks c) ≡ 4
  unfolding first_failing count_checks
  nodes-refused h = rw (outside c.nodes 2 most_nodes h)

  pub links-refused : 2 ≤ c.nodes → c.nodes ≤ most_nodes → (c.links < c.nodes - 1) ⊎ (most_links < c.links) → first_failing (count_checks c) ≡ 5
  unfolding first_failing count_checks
  links-refused a b h = rw (inside c.nodes 2 most_nodes a b, outside c.links (c.nodes - 1) most_links h)

  pub trees-refused : 2 ≤ c.nodes → c.nodes ≤ most_nodes → c.nodes - 1 ≤ c.links → c.links ≤ most_links → (c.trees ≡ 0) ⊎ (most_trees < c.trees)
      → first_failing (count_checks c) ≡ 6
  unfolding first_failing count_checks
  trees-refused a b d e (inl h) = rw (inside c.nodes 2 most_nodes a b, inside c.links (c.nodes - 1) most_links d e, eq-eqb c.trees 0 h)
  trees-refused a b d e (inr h) =
      rw (inside c.nodes 2 most_nodes a b, inside c.links (c.nodes - 1) most_links d e, or_right (eqb c.trees 0) _ (lt-ltb most_trees c.trees h))

  pub counts_pass : GoodCounts c → first_failing (count_checks c) ≡ 0
  unfolding first_failing count_checks
  counts_pass g =
      let some : c.trees ≡ 0 → ⊥ = λ e. let t = g.trees_least in omega arith in
      rw (
        inside c.nodes 2 most_nodes g.nodes_least g.nodes_most,
        inside c.links (c.nodes - 1) most_links g.links_least g.links_most,
        ne_eqb c.trees 0 some,
        le-ltb most_trees c.trees g.trees_most,
      )

module _ (sheet : Bytes) where
  pub header-short : length sheet < header_length → header_record sheet ≡ refused 3
  unfolding header_record
  header-short h = simp (lt-ltb (length sheet) header_length h)

  pub header-long : (c : Counts) (n : ℕ) → header_length ≤ length sheet → c ≡ counts_in sheet → n ≡ first_failing (count_checks c)
      → header_record sheet ≡ unless n (accepted c (drop header_length sheet))
  unfolding header_record
  header-long c n h e q = rw (q, e, le-ltb (length sheet) header_length h)

  pub counts-at : (c : Counts) → c.nodes ≡ number 2 sheet → c.links ≡ number 2 (drop 2 sheet) → c.trees ≡ get_or sheet 4 0 → c ≡ counts_in sheet
  unfolding counts_in
  counts-at c n m t = λ i. record { nodes = n i; links = m i; trees = (t ∙ sym (number-one 4 sheet)) i }
