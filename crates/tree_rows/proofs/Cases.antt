-- A network of five nodes and seven links, a spanning tree of it and the arrays that hold both: what is asked of the arrays can be met,
-- and the definitions give every pair of its links the weight that the row's law says.
--   small           the network, with the tree
--   kept, indexed, searchable, tree_held   its arrays are as a row needs them
--   pairs           all pairs, by computing both sides
-- Assumes nothing.
use Rattle.std.proofs.Common.{◌≡◌, ℕ, zero, suc, ◌+◌, ◌-◌, ◌*◌, ◌^◌, ◌<◌, Bool, true, false, not, ◌||◌, eqb, ltb, leb, ◌⊎◌, List, [], ◌∷◌, sym, refl, ap, ◌∙◌, inl, inr, arith, ltb-true, eq-eqb, eqb-true, leb-true}
use mathlib.Core.Bool.{beq}
use lib.Seq.{slice}
use Rattle.cuts.specs.Sums.{all_to, table}
use Rattle.cuts.specs.Network.{Link, Tree, Network, flag, link_at}
use Rattle.cuts.specs.Tree.{below, member_count, spans, Member, Spanning}
use Rattle.cuts.specs.Candidate.{one, weight_of}
use Rattle.cuts.specs.Limits.{most_nodes}
use Rattle.cuts.proofs.FlagLaws.{either, flags_equal, clash}
use Rattle.cuts.proofs.SumLaws.{all_to-at, table-length, table_at}
use Rattle.cuts.proofs.ListLaws.{mem_at}
use Rattle.arrays.specs.Lists.{entry}
use Rattle.arrays.specs.ByNode.{links_at, Indexed}
use Rattle.arrays.specs.Kept.{within, LinksAt, Kept}
use Rattle.arrays.specs.declared.Index.{Index}
use Rattle.arrays.specs.declared.Links.{Links}
use Rattle.tree_places.specs.declared.Places.{Places}
use Rattle.search_order.specs.Visits.{handle_at}
use Rattle.tree_rows.specs.Rows.{sum_over, crossing}
use Rattle.tree_rows.specs.Making.{Searchable, TreeHeld}

abbrev link : ℕ → ℕ → ℕ → Link
link a b w = record { first = a; second = b; weight = w }

abbrev grown : Tree
grown = record { share = 1; members = true ∷ true ∷ true ∷ true ∷ false ∷ false ∷ false ∷ [] }

abbrev small : Network
small = record {
  nodes = 5;
  links = link 0 1 3 ∷ link 1 2 2 ∷ link 3 1 4 ∷ link 0 4 1 ∷ link 2 4 5 ∷ link 3 0 2 ∷ link 2 3 1 ∷ [];
  trees = grown ∷ [];
}

-- ---- the arrays

abbrev place : List ℕ
place = 0 ∷ 1 ∷ 3 ∷ 2 ∷ 4 ∷ []

abbrev node : List ℕ
node = 0 ∷ 1 ∷ 3 ∷ 2 ∷ 4 ∷ []

abbrev stops : List ℕ
stops = 5 ∷ 4 ∷ 3 ∷ 4 ∷ 5 ∷ []

abbrev links : List ℕ
links = 0 ∷ 0 ∷ 2 ∷ 1 ∷ 3 ∷ []

abbrev firsts : List ℕ
firsts = 0 ∷ 1 ∷ 3 ∷ 0 ∷ 2 ∷ 3 ∷ 2 ∷ []

abbrev seconds : List ℕ
seconds = 1 ∷ 2 ∷ 1 ∷ 4 ∷ 4 ∷ 0 ∷ 3 ∷ []

abbrev weights : List ℕ
weights = 3 ∷ 2 ∷ 4 ∷ 1 ∷ 5 ∷ 2 ∷ 1 ∷ []

abbrev starts : List ℕ
starts = 0 ∷ 3 ∷ 6 ∷ 9 ∷ 12 ∷ 14 ∷ []

abbrev runs : List ℕ
runs = 0 ∷ 3 ∷ 5 ∷ 0 ∷ 1 ∷ 2 ∷ 1 ∷ 4 ∷ 6 ∷ 2 ∷ 5 ∷ 6 ∷ 3 ∷ 4 ∷ []

abbrev held : Links
held = record { firsts = firsts; seconds = seconds; weights = weights }

abbrev index : Index
index = record { starts = starts; runs = runs; degrees = [] }

abbrev places : Places
places = record { place = place; node = node; stops = stops; links = links }

-- ---- what is asked of them

all_nodes : (test : ℕ → Bool) → all_to 5 test ≡ true → (x : ℕ) → x < 5 → test x ≡ true
all_nodes test h = all_to-at 5 test h

all-links : (test : ℕ → Bool) → all_to 7 test ≡ true → (k : ℕ) → k < 7 → test k ≡ true
all-links test h = all_to-at 7 test h

spanning : Spanning small grown
unfolding member_count spans all_to
spanning = record {
  linked = record {
    rooted = omega arith;
    first_in = λ k b. ltb-true _ 5 (all-links (λ k. ltb (link_at small k).first 5) refl k b);
    second_in = λ k b. ltb-true _ 5 (all-links (λ k. ltb (link_at small k).second 5) refl k b);
  };
  counted = refl;
  spanning = refl;
}

-- a test that only the places behind the root's pass
behind : (test : ℕ → Bool) → ((p : ℕ) → p < 5 → (eqb p 0 || test p) ≡ true) → (p : ℕ) → 0 < p → p < 5 → test p ≡ true
behind test h p z b = go (either (eqb p 0) (test p) (h p b))
  where
    go : (eqb p 0 ≡ true) ⊎ (test p ≡ true) → test p ≡ true
    go (inl e) = let q = eqb-true p 0 e in absurd (omega arith)
    go (inr e) = e

-- the place of each member
abbrev seats : List ℕ
seats = 1 ∷ 3 ∷ 2 ∷ 4 ∷ []

links-at : LinksAt small grown links
unfolding all_to
links-at = record {
  member = λ p z b. record {
    is_link = ltb-true _ 7 (all_nodes (λ p. ltb (entry links p) 7) refl p b);
    is_set = all_nodes (λ p. flag grown.members (entry links p)) refl p b;
  };
  once = λ p q y b z c e. sym (seat p y b) ∙ ap (entry seats) e ∙ seat q z c;
  every = λ e m. (entry seats e, ltb-true 0 _ (first m), ltb-true _ 5 (second m), eqb-true _ e (third m));
}
  where
    seat : (p : ℕ) → 0 < p → p < 5 → entry seats (entry links p) ≡ p
    seat p z b = eqb-true _ p (behind (λ p. eqb (entry seats (entry links p)) p) (all_nodes (λ p. eqb p 0 || eqb (entry seats (entry links p)) p) refl) p z b)

    of-member : (test : ℕ → Bool) → ((e : ℕ) → e < 7 → (not (flag grown.members e) || test e) ≡ true) → {e : ℕ} → Member small grown e → test e ≡ true
    of-member test h {e} m = go (flag grown.members e) m.is_set (h e m.is_link)
      where
        go : (b : Bool) → b ≡ true → (not b || test e) ≡ true → test e ≡ true
        go true _ q = q
        go false p _ = clash p refl

    first : {e : ℕ} → Member small grown e → ltb 0 (entry seats e) ≡ true
    first m = of-member (λ e. ltb 0 (entry seats e)) (all-links _ refl) m

    second : {e : ℕ} → Member small grown e → ltb (entry seats e) 5 ≡ true
    second m = of-member (λ e. ltb (entry seats e) 5) (all-links _ refl) m

    third : {e : ℕ} → Member small grown e → eqb (entry links (entry seats e)) e ≡ true
    third m = of-member (λ e. eqb (entry links (entry seats e)) e) (all-links _ refl) m

pub kept : Kept small grown place node stops links
unfolding all_to below
kept = record {
  spanning = spanning;
  placed = λ x b. ltb-true _ 5 (all_nodes (λ x. ltb (entry place x) 5) refl x b);
  back = λ x b. eqb-true _ x (all_nodes (λ x. eqb (entry node (entry place x)) x) refl x b);
  taken = λ p b. ltb-true _ 5 (all_nodes (λ p. ltb (entry node p) 5) refl p b);
  forth = λ p b. eqb-true _ p (all_nodes (λ p. eqb (entry place (entry node p)) p) refl p b);
  root = refl;
  links-at = links-at;
  some = λ p b. ltb-true p _ (all_nodes (λ p. ltb p (entry stops p)) refl p b);
  most = λ p b. leb-true _ 5 (all_nodes (λ p. leb (entry stops p) 5) refl p b);
  below_is = λ p x z b c. flags_equal _ _ (all_to-at 5 (same p) (behind (λ p. all_to 5 (same p)) (all_nodes (λ p. eqb p 0 || all_to 5 (same p)) refl) p z b) x c);
}
  where
    same : ℕ → ℕ → Bool
    same p x = beq (flag (below small grown (entry links p)) x) (within p (entry stops p) (entry place x))

-- the run of each node
run : (x : ℕ) → x < 5 → slice (entry starts x) (entry starts (x + 1)) runs ≡ links_at firsts seconds x (table 7 (λ k. k))
unfolding links_at table
run zero b = refl
run (suc zero) b = refl
run (suc (suc zero)) b = refl
run (suc (suc (suc zero))) b = refl
run (suc (suc (suc (suc zero)))) b = refl
run (suc (suc (suc (suc (suc x))))) b = absurd (omega arith)

pub indexed : Indexed small held index 5 7
unfolding all_to
indexed = record {
  laid = record {
    held = record {
      linked = spanning.linked;
      sized = refl;
      firsts = λ k b. eqb-true _ _ (all-links (λ k. eqb (link_at small k).first (entry firsts k)) refl k b);
      seconds = λ k b. eqb-true _ _ (all-links (λ k. eqb (link_at small k).second (entry seconds k)) refl k b);
    };
    weighed = record {
      counted = refl;
      weights = λ k b. eqb-true _ _ (all-links (λ k. eqb (link_at small k).weight (entry weights k)) refl k b);
    };
  };
  light = record { few = omega arith; small = λ k b. ltb-true _ (2 ^ 32) (all-links (λ k. ltb (link_at small k).weight (2 ^ 32)) refl k b) };
  loopless = λ k b e. clash (all-links (λ k. not (eqb (link_at small k).first (link_at small k).second)) refl k b) (ap not (eq-eqb _ _ e));
  by_node = record {
    known = λ k m.
        let i = mem_at 0 m in
        let b : k < 7 = omega (arith, i.1, i.2, table-length 7 (λ j. j), table_at 0 7 (λ j. j) i.0 (omega (arith, i.1, table-length 7 (λ j. j)))) in
        record {
          in_firsts = b;
          in_seconds = b;
          first_in = ltb-true _ 5 (all-links (λ k. ltb (entry firsts k) 5) refl k b);
          second_in = ltb-true _ 5 (all-links (λ k. ltb (entry seconds k) 5) refl k b);
        };
    start = refl;
    rises = λ x b. leb-true _ _ (all_nodes (λ x. leb (entry starts x) (entry starts (x + 1))) refl x b);
    room = λ x b. leb-true _ 14 (all_nodes (λ x. leb (entry starts (x + 1)) 14) refl x b);
    at = run;
  };
}

pub searchable : Searchable held index places 5
unfolding all_to
searchable = record {
  few_nodes = omega arith;
  links_listed = (7, omega arith, indexed.by_node);
  nodes_in = λ i b. ltb-true _ 5 (all_to-at most_nodes (λ i. ltb (entry node i) 5) refl i b);
  stops_in = λ i b. ltb-true _ (most_nodes + 1) (all_to-at most_nodes (λ i. ltb (entry stops i) (most_nodes + 1)) refl i b);
}

pub tree_held : TreeHeld small grown held index places links 5
tree_held = record { count = 7; indexed = indexed; kept = kept }

-- ---- all pairs

pub pairs : all_to 5 (λ v. all_to v (λ u.
    let single : ℕ → ℕ = λ p. weight_of small grown (one (entry links p)) in
    let up_to : ℕ → ℕ = λ y. sum_over u y (crossing small place u (entry stops u)) in
    eqb u 0 || eqb (weight_of small grown (handle_at links u v)) (single u + single v - 2 * (up_to (entry stops v) - up_to v)))) ≡ true
unfolding all_to weight_of sum_over crossing
pairs = refl
