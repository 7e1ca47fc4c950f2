-- The lists of the lightest sides of small networks, fewer nodes first, and what is missing from them, by computing two tables.
--   Listing         a network and the nodes of its listed sides
--   listing_of net   the network net with the nodes of the sides that are listed
--   found_in net     the same of the sides that code finds: those of the new candidates, by key
--   listings        document 01's ring, with a second tree that brings no side, the complete graph of four nodes, with a second tree that
--                   brings a side, and document 01's case F
--   Gap             a network, its reported weight, three times the shares of its trees that count, and the nodes of the sides without the
--                   root that weigh at most as much as the reported one and are not listed
--   gap_of net       the network net with what is missing from its list
--   gaps            three times the shares above the weight, equal to it, and below it
-- Assumes nothing.
use Prim.Native.Nat.{ℕ, zero, suc, ◌*◌, ◌-◌}
use mathlib.Core.Path.{◌≡◌, refl}
use mathlib.Core.Bool.{Bool, true, false, ◌&&◌, not}
use mathlib.Core.List.{List, [], ◌∷◌, ◌++◌, map}
use lib.Dec.{ltb, leb}
use Rattle.cuts.specs.Sums.{select}
use Rattle.cuts.specs.Network.{Link, Tree, Network, flag}
use Rattle.cuts.specs.Cut.{Side, cut_weight, size}
use Rattle.cuts.specs.Candidate.{fewer_nodes}
use Rattle.cuts.specs.Bound.{shares, longest_run, counted}
use Rattle.cuts.specs.Answer.{reported}
use Rattle.listing.specs.Picks.{keep, any_of, sorted}
use Rattle.listing.specs.Listing.{same_flags, listed}
use Rattle.listing.specs.Rounds.{new_ones}

abbrev link : ℕ → ℕ → ℕ → Link
link x y w = record { first = x; second = y; weight = w }

abbrev tree : List Bool → Tree
tree members = record { share = 1; members = members }

abbrev network : ℕ → List Link → List Tree → Network
network n ls ts = record { nodes = n; links = ls; trees = ts }

abbrev ring : List Tree → Network
ring ts = network 4 (link 0 1 1 ∷ link 1 2 1 ∷ link 2 3 1 ∷ link 3 0 1 ∷ []) ts

-- all links of the ring but the last, all but the first
abbrev path : Tree
path = tree (true ∷ true ∷ true ∷ false ∷ [])

abbrev other_path : Tree
other_path = tree (false ∷ true ∷ true ∷ true ∷ [])

-- all links between four nodes, those at the root of weight 1
abbrev four_nodes : ℕ → ℕ → ℕ → List Tree → Network
four_nodes a b c ts = network 4 (link 0 1 1 ∷ link 0 2 1 ∷ link 0 3 1 ∷ link 1 2 a ∷ link 1 3 b ∷ link 2 3 c ∷ []) ts

-- all of weight 1: every node alone weighs 3
abbrev complete_graph : List Tree → Network
complete_graph ts = four_nodes 1 1 1 ts

-- its links at the root, and the path 0, 1, 2, 3
abbrev star : Tree
star = tree (true ∷ true ∷ true ∷ false ∷ false ∷ false ∷ [])

abbrev along : Tree
along = tree (true ∷ false ∷ false ∷ true ∷ false ∷ true ∷ [])

abbrev ladder : Network
ladder = network 4 (link 0 1 1 ∷ link 1 2 1 ∷ link 2 3 1 ∷ link 0 2 10 ∷ link 1 3 10 ∷ []) (tree (true ∷ true ∷ true ∷ false ∷ false ∷ []) ∷ [])

record Listing : Type 0 where
  network : Network
  sides : List (List ℕ)

abbrev lists : Network → List (List ℕ) → Listing
lists net sides = record { network = net; sides = sides }

nodes_of : Network → Side → List ℕ
unfolding select
nodes_of net s = select net.nodes (flag s)

listing_of : Network → Listing
unfolding listed
listing_of net = lists net (map (nodes_of net) (listed fewer_nodes net))

found_in : Network → Listing
unfolding sorted new_ones
found_in net = lists net (map (λ c. nodes_of net c.side) (sorted net.nodes fewer_nodes (new_ones fewer_nodes net)))

abbrev ring_sides : List (List ℕ)
ring_sides = (1 ∷ []) ∷ (2 ∷ []) ∷ (3 ∷ []) ∷ (1 ∷ 2 ∷ []) ∷ (2 ∷ 3 ∷ []) ∷ (1 ∷ 2 ∷ 3 ∷ []) ∷ []

listings : List Listing
listings =
    lists (ring (path ∷ [])) ring_sides
    ∷ lists (ring (path ∷ other_path ∷ [])) ring_sides
    -- the side of all nodes but the root weighs as much, but crosses all three links of the star
    ∷ lists (complete_graph (star ∷ [])) ((1 ∷ []) ∷ (2 ∷ []) ∷ (3 ∷ []) ∷ [])
    ∷ lists (complete_graph (star ∷ along ∷ [])) ((1 ∷ []) ∷ (2 ∷ []) ∷ (3 ∷ []) ∷ (1 ∷ 2 ∷ 3 ∷ []) ∷ [])
    ∷ lists ladder ((3 ∷ []) ∷ (1 ∷ 2 ∷ 3 ∷ []) ∷ [])
    ∷ []

listings-listed : map (λ l. listing_of l.network) listings ≡ listings
unfolding listings listing_of nodes_of
listings-listed = refl

listings-found : map (λ l. found_in l.network) listings ≡ listings
unfolding listings found_in nodes_of
listings-found = refl

-- ---- what is missing

record Gap : Type 0 where
  network : Network
  weight : ℕ
  bound : ℕ
  sides : List (List ℕ)

abbrev lacks : Network → ℕ → ℕ → List (List ℕ) → Gap
lacks net w b sides = record { network = net; weight = w; bound = b; sides = sides }

-- all lists of so many flags
flag_lists : ℕ → List Side
flag_lists zero = [] ∷ []
flag_lists (suc n) = map (λ s. false ∷ s) (flag_lists n) ++ map (λ s. true ∷ s) (flag_lists n)

-- the side is not empty, weighs no more than the reported one and is not listed
unlisted : Network → Side → Bool
unfolding any_of listed size reported cut_weight same_flags
unlisted net s = ltb 0 (size net s) && (leb (cut_weight net s) (reported fewer_nodes net).weight && not (any_of (same_flags s) (listed fewer_nodes net)))

gap_of : Network → Gap
unfolding keep reported shares counted
gap_of net =
    lacks net (reported fewer_nodes net).weight (3 * shares (counted longest_run net net.trees))
    (map (nodes_of net) (keep (unlisted net) (map (λ s. false ∷ s) (flag_lists (net.nodes - 1)))))

gaps : List Gap
gaps =
    lacks (ring (path ∷ [])) 2 3 []
    -- equal: a side of the same weight is missing, or is not
    ∷ lacks (complete_graph (star ∷ [])) 3 3 ((1 ∷ 2 ∷ 3 ∷ []) ∷ [])
    ∷ lacks (complete_graph (star ∷ along ∷ [])) 3 3 []
    -- the shares of all trees, the second of which overloads links, are 2
    ∷ lacks (complete_graph (star ∷ star ∷ [])) 3 3 ((1 ∷ 2 ∷ 3 ∷ []) ∷ [])
    -- one below, and far below: a lighter side is missing
    ∷ lacks (four_nodes 1 2 2 (star ∷ [])) 4 3 ((1 ∷ 2 ∷ 3 ∷ []) ∷ [])
    ∷ lacks ladder 11 3 ((1 ∷ 3 ∷ []) ∷ [])
    ∷ []

gaps-left : map (λ g. gap_of g.network) gaps ≡ gaps
unfolding gaps gap_of unlisted flag_lists nodes_of
gaps-left = refl
