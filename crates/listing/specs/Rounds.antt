-- The list of Listing as code finds it: with no store of the sides found before (document 02, F-5). Assumes nothing.
--   unshown net i s   the side s crosses more than two members of each of the first i trees
--   is_new net c      so does the side of c of each tree before its own
--   picked net w c    the candidate c weighs w and is new
--   new_ones k net    the new candidates of the reported weight, by the key k, as they stand among all candidates
use Rattle.std.specs.Prelude.{ℕ, Bool, ◌&&◌, not, List, leb}
use Rattle.cuts.specs.Sums.{any_to}
use Rattle.cuts.specs.Network.{Network, tree_at}
use Rattle.cuts.specs.Cut.{Side, crossings}
use Rattle.cuts.specs.Candidate.{Candidate, Key, candidates}
use Rattle.cuts.specs.Answer.{reported}
use Rattle.listing.specs.Picks.{keep}
use Rattle.listing.specs.Listing.{weighing}

abbrev pub unshown : Network → ℕ → Side → Bool
unshown net i s = not (any_to i (λ j. leb (crossings net (tree_at net j) s) 2))

abbrev pub is_new : Network → Candidate → Bool
is_new net c = unshown net c.tree c.side

abbrev pub picked : Network → ℕ → Candidate → Bool
picked net w c = weighing w c && is_new net c

unfoldable pub new_ones : Key → Network → List Candidate
unfolding keep candidates reported any_to crossings
new_ones key net = keep (picked net (reported key net).weight) (candidates net)
