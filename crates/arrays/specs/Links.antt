-- A network's links as arrays hold them: first ends, second ends and weights, at the links' numbers. Assumes nothing.
--   EndArrays es                    es has two arrays of as many numbers as there may be links, for their first and their second ends
--   LinkArrays es ws                so it has, and ws has as many numbers for the weights
--   first_ends es, second_ends es   the two arrays of ends
--   ends_of ls                      those of the links ls
--   Ending fs ss n k                link k has its ends in the arrays, and they are nodes, of which there are n
--   EndsKnown es n m                so it is of the first m links
--   links_of m fs ss ws             the m links whose first ends, second ends and weights stand in the arrays
--   Held net fs ss n                the arrays hold the network: its links' first ends in fs, their second ends in ss, all of them nodes, of
--                                   which there are n, the root among them
--   Weighed net ws m                the network has m links, and ws has their weights
--   Laid net fs ss ws n m           the arrays hold the network with its weights
--   Loopless net                    no link joins a node to itself
use Rattle.std.specs.Prelude.{ℕ, ◌<◌, ◌≡◌, List, [], ◌∷◌, length, get_or}
use Rattle.cuts.specs.Sums.{table}
use Rattle.cuts.specs.Network.{Link, Network, Linked, link_at, link_count}
use Rattle.cuts.specs.Limits.{most_links}
use Rattle.arrays.specs.Lists.{entry, part}
use Rattle.arrays.specs.declared.Links.{Links}

pub record EndArrays (ends : List (List ℕ)) : Type 0 where
  pub both : length ends ≡ 2
  pub firsts : length (part ends 0) ≡ most_links
  pub seconds : length (part ends 1) ≡ most_links

pub record LinkArrays (ends : List (List ℕ)) (weights : List ℕ) : Type 0 where
  pub ends_room : EndArrays ends
  pub weights_room : length weights ≡ most_links

abbrev pub first_ends : List (List ℕ) → List ℕ
first_ends ends = part ends 0

abbrev pub second_ends : List (List ℕ) → List ℕ
second_ends ends = part ends 1

abbrev pub ends_of : Links → List (List ℕ)
ends_of links = links.firsts ∷ links.seconds ∷ []

pub record Ending (fs ss : List ℕ) (nodes k : ℕ) : Type 0 where
  pub in_firsts : k < length fs
  pub in_seconds : k < length ss
  pub first_in : entry fs k < nodes
  pub second_in : entry ss k < nodes

abbrev pub EndsKnown : List (List ℕ) → ℕ → ℕ → Type 0
EndsKnown ends nodes count = (k : ℕ) → k < count → Ending (first_ends ends) (second_ends ends) nodes k

unfoldable pub links_of : ℕ → List ℕ → List ℕ → List ℕ → List Link
unfolding table
links_of m fs ss ws = table m (λ k. record { first = get_or fs k 0; second = get_or ss k 0; weight = get_or ws k 0 })

pub record Held (net : Network) (fs ss : List ℕ) (nodes : ℕ) : Type 0 where
  pub linked : Linked net
  pub sized : net.nodes ≡ nodes
  pub firsts : (k : ℕ) → k < link_count net → (link_at net k).first ≡ entry fs k
  pub seconds : (k : ℕ) → k < link_count net → (link_at net k).second ≡ entry ss k

pub record Weighed (net : Network) (ws : List ℕ) (links : ℕ) : Type 0 where
  pub counted : link_count net ≡ links
  pub weights : (k : ℕ) → k < link_count net → (link_at net k).weight ≡ entry ws k

pub record Laid (net : Network) (fs ss ws : List ℕ) (nodes links : ℕ) : Type 0 where
  pub held : Held net fs ss nodes
  pub weighed : Weighed net ws links

abbrev pub Loopless : Network → Type 0
Loopless net = (k : ℕ) → k < link_count net → (link_at net k).first ≡ (link_at net k).second → ⊥
