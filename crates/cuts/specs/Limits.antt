-- Limits of a sheet, and networks with no more links and trees than a sheet can have, and weights and shares of four bytes.
-- Assumes nothing.
--   most_nodes, most_links, most_trees   no sheet has more
--   four_bytes                           numbers of four bytes are below it
--   Light net                            at most so many links, each with a weight of four bytes
--   LightShares ts                       at most so many trees, each with a share of four bytes
use Rattle.std.specs.Prelude.{ℕ, ◌^◌, ◌≤◌, ◌<◌, List, length, get_or}
use Rattle.cuts.specs.Network.{Tree, Network, no_tree, link_at, link_count}

abbrev pub most_nodes : ℕ
most_nodes = 256

abbrev pub most_links : ℕ
most_links = 2_048

abbrev pub most_trees : ℕ
most_trees = 32

abbrev pub four_bytes : ℕ
four_bytes = 2 ^ 32

pub record Light (net : Network) : Type 0 where
  pub few : link_count net ≤ most_links
  pub small : (k : ℕ) → k < link_count net → (link_at net k).weight < four_bytes

pub record LightShares (ts : List Tree) : Type 0 where
  pub few : length ts ≤ most_trees
  pub small : (i : ℕ) → i < length ts → (get_or ts i no_tree).share < four_bytes
