-- What the pair sheet asks of its area and leaves in it. Assumes nothing.
--   NodesCounted n                a sheet can have n nodes
--   TreeWritable xs n i           i is the number of one of the trees of the sheet n, and the numbers xs have room for its pairs
--   AreaLeft i r xs ys n          where r was read: n is its number, and the area, which held xs, holds ys: to its front the weights of all pairs
--                                 of tree i if a network was read, else what it held
use Rattle.std.specs.Prelude.{ℕ, ◌-◌, ◌≤◌, ◌<◌, ◌≡◌, List, length}
use Rattle.cuts.specs.Network.{Network}
use Rattle.cuts.specs.Limits.{most_nodes}
use Rattle.sheet.specs.Reading.{Reading, number_of}
use Rattle.pairs.specs.Slots.{row_start}
use Rattle.pairs.specs.PairsWritten.{weights_left}
use Rattle.arrays.specs.declared.sheets.Sheet.{Sheet}

pub record NodesCounted (nodes : ℕ) : Type 0 where
  pub several : 2 ≤ nodes
  pub few : nodes ≤ most_nodes

pub record TreeWritable (area : List ℕ) (n : Sheet) (tree : ℕ) : Type 0 where
  pub listed : tree < n.layout.trees
  pub room : row_start (n.layout.nodes - 1) ≤ length area

pub record AreaLeft (tree : ℕ) (r : Reading Network) (before after : List ℕ) (n : ℕ) : Type 0 where
  pub number : n ≡ number_of r
  pub weights_is : after ≡ weights_left tree before r
