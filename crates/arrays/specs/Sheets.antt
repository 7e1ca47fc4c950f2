-- The network of a sheet that was read, and its links by node. Assumes nothing.
--   network_of n      the network that the sheet's bytes and links hold
--   SheetListed n x   the index x has the links of the sheet n by node and the weight of each node's links
use Rattle.cuts.specs.Network.{Network}
use Rattle.arrays.specs.ByNode.{Indexed, Degrees}
use Rattle.arrays.specs.Links.{ends_of}
use Rattle.arrays.specs.Records.{network_at}
use Rattle.arrays.specs.declared.Index.{Index}
use Rattle.arrays.specs.declared.sheets.Sheet.{Sheet}

abbrev pub network_of : Sheet → Network
network_of n = network_at n.bytes.now (ends_of n.links.now) n.links.now.weights n.layout

pub record SheetListed (n : Sheet) (index : Index) : Type 0 where
  pub indexed : Indexed (network_of n) n.links.now index n.layout.nodes n.layout.links
  pub degrees_are : Degrees (network_of n) index.degrees
