-- The links that arrays hold: how many there are, and each of them.
-- Assumes nothing.
use Prim.Native.Nat.{ℕ, ◌<◌}
use mathlib.Core.Path.{◌≡◌}
use mathlib.Core.List.{List}
use lib.ListN.{length, get_or}
use Rattle.cuts.specs.Network.{no_link}
use Rattle.cuts.proofs.SumLaws.{table-length, table_at}
use Rattle.arrays.specs.Links.{links_of}

pub links_of-length : (m : ℕ) (fs ss ws : List ℕ) → length (links_of m fs ss ws) ≡ m
unfolding links_of
links_of-length m fs ss ws = table-length m _

pub links_of-at : (m : ℕ) (fs ss ws : List ℕ) (k : ℕ) → k < m → get_or (links_of m fs ss ws) k no_link ≡ record { first = get_or fs k 0; second = get_or ss k 0; weight = get_or ws k 0 }
unfolding links_of
links_of-at m fs ss ws k b = table_at no_link m _ k b
