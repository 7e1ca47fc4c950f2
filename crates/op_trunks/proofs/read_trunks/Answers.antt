-- `op_trunks::read_trunks` meets its contract: what the panel reader says of the sheet decides; the link records of an accepted sheet stand
-- behind its header. Assumes nothing.
use mathlib.Core.Path.{◌≡◌}
use mathlib.Core.List.{[]}
use native.Mathlib.Omega.{arith}
use Rattle.std.proofs.lemmas.Result.{err_from_is_err_and}
use Rattle.cuts.specs.Network.{Network, link_count}
use Rattle.sheet.specs.Bytes.{Bytes}
use Rattle.sheet.specs.Reading.{accepted}
use Rattle.sheet.specs.Sheet.{current, decode}
use Rattle.arrays.specs.Links.{ends_of}
use Rattle.arrays.specs.Records.{network_at}
use Rattle.read_sheet.proofs.NetworkLaws.{was_read, was_refused, sheet-held, network_at-links}
use Rattle.op_trunks.proofs.NumberLaws.{links-there, header_links, numbers_read, numbers_refused}
use Rattle.op_trunks.proofs.read_trunks.Goals as goal
use Rattle.op_trunks.proofs.read_trunks.Goals.{In_ok-l}

-- the network that was read
module _ (c : In_ok-l) where
  abbrev sheet : Bytes
  sheet = c.args.sheet.now

  abbrev net : Network
  net = let links = c.read_sheet.new.links in network_at sheet (ends_of links) links.weights c.in_ok-l.l

  accepts : decode current sheet ≡ accepted net []
  accepts = was_read c.read_sheet.ensures c.in_ok-l.was

  counted : link_count net ≡ c.in_ok-l.l.links
  counted = network_at-links (sheet-held c.read_sheet.ensures c.in_ok-l.was)

pub trunk_numbers-requires : goal.trunk_numbers-requires
trunk_numbers-requires c =
    let t = (goal.at.trunk_numbers-requires c).In_ok-l in
    let l = header_links current (sheet t) (net t) [] (accepts t) in
    record {
      inside = l.whole;
      there = rw (counted t) at (links-there current (sheet t) (net t) [] (accepts t));
      room = omega (arith, l.few, counted t);
    }

pub returns : goal.returns
returns c =
    let t = (goal.at.returns c).In_ok-l in
    numbers_read current (sheet t) _ (net t) (accepts t) _ (rw (counted t) c.trunk_numbers.ensures)

pub returns-in_err-l : goal.returns-in_err-l
returns-in_err-l c =
    let p = err_from_is_err_and c.from_residual.result c.from_residual.ensures.1 in
    rw (p.1, p.2) (numbers_refused current c.args.sheet.now _ _ (was_refused c.read_sheet.ensures c.in_err-l.was))
