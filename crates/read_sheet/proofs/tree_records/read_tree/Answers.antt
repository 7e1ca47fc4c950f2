-- `tree_records::read_tree` meets its contract. The four checks are made in their order, each by the callee whose contract says what it
-- decides. Assumes nothing.
use Prim.Native.Nat.{ℕ, ◌+◌, ◌≤◌}
use mathlib.Core.Path.{◌≡◌, sym, ap, ◌∙◌}
use native.Mathlib.Omega.{arith}
use lib.ListN.{length, drop}
use Rattle.cuts.specs.Sums.{table}
use Rattle.cuts.specs.Network.{Network, link_count}
use Rattle.std.proofs.lemmas.Result.{err_from_is_err_and}
use Rattle.format.proofs.RefusalLaws.{refusal_number-some}
use Rattle.arrays.specs.Links.{Held}
use Rattle.arrays.specs.Records.{map_at}
use Rattle.sheet.specs.Bytes.{Bytes, map_bit}
use Rattle.sheet.specs.Reading.{first_failing}
use Rattle.sheet.specs.Sheet.{tree_length, tree_in, map_checks}
use Rattle.read_sheet.proofs.TreeLaws.{map-counted, cut_off-at, refused-at, apart-at, read_at, map_at-slice, map_at-members, map_at-length}
use Rattle.read_sheet.proofs.tree_records.read_tree.Goals as goal
use Rattle.read_sheet.proofs.tree_records.read_tree.Goals.{After-grow_tree, After-tree_map-map}

-- the record is whole
whole : (c : After-tree_map-map) → c.args.at + tree_length c.args.count ≤ length c.args.s.now
whole c = omega (arith, c.requires.inside, c.tree_length-size.ensures, c.if-s-at.false)

sized : (c : After-tree_map-map) → let a = c.args in length c.tree_map-map.result.now ≡ length (map_at a.s.now a.at a.count)
sized c = ap (λ (l : Bytes). length l) c.tree_map-map.ensures

-- the map is that of the record, for every network with as many links
module _ (c : After-tree_map-map) (net : Network) (n : link_count net ≡ c.args.count) where
  slice : let a = c.args in c.tree_map-map.result.now ≡ map_at a.s.now a.at (link_count net)
  slice = let a = c.args in c.tree_map-map.ensures ∙ map_at-slice a.s.now a.at a.count net n

  whole-net : c.args.at + tree_length (link_count net) ≤ length c.args.s.now
  whole-net = rw n (whole c)

  members : let a = c.args in (tree_in net (drop a.at a.s.now)).members ≡ table a.count (map_bit c.tree_map-map.result.now)
  members = let a = c.args in
      map_at-members a.s.now a.at a.count net n (whole c) ∙ ap (λ (map : Bytes). table a.count (map_bit map)) (sym c.tree_map-map.ensures)

-- the same of the network's own counts
same_checks : (map : Bytes) (nodes links : ℕ) (net : Network) → net.nodes ≡ nodes → link_count net ≡ links → (k : ℕ) → k ≡ first_failing (map_checks nodes links map)
    → k ≡ first_failing (map_checks net.nodes (link_count net) map)
same_checks map nodes links net p q k e = rw (p, q) e

-- the map passed
module _ (c : After-grow_tree) (net : Network) (h : Held net c.args.links.now.firsts c.args.links.now.seconds c.args.nodes)
    (n : link_count net ≡ c.args.count) where
  passes : first_failing (map_checks net.nodes (link_count net) c.tree_map-map.result.now) ≡ 0
  passes = let a = c.args in sym (same_checks _ a.nodes a.count net h.sized n 0 c.in_ok-check_map.ensures)

pub returns-then-s-at : goal.returns-then-s-at
returns-then-s-at c =
    let a = c.args in
    record { says = λ net h n. cut_off-at net a.s.now a.at (omega (arith, c.tree_length-size.ensures)); ends_at = omega arith }

pub returns-in_err-check_map : goal.returns-in_err-check_map
returns-in_err-check_map c =
    let a = c.args in
    let t = (goal.at.returns-in_err-check_map c).After-tree_map-map in
    let p = err_from_is_err_and c.from_residual.result c.from_residual.ensures.1 in
    let some = refusal_number-some c.in_err-check_map.field-0.0 in
    rw (p.1, p.2) (record {
      says = λ net h n. refused-at net a.s.now _ a.at (slice t net n) (whole-net t net n) _
          (same_checks _ a.nodes a.count net h.sized n _ c.in_err-check_map.ensures) (λ e. omega arith);
      ends_at = some;
    })

pub grow_tree-requires : goal.grow_tree-requires
grow_tree-requires c =
    let a = c.args in
    let t = (goal.at.grow_tree-requires c).After-tree_map-map in
    record {
      sized = sized t ∙ map_at-length a.s.now a.at a.count (whole t);
      counted = map-counted _ _ _ (sym c.in_ok-check_map.ensures);
      links_known = c.requires.links_known;
    }

pub returns-in-None : goal.returns-in-None
returns-in-None c =
    let a = c.args in
    let t = (goal.at.returns-in-None c).After-tree_map-map in
    let g = (goal.at.returns-in-None c).After-grow_tree in
    record {
      says = λ net h n. apart-at net a.s.now _ a.at (slice t net n) (whole-net t net n) (passes g net h n)
          (sym (c.in-None.ensures net (tree_in net (drop a.at a.s.now)) h n (members t net n)));
      ends_at = omega arith;
    }

pub returns-in-Some : goal.returns-in-Some
returns-in-Some c =
    let a = c.args in
    let size = c.tree_length-size in
    let t = (goal.at.returns-in-Some c).After-tree_map-map in
    let g = (goal.at.returns-in-Some c).After-grow_tree in
    record {
      says = λ net h n. read_at net a.s.now _ a.at (slice t net n) (whole-net t net n) (passes g net h n) (a.at + size.result)
          (omega (arith, size.ensures, n))
          (sym (c.in-Some.ensures net (tree_in net (drop a.at a.s.now)) h n (members t net n)).joined);
      ends_at = record { here = omega (arith, size.ensures); inside = omega (arith, size.ensures, whole t) };
    }
