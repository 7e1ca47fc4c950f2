-- The steps of the operation, of a network that was read: the tree is refused, or the area, or the weights are written. And of a sheet: it is
-- refused, or the network decides.
-- Assumes nothing.
use Prim.Native.Nat.{ℕ, ◌-◌, ◌≤◌, ◌<◌}
use mathlib.Core.Path.{◌≡◌, refl, sym, ap, ◌∙◌}
use mathlib.Core.List.{List, []}
use native.Mathlib.Omega.{arith}
use lib.ListN.{length}
use Rattle.cuts.specs.Network.{Network, tree_at}
use Rattle.sheet.specs.Bytes.{Bytes}
use Rattle.sheet.specs.Reading.{Reading, accepted, refused, number_of}
use Rattle.sheet.specs.Sheet.{current, decode}
use Rattle.pairs.specs.Slots.{row_start}
use Rattle.pairs.specs.Pairs.{pair_count}
use Rattle.pairs.specs.PairsWritten.{pairs_fitting, weights_left, PairsWritten}
use Rattle.pairs.proofs.PairLaws.{pair_count-is}
use Rattle.pairs.proofs.WrittenLaws.{fitting-outside, fitting-short, fitting-room, pair_reading-refused, pair_reading-accepted, pairs-written}
use Rattle.arrays.specs.Sheets.{network_of}
use Rattle.arrays.specs.declared.sheets.Sheet.{Sheet}
use Rattle.read_sheet.proofs.NetworkLaws.{network_at-trees, network_at_spanning}
use Rattle.pair_rows.specs.Writing.{PairsLeft}
use Rattle.op_pairs.specs.Areas.{AreaLeft}

left : {tree : ℕ} {r q : Reading Network} {old new : List ℕ} {n : ℕ} → r ≡ q → n ≡ number_of q → new ≡ weights_left tree old q → AreaLeft tree r old new n
left {tree} {old = old} e p z = record { number = p ∙ sym (ap number_of e); weights_is = z ∙ sym (ap (weights_left tree old) e) }

module _ (n : Sheet) (tree : ℕ) (area : List ℕ) where
  abbrev net : Network
  net = network_of n

  pub outside : n.layout.trees ≤ tree → AreaLeft tree (pairs_fitting tree area net []) area area 23
  outside b = left (fitting-outside tree area net [] (omega (arith, network_at-trees n.held))) refl refl

  module _ (inside : tree < n.layout.trees) where
    is_tree : tree < length net.trees
    is_tree = omega (arith, network_at-trees n.held)

    count_is : pair_count net (tree_at net tree) ≡ row_start (n.layout.nodes - 1)
    count_is = pair_count-is (network_at_spanning n.held tree inside)

    pub short : length area < row_start (n.layout.nodes - 1) → AreaLeft tree (pairs_fitting tree area net []) area area 24
    short b = left (fitting-short tree area net [] is_tree (let e = count_is in omega arith)) refl refl

    pub enough : row_start (n.layout.nodes - 1) ≤ length area → {new : List ℕ} → PairsLeft net (tree_at net tree) area new → AreaLeft tree (pairs_fitting tree area net []) area new 0
    enough b w = left (fitting-room tree area net [] is_tree (let e = count_is in omega arith)) refl w

module _ (sheet : Bytes) (tree : ℕ) (area : List ℕ) where
  pub sheet-refused : {n : ℕ} → decode current sheet ≡ refused n → PairsWritten current sheet tree area area n
  sheet-refused {n} e =
      let r = pair_reading-refused current sheet tree area n e in
      pairs-written current sheet tree area (sym (ap number_of r)) (sym (ap (weights_left tree area) r))

  pub sheet-read : {net : Network} → decode current sheet ≡ accepted net [] → {new : List ℕ} {n : ℕ} → AreaLeft tree (pairs_fitting tree area net []) area new n
      → PairsWritten current sheet tree area new n
  sheet-read {net} e w =
      let r = pair_reading-accepted current sheet tree area net [] e in
      pairs-written current sheet tree area (w.number ∙ sym (ap number_of r)) (w.weights_is ∙ sym (ap (weights_left tree area) r))
