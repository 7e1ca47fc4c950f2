-- What is left in the table and returned: by the maps, whatever trees the network has, and by which refusal comes first.
-- Assumes nothing.
use Prim.Native.Nat.{ℕ, ◌≤◌, ◌<◌}
use mathlib.Core.Path.{◌≡◌, refl, sym, ap, ◌∙◌, subst}
use mathlib.Core.Bool.{Bool, true, false, cond}
use mathlib.Core.List.{List, [], ◌∷◌}
use native.Mathlib.Omega.{arith}
use lib.ListN.{length, replicate}
use lib.Dec.{eqb}
use Rattle.cuts.specs.Network.{Link, Tree, Network}
use Rattle.cuts.specs.Cut.{Side}
use Rattle.sheet.specs.Bytes.{Bytes}
use Rattle.sheet.specs.Reading.{check, first_failing, Reading, accepted, refused, number_of}
use Rattle.sheet.specs.Sheet.{current, network, decode}
use Rattle.sheet.specs.Areas.{side_length, side_read}
use Rattle.arrays.specs.declared.Layout.{Layout}
use Rattle.arrays.specs.declared.Links.{Links}
use Rattle.arrays.specs.Links.{ends_of}
use Rattle.arrays.specs.Records.{SheetHeld}
use Rattle.corners.specs.Corners.{corner_table, corner_weight, Four}
use Rattle.corners.specs.CornersTold.{no_side, sides_there, corner_reading, no_table, table_left, table_read, CornersTold}
use Rattle.corners.proofs.CornerLaws.{corner_table-four}
use Rattle.corners.proofs.ToldLaws.{sides_there-first, sides_there-second, sides_there-both, short-first, short-second, corner_reading-refused, corner_reading-accepted, corners-told}
use Rattle.op_corners.specs.Tables.{MapsLong, bare_network, Fillable, TableLeft}

abbrev zeros : List ℕ
zeros = replicate 16 0

zeros-read : table_read zeros ≡ no_table
unfolding table_read
zeros-read = refl

-- the corners do not depend on the trees
trees_any : (nodes : ℕ) (links : List Link) (ts us : List Tree) (r s : Side) → corner_table (network nodes links ts) r s ≡ corner_table (network nodes links us) r s
unfolding corner_table corner_weight
trees_any nodes links ts us r s = refl

-- ---- of a network that was read

module _ (first second : Bytes) where
  left : {r q : Reading Network} {t : List (List ℕ)} {n : ℕ} → r ≡ q → n ≡ number_of q → t ≡ table_left first second q → TableLeft first second r t n
  left e p z = record { number = p ∙ sym (ap number_of e); table_is = z ∙ sym (ap (table_left first second) e) }

  module _ (net : Network) where
    pub first-refused : no_side net.nodes first ≡ true → TableLeft first second (sides_there first second net []) (table_read zeros) 21
    first-refused h = left (sides_there-first first second net [] h) refl zeros-read

    pub second-refused : no_side net.nodes first ≡ false → no_side net.nodes second ≡ true → TableLeft first second (sides_there first second net []) (table_read zeros) 21
    second-refused h k = left (sides_there-second first second net [] h k) refl zeros-read

    module _ {t : List (List ℕ)} (filled : t ≡ corner_table net (side_read net.nodes first) (side_read net.nodes second)) where
      pub filled-four : Four t
      filled-four = subst Four (sym filled) (corner_table-four net (side_read net.nodes first) (side_read net.nodes second))

      pub both-given : no_side net.nodes first ≡ false → no_side net.nodes second ≡ false → (cells : List ℕ) → table_read cells ≡ t
          → TableLeft first second (sides_there first second net []) (table_read cells) 0
      both-given h k cells e = left (sides_there-both first second net [] h k) refl (e ∙ filled)

  -- and so it is with other trees
  any_trees : (nodes : ℕ) (links : List Link) (ts us : List Tree) {t : List (List ℕ)} {n : ℕ} → TableLeft first second (sides_there first second (network nodes links ts) []) t n
      → TableLeft first second (sides_there first second (network nodes links us) []) t n
  unfolding sides_there
  any_trees nodes links ts us w =
      let m : ℕ = first_failing (check 21 (no_side nodes first) ∷ check 21 (no_side nodes second) ∷ []) in
      record { number = w.number ∙ number_same m (eqb m 0); table_is = w.table_is ∙ table_same m (eqb m 0) }
    where
      number_same : (m : ℕ) (b : Bool) → number_of (cond b (accepted (network nodes links ts) []) (refused m)) ≡ number_of (cond b (accepted (network nodes links us) []) (refused m))
      number_same m true = refl
      number_same m false = refl

      table_same : (m : ℕ) (b : Bool) → table_left first second (cond b (accepted (network nodes links ts) []) (refused m)) ≡ table_left first second (cond b (accepted (network nodes links us) []) (refused m))
      table_same m true = trees_any nodes links ts us (side_read nodes first) (side_read nodes second)
      table_same m false = refl

-- ---- of a sheet

module _ (sheet first second : Bytes) where
  short-told : corner_reading current sheet first second ≡ refused 1 → CornersTold current sheet first second (table_read zeros) 1
  short-told e = corners-told current sheet first second (sym (ap number_of e)) (zeros-read ∙ sym (ap (table_left first second) e))

  pub first_short : length first < side_length → CornersTold current sheet first second (table_read zeros) 1
  first_short l = short-told (short-first current sheet first second l)

  pub second_short : side_length ≤ length first → length second < side_length → CornersTold current sheet first second (table_read zeros) 1
  second_short l m = short-told (short-second current sheet first second l m)

  module _ (long : MapsLong first second) where
    pub sheet-refused : (n : ℕ) → decode current sheet ≡ refused n → CornersTold current sheet first second (table_read zeros) n
    sheet-refused n e =
        let r = corner_reading-refused current sheet first second long.first_long long.second_long n e in
        corners-told current sheet first second (sym (ap number_of r)) (zeros-read ∙ sym (ap (table_left first second) r))

    module _ (net : Network) (read : decode current sheet ≡ accepted net []) where
      pub sides_decide : {t : List (List ℕ)} {m : ℕ} → TableLeft first second (sides_there first second (network net.nodes net.links []) []) t m
          → CornersTold current sheet first second t m
      sides_decide w =
          let e = corner_reading-accepted current sheet first second long.first_long long.second_long net [] read in
          let v = any_trees first second net.nodes net.links [] net.trees w in
          corners-told current sheet first second (v.number ∙ sym (ap number_of e)) (v.table_is ∙ sym (ap (table_left first second) e))

-- a sheet's network has nodes and links as a table asks
pub fillable : (first second : Bytes) → MapsLong first second → (sheet : Bytes) (l : Layout) (links : Links) → SheetHeld current sheet (ends_of links) links.weights l
    → Fillable first second (bare_network l links)
fillable first second long sheet l links h =
    let a = h.accepted in
    let k = a.sound.linked in
    record {
      long = long;
      few_nodes = a.nodes_most;
      linked = record { rooted = k.rooted; first_in = k.first_in; second_in = k.second_in };
      light = record { few = a.links_most; small = λ i b. let w = a.weights_most i b in omega arith };
    }
