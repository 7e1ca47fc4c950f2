-- What is left to prove of `maps::list_members`.
use Prim.Native.Nat.{ℕ, ◌+◌, ◌<◌}
use mathlib.Core.Path.{◌≡◌, refl, sym, ap, ◌∙◌}
use mathlib.Core.Bool.{true, false}
use mathlib.Core.List.{List}
use native.Mathlib.Omega.{arith}
use native.Mathlib.Numerals.{add-one}
use lib.ListN.{set, length-set}
use Rattle.cuts.specs.Sums.{sum_to, select}
use Rattle.cuts.proofs.SumLaws.{count-rises}
use Rattle.sheet.specs.Bytes.{Bytes, map_bit}
use Rattle.format.proofs.MapLaws.{list_set, list_unset}
use Rattle.format.proofs.maps.list_members.Invariants.{Listing}
use Rattle.format.proofs.maps.list_members.Goals as goal
use Rattle.format.proofs.maps.list_members.Goals.{else-bit_set, then-bit_set}

-- one bit more
module _ {map : Bytes} {links room : ℕ} {members : List ℕ} {found k : ℕ} (l : Listing map links room members found k) (more : k < links) where
  set_more : map_bit map k ≡ true → Listing map links room (set members found k) (found + 1) (k + 1)
  unfolding sum_to
  set_more h = let m = count-rises links k (map_bit map) more h in record {
    counted = rw (add-one k, h) (ap (λ (n : ℕ). n + 1) l.counted);
    listed = list_set map k found members l.listed h (omega arith);
    sized = length-set members found k ∙ l.sized;
    free = omega arith;
    few = omega arith;
    within = omega arith;
    held = l.held;
    most = l.most;
    fits = l.fits;
  }

  unset-more : map_bit map k ≡ false → Listing map links room (set members found k) found (k + 1)
  unfolding sum_to
  unset-more h = record {
    counted = rw (add-one k, h) (omega arith);
    listed = list_unset map k found members l.listed h;
    sized = length-set members found k ∙ l.sized;
    free = l.free;
    few = omega arith;
    within = omega arith;
    held = l.held;
    most = l.most;
    fits = l.fits;
  }

pub loop-k-init : goal.loop-k-init
unfolding sum_to select
loop-k-init c = record {
  counted = refl;
  listed = refl;
  sized = refl;
  free = omega (arith, c.requires.room);
  few = omega arith;
  within = omega arith;
  held = omega arith;
  most = omega arith;
  fits = c.requires.room;
}

pub loop-k-preserved : goal.loop-k-preserved
loop-k-preserved c =
    let l = c.loop-k in
    let more = c.loop-k-test.true in
    elim c.if-bit_set.branch [
      | then-bit_set w ↦ rw w.found-is (set_more l.invariant more (sym c.bit_set.ensures ∙ w.if-bit_set.true))
      | else-bit_set w ↦ rw w.found-is (unset-more l.invariant more (sym c.bit_set.ensures ∙ w.if-bit_set.false))
    ]
