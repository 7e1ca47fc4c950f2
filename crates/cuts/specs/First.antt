-- The first of a list before which none comes, where `before x y` says that x comes before y. Of entries that are even, neither
-- before the other, it is the one that stands first. Assumes nothing.
--   then_by before next x y   x comes before y; where neither comes before the other, `next` decides
--   first_from before c ds    the first of c ∷ ds before which none comes
--   first_of before none cs   the first of cs before which none comes; `none` where cs is empty
use Rattle.std.specs.Prelude.{Bool, ◌&&◌, ◌||◌, not, cond, List, [], ◌∷◌}

unfoldable pub then_by : {A : Type 0} → (A → A → Bool) → (A → A → Bool) → A → A → Bool
then_by before next x y = before x y || (not (before y x) && next x y)

unfoldable pub first_from : {A : Type 0} → (A → A → Bool) → A → List A → A
first_from before c [] = c
first_from before c (d ∷ ds) = first_from before (cond (before d c) d c) ds

unfoldable pub first_of : {A : Type 0} → (A → A → Bool) → A → List A → A
unfolding first_from
first_of before none [] = none
first_of before none (c ∷ cs) = first_from before c cs
