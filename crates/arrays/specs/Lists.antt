-- Arrays as lists of numbers. Assumes nothing.
--   entry l i           number i of a list, 0 past its end
--   part ls k           list k of a list of lists, none past its end
--   Within xs count m   the first `count` numbers of xs are below m
--   marked r x          node x is marked in the list r
use Rattle.std.specs.Prelude.{ℕ, ◌<◌, Bool, List, [], get_or, eqb}

abbrev pub entry : List ℕ → ℕ → ℕ
entry l i = get_or l i 0

abbrev pub part : List (List ℕ) → ℕ → List ℕ
part ls k = get_or ls k []

abbrev pub Within : List ℕ → ℕ → ℕ → Type 0
Within xs count m = (i : ℕ) → i < count → entry xs i < m

abbrev pub marked : List ℕ → ℕ → Bool
marked r x = eqb (entry r x) 1
