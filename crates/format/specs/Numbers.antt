-- Numbers in bytes. Assumes nothing.
--   two_bytes, eight_bytes   numbers of two bytes, and of eight, are below it
--   Is m x r                 r is the number x, and below m
use Rattle.std.specs.Prelude.{ℕ, ◌^◌, ◌<◌, ◌≡◌}

abbrev pub two_bytes : ℕ
two_bytes = 2 ^ 16

abbrev pub eight_bytes : ℕ
eight_bytes = 2 ^ 64

pub record Is (m x r : ℕ) : Type 0 where
  pub same : r ≡ x
  pub small : r < m
