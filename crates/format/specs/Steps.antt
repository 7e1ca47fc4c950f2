-- What a step over a record says, case by case: the value read and the bytes behind it, or the refusal's number. Assumes nothing.
--   step_number r     the refusal number that r says, 0 where there is none
--   step_says x s r   what r says where it answers to reading x from the bytes s
--   EndIs e s p       the position p is e and lies in s
--   EndsAt e s r      an end that r says is e and lies in s; a refusal's number is not 0
--   Inside s r        an end that r says lies in s
use Rattle.std.specs.Prelude.{ℕ, ◌≤◌, ◌<◌, ◌≡◌, length, drop, Result, Ok, Err}
use Rattle.sheet.specs.Bytes.{Bytes}
use Rattle.sheet.specs.Reading.{Reading, accepted, refused}
use Rattle.format.specs.Refusals.{refusal_number}
use Rattle.format.specs.declared.refusals.Refusal.{Refusal}

abbrev pub step_number : Result ℕ Refusal → ℕ
step_number (Ok end) = 0
step_number (Err refusal) = refusal_number refusal

abbrev pub step_says : {A : Type 0} → A → Bytes → Result ℕ Refusal → Reading A
step_says x s (Ok end) = accepted x (drop end s)
step_says x s (Err refusal) = refused (refusal_number refusal)

pub record EndIs (e : ℕ) (s : Bytes) (p : ℕ) : Type 0 where
  pub here : p ≡ e
  pub inside : p ≤ length s

abbrev pub EndsAt : ℕ → Bytes → Result ℕ Refusal → Type 0
EndsAt e s (Ok end) = EndIs e s end
EndsAt e s (Err refusal) = 0 < refusal_number refusal

abbrev pub Inside : Bytes → Result ℕ Refusal → Type 0
Inside s (Ok end) = end ≤ length s
Inside s (Err refusal) = Unit {0}
