-- The side area and the report area (document 01, "Side area and report area"), by the format. Assumes nothing.
--   side_length                   the bytes of a side area that are written
--   side_bytes s                  the bytes of the side area: node k is bit k; past its last node a side has no flag set
--   report_widths f               the widths of the report area's fields
--   report_length f               how many bytes the report area has: the sum of these widths
--   first_link h, second_link h   the links that a handle names; no_second, 65535, stands for the second of a single one
--   report_fields a               verdict, tree, nodes in the side, first link, second link, weight, floor
--   report_bytes f a              the bytes of the report area
--   written new old               an area that held `old`, with `new` written to its front: the rest stands as it stood
--   side_after f net old          the side area after the answer of the network is written
--   report_after f net old        the report area after it
--   side_left f old r             a side area that held `old`, where r was read: the answer is written if a network was
--   report_left f old r           the same of a report area
--   side_read nodes area          the side that stands in a side area
--   handle_of e f                 the handle whose links these are
--   answer_of fs s                the answer with the fields fs and the side s
--   answer_read f nodes side r    the answer that stands in a side area and a report area
use Rattle.std.specs.Prelude.{ℕ, ◌+◌, ◌*◌, cond, List, [], ◌∷◌, ◌++◌, length, get_or, drop, eqb}
use Rattle.cuts.specs.Sums.{table}
use Rattle.cuts.specs.Network.{Network, flag}
use Rattle.cuts.specs.Cut.{Side}
use Rattle.cuts.specs.Candidate.{Handle, one, two}
use Rattle.cuts.specs.Answer.{Answer, reported, answer}
use Rattle.sheet.specs.Bytes.{Bytes, fields, field_bytes, map_bit, byte_of}
use Rattle.sheet.specs.Reading.{Reading, accepted, refused}
use Rattle.sheet.specs.Sheet.{Format}

abbrev pub side_length : ℕ
side_length = 32

unfoldable pub side_bytes : Side → Bytes
unfolding table byte_of
side_bytes s = table side_length (λ j. byte_of (λ i. flag s (8 * j + i)))

abbrev pub report_widths : Format → List ℕ
report_widths f = 1 ∷ 1 ∷ 2 ∷ 2 ∷ 2 ∷ f.sum_width ∷ f.sum_width ∷ []

abbrev pub report_length : Format → ℕ
report_length f = 8 + 2 * f.sum_width

abbrev pub no_second : ℕ
no_second = 65535

abbrev pub first_link : Handle → ℕ
first_link (one e) = e
first_link (two e f) = e

abbrev pub second_link : Handle → ℕ
second_link (one e) = no_second
second_link (two e f) = f

abbrev pub report_fields : Answer → List ℕ
report_fields a =
    a.verdict ∷ a.best.tree ∷ a.best.count ∷ first_link a.best.handle ∷ second_link a.best.handle
    ∷ a.best.weight ∷ a.floor ∷ []

unfoldable pub report_bytes : Format → Answer → Bytes
unfolding field_bytes
report_bytes f a = field_bytes (report_widths f) (report_fields a)

abbrev pub written : Bytes → Bytes → Bytes
written new old = new ++ drop (length new) old

abbrev pub side_after : Format → Network → Bytes → Bytes
side_after f net old = written (side_bytes (reported f.rules.key net).side) old

abbrev pub report_after : Format → Network → Bytes → Bytes
report_after f net old = written (report_bytes f (answer f.rules net)) old

abbrev pub side_left : Format → Bytes → Reading Network → Bytes
side_left f old (accepted net rest) = side_after f net old
side_left f old (refused n) = old

abbrev pub report_left : Format → Bytes → Reading Network → Bytes
report_left f old (accepted net rest) = report_after f net old
report_left f old (refused n) = old

-- ---- reading back

unfoldable pub side_read : ℕ → Bytes → Side
unfolding table
side_read nodes area = table nodes (map_bit area)

abbrev pub handle_of : ℕ → ℕ → Handle
handle_of e f = cond (eqb f no_second) (one e) (two e f)

abbrev pub answer_of : List ℕ → Side → Answer
answer_of fs s = record {
  best = record { tree = get_or fs 1 0; handle = handle_of (get_or fs 3 0) (get_or fs 4 0); weight = get_or fs 5 0; count = get_or fs 2 0; side = s };
  floor = get_or fs 6 0;
  verdict = get_or fs 0 0;
}

unfoldable pub answer_read : Format → ℕ → Bytes → Bytes → Answer
unfolding side_read fields
answer_read f nodes side report = answer_of (fields (report_widths f) report) (side_read nodes side)
