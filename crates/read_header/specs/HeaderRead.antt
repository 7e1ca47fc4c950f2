-- What the answer to reading a header says, case by case: the counts and the bytes behind them, or the refusal's number. Assumes nothing.
--   counts_of c       the counts that the struct holds
--   header_says s r   what r says where it answers to reading the header of s
use Rattle.std.specs.Prelude.{drop, Result, Ok, Err}
use Rattle.sheet.specs.Bytes.{Bytes}
use Rattle.sheet.specs.Reading.{Reading, accepted, refused}
use Rattle.sheet.specs.Sheet.{Counts, header_length}
use Rattle.format.specs.Refusals.{refusal_number}
use Rattle.format.specs.declared.refusals.Refusal.{Refusal}
use Rattle.read_header.specs.declared.Counts as counts

abbrev pub counts_of : counts.Counts → Counts
counts_of c = record { nodes = c.nodes; links = c.links; trees = c.trees }

abbrev pub header_says : Bytes → Result counts.Counts Refusal → Reading Counts
header_says s (Ok c) = accepted (counts_of c) (drop header_length s)
header_says s (Err refusal) = refused (refusal_number refusal)
