-- What is left to prove of `put_word`: the part that is copied over is behind what was printed and in front of the rest.
use Rattle.std.proofs.Common.{rules}
use Rattle.std.proofs.lemmas.Slice.{overwrites}
use Rattle.print_text.proofs.printer.Printer.put_word.Goals as goal

pub returns : goal.returns
returns c = record { text_is = search (rules, overwrites); room_is = search (rules, overwrites); rest_is = search (rules, overwrites); same_buffer = search rules }
