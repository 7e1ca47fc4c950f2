-- What is left to prove of `print_in_room`: with room, what is handed back is what `put` printed.
use mathlib.Core.Path.{refl, ◌∙◌}
use borrow.Author.Tests.{le-ltb}
use lib.ListN.{length}
use Rattle.print_text.proofs.print_in_room.Goals as goal

pub returns : goal.returns
returns g c text prints =
    let said = prints _ _ c.new-printer.ensures (record { shown = _; shows = refl; left = _; met = c.put.ensures; leaves = refl }) in
    rw (le-ltb (length c.args.out.now) c.args.most c.if-out-most.false) (c.into_text.ensures ∙ said)
