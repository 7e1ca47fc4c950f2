-- What is left to prove of `put_side`: a word more each time, and the bits of all are the nodes of the side.
use Prim.Native.Nat.{ℕ, ◌*◌}
use mathlib.Core.Path.{sym, ap, ◌∙◌}
use mathlib.Core.List.{List}
use native.Mathlib.Omega.{arith}
use lib.Seq.{take_all}
use Rattle.sheet.specs.Bytes.{Bytes, bytes_of}
use Rattle.sheet.specs.Areas.{side_length}
use Rattle.format.proofs.PutLaws.{put}
use Rattle.write_areas.proofs.WordLaws.{bytes_of_words, put-nothing, put_word, side_words, put-side}
use Rattle.write_areas.proofs.put_side.Goals as goal

pub loop-k-init : goal.loop-k-init
loop-k-init c = put-nothing (side_length * c.args.slot) c.args.area.now

pub loop-k-preserved : goal.loop-k-preserved
unfolding bytes_of
loop-k-preserved c =
    let l = c.loop-k in
    let from : ℕ = side_length * c.args.slot in
    c.put_eight.ensures ∙ put_word from l.k c.args.words c.args.area.now l.area l.invariant (omega arith) (omega arith)

pub returns : goal.returns
returns c s h =
    let a = c.args in
    let from : ℕ = side_length * a.slot in
    c.loop-k.invariant
    ∙ ap (λ (ws : List ℕ). put from (bytes_of_words ws) a.area.now) (take_all c.loop-k.k a.words (omega (arith, h.all)))
    ∙ ap (λ (bs : Bytes). put from bs a.area.now) (sym (side_words a.words s h))
    ∙ put-side a.slot s a.area.now
