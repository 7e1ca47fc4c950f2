-- What is left to prove of `tree_records::read_trees`: the record that a turn reads is the next, and what is refused ends the reading.
use Prim.Native.Nat.{ℕ, ◌+◌, ◌*◌}
use mathlib.Core.Path.{◌≡◌, sym, ap, ◌∙◌}
use native.Mathlib.Nat.{zero-mul, suc-mul}
use native.Mathlib.Numerals.{add-one}
use native.Mathlib.Omega.{arith}
use Rattle.std.proofs.lemmas.Result.{err_from_is_err_and}
use Rattle.sheet.specs.Sheet.{tree_length}
use Rattle.sheet.proofs.ReadingLaws.{run-stop}
use Rattle.read_sheet.proofs.TreeLaws.{trees-start, trees-more, trees_done}
use Rattle.read_sheet.proofs.tree_records.read_trees.Goals as goal

pub loop-tree-init : goal.loop-tree-init
loop-tree-init c =
    let a = c.args in
    record { inside = c.requires.inside; here = rw zero-mul (omega arith); run = λ net h n. trees-start net a.s.now a.from a.trees }

pub returns-in_err-at : goal.returns-in_err-at
returns-in_err-at c =
    let p = err_from_is_err_and c.from_residual.result c.from_residual.ensures.1 in
    let read = c.in_err-at.ensures in
    rw (p.1, p.2) (record {
      says = λ net h n. run-stop (c.loop-tree.invariant.run net h n) c.loop-tree-test.true (sym (read.says net h n));
      ends_at = read.ends_at;
    })

pub loop-tree-preserved : goal.loop-tree-preserved
loop-tree-preserved c =
    let a = c.args in
    let l = c.loop-tree in
    let read = c.in_ok-at.ensures in
    let e = read.ends_at in
    let at = l.invariant.here in
    record {
      inside = e.inside;
      here = rw (add-one, suc-mul) (omega (arith, e.here, at));
      run = λ net h n. trees-more net a.s.now a.from a.trees l.at l._tree (l.invariant.run net h n) c.loop-tree-test.true
          (at ∙ ap (λ (m : ℕ). a.from + l._tree * tree_length m) (sym n)) c.in_ok-at.at (read.says net h n);
    }

pub returns : goal.returns
returns c =
    let a = c.args in
    let l = c.loop-tree in
    let done : l._tree ≡ a.trees = omega arith in
    record {
      says = λ net h n. trees_done net a.s.now a.from a.trees l.at l._tree (l.invariant.run net h n) done;
      ends_at = record { here = l.invariant.here ∙ ap (λ (k : ℕ). a.from + k * tree_length a.count) done; inside = l.invariant.inside };
    }
