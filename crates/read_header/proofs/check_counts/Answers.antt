-- `check_counts` meets its contract: each answer is the first check that fails, by the tests that were passed before it.
-- Assumes nothing.
use mathlib.Core.Path.{sym}
use mathlib.Core.Logic.{inl, inr}
use native.Mathlib.Omega.{arith}
use borrow.Author.Rules.{rules}
use borrow.Author.Tests.{ltb-true, ltb-false}
use Rattle.read_header.proofs.HeaderLaws.{nodes-refused, links-refused, trees-refused, counts_pass}
use Rattle.read_header.proofs.check_counts.Goals as goal
use Rattle.read_header.proofs.check_counts.Goals.{then-c-eq0-via-else-c-eq0+then-c-gt-MOST_TREES, then-c-eq0-via-then-c-eq0, then-c-lt-LEAST_NODES-via-else-c-lt-LEAST_NODES+then-c-gt-MOST_NODES, then-c-lt-LEAST_NODES-via-then-c-lt-LEAST_NODES, then-c-via-else-c+then-c-gt-MOST_LINKS, then-c-via-then-c}

pub returns-then-c-lt-LEAST_NODES : goal.returns-then-c-lt-LEAST_NODES
returns-then-c-lt-LEAST_NODES c =
    sym (nodes-refused _ (elim c.then-c-lt-LEAST_NODES.branch [
      | then-c-lt-LEAST_NODES-via-then-c-lt-LEAST_NODES w ↦ inl (omega arith)
      | then-c-lt-LEAST_NODES-via-else-c-lt-LEAST_NODES+then-c-gt-MOST_NODES w ↦ inr (omega (arith, ltb-true))
    ]))

pub returns-then-c : goal.returns-then-c
returns-then-c c =
    sym (links-refused _ (omega arith) (omega (arith, ltb-false)) (elim c.then-c.branch [
      | then-c-via-then-c w ↦ inl (omega arith)
      | then-c-via-else-c+then-c-gt-MOST_LINKS w ↦ inr (omega (arith, ltb-true))
    ]))

pub returns-then-c-eq0 : goal.returns-then-c-eq0
returns-then-c-eq0 c =
    sym (trees-refused _ (omega arith) (omega (arith, ltb-false)) (omega arith) (omega (arith, ltb-false)) (elim c.then-c-eq0.branch [
      | then-c-eq0-via-then-c-eq0 w ↦ inl (omega arith)
      | then-c-eq0-via-else-c-eq0+then-c-gt-MOST_TREES w ↦ inr (omega (arith, ltb-true))
    ]))

pub returns : goal.returns
returns c = sym (counts_pass _ (search rules))
