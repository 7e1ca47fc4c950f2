-- `read_links::check_ends` meets its contract: each answer is the first check that fails, by the tests that were passed before it.
-- Assumes nothing.
use mathlib.Core.Path.{sym}
use mathlib.Core.Logic.{inl, inr}
use native.Mathlib.Omega.{arith}
use borrow.Author.Rules.{rules}
use borrow.Author.Tests.{eqb-false}
use Rattle.read_links.proofs.RecordLaws.{ends-refused, link_pass}
use Rattle.read_links.proofs.check_ends.Goals as goal
use Rattle.read_links.proofs.check_ends.Goals.{then-nodes-l-via-then-nodes-l, then-nodes-l-via-else-nodes-l+then-nodes-l-2, then-nodes-l-via-else-nodes-l+else-nodes-l-2+then-l}

pub returns-then-nodes-l : goal.returns-then-nodes-l
returns-then-nodes-l c =
    sym (ends-refused _ _ _ (elim c.then-nodes-l.branch [
      | then-nodes-l-via-then-nodes-l w ↦ inl (omega arith)
      | then-nodes-l-via-else-nodes-l+then-nodes-l-2 w ↦ inr (inl (omega arith))
      | then-nodes-l-via-else-nodes-l+else-nodes-l-2+then-l w ↦ inr (inr (omega arith))
    ]))

pub returns : goal.returns
returns c = sym (link_pass _ _ _ (search (rules, eqb-false)))
