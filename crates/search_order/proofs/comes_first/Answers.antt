-- `search_order::comes_first` meets its contract: the first number in which the two differ decides.
-- Assumes nothing.
use mathlib.Core.Path.{◌∙◌, ap₂}
use native.Mathlib.Omega.{arith}
use lib.Dec.{ltb}
use Rattle.search_order.proofs.FoundLaws.{by_weight, by_count, by-tree, by_first, by-rest}
use Rattle.search_order.proofs.comes_first.Goals as goal

pub returns-then-a-b : goal.returns-then-a-b
returns-then-a-b c = let s = c.args in by_weight s.a s.b (λ e. omega arith)

pub returns-then-a-b-2 : goal.returns-then-a-b-2
returns-then-a-b-2 c = let s = c.args in by_count s.a s.b (omega arith) (λ e. omega arith)

pub returns-then-a-b-3 : goal.returns-then-a-b-3
returns-then-a-b-3 c = let s = c.args in by-tree s.a s.b (omega arith) (omega arith) (λ e. omega arith)

pub returns-then-a-b-4 : goal.returns-then-a-b-4
returns-then-a-b-4 c = let s = c.args in by_first s.a s.b (omega arith) (omega arith) (omega arith) (λ e. omega arith)

pub returns : goal.returns
returns c =
    let s = c.args in
    ap₂ ltb c.rest_of.ensures c.rest_of-2.ensures ∙ by-rest s.a s.b (omega arith) (omega arith) (omega arith) (omega arith)
