-- `read_links::field_bytes` meets its contract: at each of the sixteen allowed map bytes the length computes, and every other byte is refused.
-- Assumes nothing.
use mathlib.Core.Path.{refl}
use native.Mathlib.Omega.{arith}
use Rattle.sheet.specs.Sheet.{current, field_start}
use Rattle.read_links.proofs.RecordLaws.{fields_of-pair}
use Rattle.read_links.proofs.field_bytes.Goals as goal

pub returns-in-0 : goal.returns-in-0
unfolding field_start
returns-in-0 c = rw c.in-0.is

pub returns-in-15 : goal.returns-in-15
unfolding field_start
returns-in-15 c = rw c.in-15.is

pub returns-in-5 : goal.returns-in-5
unfolding field_start
returns-in-5 c = fields_of-pair current c.args.m 5 6 (omega arith) (omega arith) refl refl

pub returns-in-5-2 : goal.returns-in-5-2
unfolding field_start
returns-in-5-2 c = fields_of-pair current c.args.m 11 6 (omega arith) (omega arith) refl refl

pub returns-in-3 : goal.returns-in-3
unfolding field_start
returns-in-3 c = fields_of-pair current c.args.m 3 4 (omega arith) (omega arith) refl refl

pub returns-in-3-2 : goal.returns-in-3-2
unfolding field_start
returns-in-3-2 c = fields_of-pair current c.args.m 9 4 (omega arith) (omega arith) refl refl

pub returns-in-7 : goal.returns-in-7
unfolding field_start
returns-in-7 c = rw c.in-7.is

pub returns-in-7-2 : goal.returns-in-7-2
unfolding field_start
returns-in-7-2 c = fields_of-pair current c.args.m 13 8 (omega arith) (omega arith) refl refl

pub returns-in-1 : goal.returns-in-1
unfolding field_start
returns-in-1 c = rw c.in-1.is

pub returns-in-1-2 : goal.returns-in-1-2
unfolding field_start
returns-in-1-2 c = fields_of-pair current c.args.m 1 2 (omega arith) (omega arith) refl refl
