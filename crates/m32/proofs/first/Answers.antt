-- `m32::first` meets its contract. Assumes nothing.
use Rattle.m32.proofs.StepLaws.{first_up, first_lowest, first_down, first_itself}
use native.Mathlib.Omega.{arith}
use Rattle.m32.proofs.first.Goals as goal

pub returns-then-b-eq127 : goal.returns-then-b-eq127
returns-then-b-eq127 c = first_up _ c.if-b-eq127.true

pub returns-then-b-eq128 : goal.returns-then-b-eq128
returns-then-b-eq128 c = first_lowest _ c.if-b-eq128.true

pub returns-then-b-eq129 : goal.returns-then-b-eq129
returns-then-b-eq129 c = first_down _ c.if-b-eq129.true

pub returns : goal.returns
returns c = first_itself _ (omega arith) c.if-b-eq127.false c.if-b-eq128.false c.if-b-eq129.false
