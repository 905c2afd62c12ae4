-- `m32::writing::length_of` meets its contract. Assumes nothing.
use lib.ListN.{length}
use Rattle.m32.proofs.CodeLaws.{code_small, code_lowest, length_wide, length_two}
use mathlib.Core.Path.{sym, ap}
use native.Mathlib.Omega.{arith}
use Rattle.m32.proofs.writing.length_of.Goals as goal

pub returns-then-m-le126-clause-is : goal.returns-then-m-le126-clause-is
returns-then-m-le126-clause-is c = ap length (sym (code_small _ _ c.absolute-m.ensures (omega arith)))

pub returns-then-m-lt255-clause-is : goal.returns-then-m-lt255-clause-is
returns-then-m-lt255-clause-is c = length_two _ _ c.absolute-m.ensures (omega arith) (omega arith)

pub returns-then-m-clause-is : goal.returns-then-m-clause-is
returns-then-m-clause-is c = ap length (sym (code_lowest _ _ c.absolute-m.ensures c.if-m.true))

pub returns-clause-is : goal.returns-clause-is
returns-clause-is c = length_wide _ _ _ c.absolute-m.ensures c.continued.ensures.is (omega arith) c.if-m.false

pub returns-clause-few : goal.returns-clause-few
returns-clause-few c = omega (arith, c.continued.ensures.few)
