-- `m32::writing::put_code` meets its contract. Assumes nothing.
use Rattle.m32.proofs.CodeLaws.{code_small, code_lowest, code_plus, code_minus}
use native.Mathlib.Omega.{arith}
use Rattle.m32.proofs.writing.put_code.Goals as goal

pub returns-then-m-le126 : goal.returns-then-m-le126
returns-then-m-le126 c = rw (code_small _ _ c.absolute-m.ensures (omega arith)) c.put_byte.ensures

pub returns-then-m : goal.returns-then-m
returns-then-m c = rw (code_lowest _ _ c.absolute-m.ensures c.if-m.true) c.put_byte-then-m.ensures

pub returns-then-x-le2147483647 : goal.returns-then-x-le2147483647
returns-then-x-le2147483647 c = rw (code_plus _ _ c.absolute-m.ensures (omega arith) c.if-m.false (omega arith)) c.put_wide.ensures

pub returns : goal.returns
returns c = rw (code_minus _ _ c.absolute-m.ensures (omega arith) c.if-m.false (omega arith)) c.put_wide-2.ensures
