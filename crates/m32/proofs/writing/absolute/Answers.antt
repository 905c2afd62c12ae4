-- `m32::writing::absolute` meets its contract. Assumes nothing.
use Rattle.m32.proofs.CodeLaws.{plus, minus}
use mathlib.Core.Path.{sym}
use native.Mathlib.Omega.{arith}
use Rattle.m32.proofs.writing.absolute.Goals as goal

pub returns-then-x-le2147483647 : goal.returns-then-x-le2147483647
returns-then-x-le2147483647 c = sym (plus _ (omega arith))

pub returns : goal.returns
returns c = omega (arith, minus c.args.x (omega arith))
