-- `wire::byte_at` meets its contract. Assumes nothing.
use native.Mathlib.Omega.{arith}
use Rattle.wire.proofs.ByteLaws.{byte_in, byte_out}
use Rattle.wire.proofs.byte_at.Goals as goal

pub overflow_cast-result : goal.overflow_cast-result
overflow_cast-result c = omega (arith, c.type_inv.s c.args.at)

pub returns-then-at-s-clause-is : goal.returns-then-at-s-clause-is
returns-then-at-s-clause-is c = byte_in _ _

pub returns-then-at-s-clause-small : goal.returns-then-at-s-clause-small
returns-then-at-s-clause-small c = omega (arith, c.type_inv.s c.args.at)

pub returns-else-at-s-clause-is : goal.returns-else-at-s-clause-is
returns-else-at-s-clause-is c = byte_out _ _ (omega arith)
