-- `wire::part_of` meets its contract. Assumes nothing.
use native.Mathlib.Omega.{arith}
use mathlib.Core.Path.{refl, sym}
use Rattle.wire.proofs.ByteLaws.{part_out, part_lent, offset_in_lem, offset_out}
use Rattle.wire.proofs.part_of.Goals as goal

pub returns-then-s-n-clause-holds : goal.returns-then-s-n-clause-holds
returns-then-s-n-clause-holds c = sym (part_out _ _ _ (omega arith))

pub returns-then-s-n-clause-block : goal.returns-then-s-n-clause-block
returns-then-s-n-clause-block c = refl

pub returns-then-s-n-clause-offset : goal.returns-then-s-n-clause-offset
returns-then-s-n-clause-offset c = offset_out _ _ _ _ (omega arith)

pub returns-then-s-n-2-clause-holds : goal.returns-then-s-n-2-clause-holds
returns-then-s-n-2-clause-holds c = sym (part_out _ _ _ (omega arith))

pub returns-then-s-n-2-clause-block : goal.returns-then-s-n-2-clause-block
returns-then-s-n-2-clause-block c = refl

pub returns-then-s-n-2-clause-offset : goal.returns-then-s-n-2-clause-offset
returns-then-s-n-2-clause-offset c = offset_out _ _ _ _ (omega arith)

pub returns-clause-holds : goal.returns-clause-holds
returns-clause-holds c = part_lent _ _ _ (omega arith)

pub returns-clause-block : goal.returns-clause-block
returns-clause-block c = refl

pub returns-clause-offset : goal.returns-clause-offset
returns-clause-offset c = offset_in_lem _ _ _ _ (omega arith)
