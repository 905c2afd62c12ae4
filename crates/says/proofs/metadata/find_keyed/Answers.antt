-- `says::metadata::find_keyed` meets its contract. Assumes nothing.
use Rattle.record.proofs.TallyLaws.{tag_other}
use native.Mathlib.Omega.{arith}
use Rattle.record.proofs.ChainLaws.{less}
use Rattle.says.proofs.MetadataLaws.{key_begin, key_room, key_pass, key_next, key_here, key_over}
use Rattle.says.proofs.metadata.find_keyed.Goals as goal

pub loop-kind-init : goal.loop-kind-init
loop-kind-init c = key_begin _ _ _ _ c.header_end.ensures

pub returns-in_default : goal.returns-in_default
returns-in_default c = key_over c.loop-kind.invariant c.step.ensures (tag_other _ c.in_default.not-Record)

pub returns-then-has_key : goal.returns-then-has_key
returns-then-has_key c = key_here c.loop-kind.invariant c.in-Record.is c.step.ensures _ c.if-kind-eq-METADATA.true c.has_key.ensures c.if-has_key.true

pub overflow_add-k : goal.overflow_add-k
overflow_add-k c = record { fits = omega (arith, key_room c.loop-kind.invariant c.in-Record.is c.step.ensures) }

pub loop-kind-smaller-else-has_key : goal.loop-kind-smaller-else-has_key
loop-kind-smaller-else-has_key c = less _ _ _ _ _ _ _ c.in-Record.is c.step.ensures

pub loop-kind-preserved-else-has_key : goal.loop-kind-preserved-else-has_key
loop-kind-preserved-else-has_key c = key_next c.loop-kind.invariant c.in-Record.is c.step.ensures _ c.if-kind-eq-METADATA.true c.has_key.ensures c.if-has_key.false

pub loop-kind-smaller : goal.loop-kind-smaller
loop-kind-smaller c = less _ _ _ _ _ _ _ c.in-Record.is c.step.ensures

pub loop-kind-preserved : goal.loop-kind-preserved
loop-kind-preserved c = key_pass c.loop-kind.invariant c.in-Record.is c.step.ensures c.if-kind-eq-METADATA.false
