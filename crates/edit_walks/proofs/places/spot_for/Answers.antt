-- `edit_walks::places::spot_for` meets its contract. Assumes nothing.
use Rattle.record.proofs.TallyLaws.{tag_other}
use native.Mathlib.Omega.{arith}
use mathlib.Core.Path.{refl}
use Rattle.record.proofs.ChainLaws.{stepped, less}
use Rattle.edit_walks.proofs.SpotLaws.{spot_begin, spot_loose, spot_order, spot_found, spot_used, spot_over}
use Rattle.edit_walks.proofs.places.spot_for.Goals as goal

pub loop-kind-init : goal.loop-kind-init
loop-kind-init c = spot_begin _ _ _ _ c.records_start.ensures.is c.records_start.ensures.near

pub returns-in_default-clause-is : goal.returns-in_default-clause-is
returns-in_default-clause-is c = spot_over c.loop-kind.invariant c.step.ensures (tag_other _ c.in_default.not-Record) c.last_spot.ensures.is

pub returns-in_default-clause-near : goal.returns-in_default-clause-near
returns-in_default-clause-near c = omega (arith, c.loop-kind.invariant.near, c.last_spot.ensures.near)

pub is_wanted-freed-requires : goal.is_wanted-freed-requires
is_wanted-freed-requires c = (stepped c.in-Record.is c.step.ensures).kind

pub loop-kind-smaller-then-is_loose : goal.loop-kind-smaller-then-is_loose
loop-kind-smaller-then-is_loose c = less _ _ _ _ _ _ _ c.in-Record.is c.step.ensures

pub loop-kind-preserved-then-is_loose : goal.loop-kind-preserved-then-is_loose
loop-kind-preserved-then-is_loose c = spot_loose c.loop-kind.invariant c.in-Record.is c.step.ensures c.is_wanted-freed.ensures c.is_loose.ensures c.if-is_loose.true

pub overflow_sub-room : goal.overflow_sub-room
overflow_sub-room c = spot_order c.loop-kind.invariant c.in-Record.is c.step.ensures

pub returns-then-is_fit-clause-is : goal.returns-then-is_fit-clause-is
returns-then-is_fit-clause-is c = spot_found c.loop-kind.invariant c.in-Record.is c.step.ensures c.is_wanted-freed.ensures c.is_loose.ensures c.if-is_loose.false refl c.is_fit.ensures c.if-is_fit.true

pub returns-then-is_fit-clause-near : goal.returns-then-is_fit-clause-near
returns-then-is_fit-clause-near c = omega (arith, c.loop-kind.invariant.near, c.loop-kind.invariant.order)

pub loop-kind-smaller : goal.loop-kind-smaller
loop-kind-smaller c = less _ _ _ _ _ _ _ c.in-Record.is c.step.ensures

pub loop-kind-preserved : goal.loop-kind-preserved
loop-kind-preserved c = spot_used c.loop-kind.invariant c.in-Record.is c.step.ensures c.is_wanted-freed.ensures c.is_loose.ensures c.if-is_loose.false refl c.is_fit.ensures c.if-is_fit.false
