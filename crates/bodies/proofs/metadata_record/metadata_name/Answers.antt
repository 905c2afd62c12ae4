-- `bodies::metadata_record::metadata_name` meets its contract. Assumes nothing.
use native.Mathlib.Omega.{arith}
use mathlib.Core.Path.{refl}
use Rattle.wire.proofs.ByteLaws.{offset_out}
use Rattle.bodies.proofs.MetadataLaws.{name_past, named_is, name_offset}
use borrow.Author.Rules.{rules}
use Rattle.bodies.proofs.metadata_record.metadata_name.Goals as goal

pub returns-then-s-at-clause-holds : goal.returns-then-s-at-clause-holds
returns-then-s-at-clause-holds c = name_past _ _ (omega arith)

pub returns-then-s-at-clause-block : goal.returns-then-s-at-clause-block
returns-then-s-at-clause-block c = refl

pub returns-then-s-at-clause-offset : goal.returns-then-s-at-clause-offset
returns-then-s-at-clause-offset c = offset_out _ _ _ _ (omega arith)

pub returns-clause-holds : goal.returns-clause-holds
returns-clause-holds c = search (rules, named_is)

pub returns-clause-block : goal.returns-clause-block
returns-clause-block c = c.part_of.ensures.block

pub returns-clause-offset : goal.returns-clause-offset
returns-clause-offset c = name_offset _ _ _ _ _ c.u16_off.ensures.is c.part_of.ensures.offset
