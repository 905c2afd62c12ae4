-- `bodies::tile_record::section_start` meets its contract. Assumes nothing.
use native.Mathlib.Omega.{arith}
use Rattle.bodies.proofs.SectionLaws.{start_past, start_is}
use Rattle.bodies.proofs.tile_record.section_start.Goals as goal

pub returns-then-s-at-clause-is : goal.returns-then-s-at-clause-is
returns-then-s-at-clause-is c = start_past _ _ _ (omega arith)

pub returns-clause-is : goal.returns-clause-is
returns-clause-is c = start_is _ _ _ _ (omega arith) c.section_at.ensures.is

pub returns-clause-near : goal.returns-clause-near
returns-clause-near c = c.section_at.ensures.near
