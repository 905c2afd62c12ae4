-- `bodies::tile_record::section_at` meets its contract. Assumes nothing.
use borrow.Author.Rules.{rules}
use native.Mathlib.Omega.{arith}
use Rattle.wire.proofs.ItemLaws.{items_step, items_stop, items_end}
use Rattle.bodies.proofs.SectionLaws.{sections_begin}
use Rattle.bodies.proofs.tile_record.section_at.Goals as goal

pub loop-left-init : goal.loop-left-init
loop-left-init c = (search (rules, sections_begin), omega arith)

pub returns-then-limit-p-clause-is : goal.returns-then-limit-p-clause-is
returns-then-limit-p-clause-is c = search (rules, items_stop)

pub loop-left-preserved : goal.loop-left-preserved
loop-left-preserved c = (search (rules, items_step), omega arith)

pub returns-clause-is : goal.returns-clause-is
returns-clause-is c = search (rules, items_end)
