-- `check_records::tile_body::sections_right` meets its contract. Assumes nothing.
use borrow.Author.Rules.{rules}
use native.Mathlib.Omega.{arith}
use Rattle.wire.proofs.TestLaws.{below_none, each_more, each_not, each_all}
use Rattle.header.proofs.EntryLaws.{entry_next}
use Rattle.bodies.proofs.SectionLaws.{section_told, section_more}
use Rattle.check_records.proofs.tile_body.sections_right.Goals as goal

pub loop-e-init : goal.loop-e-init
loop-e-init c = (below_none _, (search (rules, section_told), search rules))

pub loop-e-preserved : goal.loop-e-preserved
loop-e-preserved c = (search (rules, each_more), (search (rules, section_more), search (rules, entry_next)))

pub returns-then-not-section_right : goal.returns-then-not-section_right
returns-then-not-section_right c = each_not _ _ _ _ (omega arith) c.section_right.ensures c.if-not-section_right.true

pub returns : goal.returns
returns c = search (rules, each_all)
