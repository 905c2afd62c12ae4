-- `bodies::tile_record::next_section` meets its contract. Assumes nothing.
use Rattle.bodies.proofs.SectionLaws.{next_past, next_in}
use borrow.Author.Rules.{rules}
use Rattle.bodies.proofs.tile_record.next_section.Goals as goal

pub returns-then-record_limit-p : goal.returns-then-record_limit-p
returns-then-record_limit-p c = search (rules, next_past)

pub returns : goal.returns
returns c = search (rules, next_in)
