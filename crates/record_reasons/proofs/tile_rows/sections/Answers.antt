-- `record_reasons::tile_rows::sections` meets its contract. Assumes nothing.
use borrow.Author.Rules.{rules}
use Rattle.reasons.proofs.ReasonLaws.{below_begin, below_pass}
use Rattle.record_reasons.proofs.BodyLaws.{sections_stop}
use Rattle.record_reasons.proofs.tile_rows.sections.Goals as goal

pub loop-e-init : goal.loop-e-init
loop-e-init c = below_begin _

pub returns-in_err-section : goal.returns-in_err-section
returns-in_err-section c = search (rules, sections_stop)

pub loop-e-preserved : goal.loop-e-preserved
loop-e-preserved c = search (rules, below_pass)
