-- `reasons::head::elements` meets its contract. Assumes nothing.
use borrow.Author.Rules.{rules}
use Rattle.reasons.proofs.ReasonLaws.{below_begin, below_pass}
use Rattle.reasons.proofs.HeadLaws.{below_read}
use Rattle.reasons.proofs.head.elements.Goals as goal

pub loop-e-init : goal.loop-e-init
loop-e-init c = below_begin _

pub returns-in_err-one_element : goal.returns-in_err-one_element
returns-in_err-one_element c = search (rules, below_read)

pub loop-e-preserved : goal.loop-e-preserved
loop-e-preserved c = search (rules, below_pass)
