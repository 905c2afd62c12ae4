-- `reasons::head::twins` meets its contract. Assumes nothing.
use borrow.Author.Rules.{rules}
use Rattle.reasons.proofs.ReasonLaws.{below_begin, below_pass, below_stop}
use Rattle.reasons.proofs.head.twins.Goals as goal

pub loop-d-init : goal.loop-d-init
loop-d-init c = below_begin _

pub returns-in_err-twin : goal.returns-in_err-twin
returns-in_err-twin c = search (rules, below_stop)

pub loop-d-preserved : goal.loop-d-preserved
loop-d-preserved c = search (rules, below_pass)
