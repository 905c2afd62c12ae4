-- `explain::given::marked_rows` meets its contract. Assumes nothing.
use borrow.Author.Rules.{rules}
use Rattle.reasons.proofs.ReasonLaws.{below_begin, below_pass}
use Rattle.explain.proofs.GivenLaws.{given_stop}
use Rattle.explain.proofs.given.marked_rows.Goals as goal

pub loop-i-init : goal.loop-i-init
loop-i-init c = below_begin _

pub returns-in_err-marked_row : goal.returns-in_err-marked_row
returns-in_err-marked_row c = search (rules, given_stop)

pub loop-i-preserved : goal.loop-i-preserved
loop-i-preserved c = search (rules, below_pass)
