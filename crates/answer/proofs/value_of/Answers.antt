-- `answer::value_of` meets its contract. Assumes nothing.
use Rattle.answer.proofs.ValueLaws.{value_coded, value_float, value_short, value_integer}
use borrow.Author.Rules.{rules}
use Rattle.answer.proofs.value_of.Goals as goal

pub returns-in-1 : goal.returns-in-1
returns-in-1 c = search (rules, value_coded)

pub returns-in-2 : goal.returns-in-2
returns-in-2 c = search (rules, value_float)

pub returns-in-3 : goal.returns-in-3
returns-in-3 c = search (rules, value_short)

pub returns-in_default : goal.returns-in_default
returns-in_default c = search (rules, value_integer)
