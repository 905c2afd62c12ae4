-- `bodies::list_directories::entry_count` meets its contract. Assumes nothing.
use Rattle.bodies.proofs.CountLaws.{count_none, count_some}
use borrow.Author.Rules.{rules}
use Rattle.bodies.proofs.list_directories.entry_count.Goals as goal

pub returns-then-reference-eq0 : goal.returns-then-reference-eq0
returns-then-reference-eq0 c = search (rules, count_none)

pub returns : goal.returns
returns c = search (rules, count_some)
