-- `writable::no_file_space` meets its contract. Assumes nothing.
use borrow.Author.Rules.{rules}
use Rattle.writable.proofs.TestLaws.{referred_not, space_none}
use Rattle.writable.proofs.no_file_space.Goals as goal

pub returns-then-file_space_reference-ne0 : goal.returns-then-file_space_reference-ne0
returns-then-file_space_reference-ne0 c = search (rules, referred_not)

pub returns : goal.returns
returns c = search (rules, space_none)
