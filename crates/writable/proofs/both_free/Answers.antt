-- `writable::both_free` meets its contract. Assumes nothing.
use borrow.Author.Rules.{rules}
use Rattle.writable.proofs.TestLaws.{last_used, next_used, two_free}
use Rattle.writable.proofs.both_free.Goals as goal

pub returns-then-last-ne-FREE : goal.returns-then-last-ne-FREE
returns-then-last-ne-FREE c = search (rules, last_used)

pub returns-then-kind-ne-FREE : goal.returns-then-kind-ne-FREE
returns-then-kind-ne-FREE c = search (rules, next_used)

pub returns : goal.returns
returns c = search (rules, two_free)
