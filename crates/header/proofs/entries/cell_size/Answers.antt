-- `header::entries::cell_size` meets its contract. Assumes nothing.
use borrow.Author.Rules.{rules}
use Rattle.header.proofs.EntryLaws.{size_short, size_other}
use Rattle.header.proofs.entries.cell_size.Goals as goal

pub returns-then-kind-eq-SHORT : goal.returns-then-kind-eq-SHORT
returns-then-kind-eq-SHORT c = search (rules, size_short)

pub returns : goal.returns
returns c = search (rules, size_other)
