-- `header::entries::fill_bits` meets its contract. Assumes nothing.
use Rattle.header.proofs.EntryLaws.{fill_coded, fill_short, fill_other}
use borrow.Author.Rules.{rules}
use Rattle.header.proofs.entries.fill_bits.Goals as goal

pub returns-then-kind-eq-INTEGER_CODED : goal.returns-then-kind-eq-INTEGER_CODED
returns-then-kind-eq-INTEGER_CODED c = search (rules, fill_coded)

pub returns-then-kind-eq-SHORT : goal.returns-then-kind-eq-SHORT
returns-then-kind-eq-SHORT c = search (rules, fill_short)

pub returns : goal.returns
returns c = search (rules, fill_other)
