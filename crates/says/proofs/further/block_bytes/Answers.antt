-- `says::further::block_bytes` meets its contract. Assumes nothing.
use borrow.Author.Rules.{rules}
use Rattle.header.proofs.EntryLaws.{block_coded, block_other}
use Rattle.says.proofs.further.block_bytes.Goals as goal

pub returns-then-kind-eq-INTEGER_CODED-clause-is : goal.returns-then-kind-eq-INTEGER_CODED-clause-is
returns-then-kind-eq-INTEGER_CODED-clause-is c = search (rules, block_coded)

pub returns-clause-is : goal.returns-clause-is
returns-clause-is c = search (rules, block_other)
