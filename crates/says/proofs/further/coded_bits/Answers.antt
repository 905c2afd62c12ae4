-- `says::further::coded_bits` meets its contract. Assumes nothing.
use borrow.Author.Rules.{rules}
use Rattle.says.proofs.FurtherLaws.{coded_is, coded_not}
use Rattle.says.proofs.further.coded_bits.Goals as goal

pub returns-then-byte_at-eq-INTEGER_CODED : goal.returns-then-byte_at-eq-INTEGER_CODED
returns-then-byte_at-eq-INTEGER_CODED c = search (rules, coded_is)

pub returns : goal.returns
returns c = search (rules, coded_not)
