-- `says::further::range_bits` meets its contract. Assumes nothing.
use borrow.Author.Rules.{rules}
use Rattle.says.proofs.FurtherLaws.{range_coded, range_short, range_other}
use Rattle.says.proofs.further.range_bits.Goals as goal

pub returns-then-kind-eq-INTEGER_CODED : goal.returns-then-kind-eq-INTEGER_CODED
returns-then-kind-eq-INTEGER_CODED c = search (rules, range_coded)

pub returns-then-kind-eq-SHORT : goal.returns-then-kind-eq-SHORT
returns-then-kind-eq-SHORT c = search (rules, range_short)

pub returns : goal.returns
returns c = search (rules, range_other)
