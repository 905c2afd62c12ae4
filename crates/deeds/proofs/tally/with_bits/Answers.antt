-- `deeds::tally::with_bits` meets its contract. Assumes nothing.
use Rattle.deeds.proofs.RunLaws.{bits_more}
use borrow.Author.Rules.{rules}
use Rattle.deeds.proofs.tally.with_bits.Goals as goal

pub returns : goal.returns
returns c = search (rules, bits_more)
