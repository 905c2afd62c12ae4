-- `deeds::lowest_bits` meets its contract. Assumes nothing.
use Rattle.deeds.proofs.ScoreLaws.{bits_of}
use borrow.Author.Rules.{rules}
use Rattle.deeds.proofs.lowest_bits.Goals as goal

pub returns-in-Some : goal.returns-in-Some
returns-in-Some c = bits_of _ _ _ c.in-Some.is (search rules) c.bits_16.ensures
