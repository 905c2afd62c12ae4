-- `answer::value_bits` meets its contract. Assumes nothing.
use mir.Syntax.{w16, w32}
use Rattle.answer.proofs.ValueLaws.{held}
use borrow.Author.Rules.{rules}
use Rattle.answer.proofs.value_bits.Goals as goal

pub returns-in-Integer : goal.returns-in-Integer
returns-in-Integer c = rw c.in-Integer.is (held w32 c.in-Integer.z (search rules) c.bits_32.ensures)

pub returns-in-IntegerCoded : goal.returns-in-IntegerCoded
returns-in-IntegerCoded c = rw c.in-IntegerCoded.is (held w32 c.in-IntegerCoded.z (search rules) c.bits_32-in-IntegerCoded.ensures)

pub returns-in-Short : goal.returns-in-Short
returns-in-Short c = rw c.in-Short.is (held w16 c.in-Short.z (search rules) c.bits_16.ensures)
