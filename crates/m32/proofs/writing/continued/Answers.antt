-- `m32::writing::continued` meets its contract. Assumes nothing.
use Rattle.m32.specs.M32.{reached, continued}
use borrow.Author.Tests.{le-leb, lt-leb}
use native.Mathlib.Omega.{arith}
use Rattle.m32.proofs.writing.continued.Goals as goal

pub returns-then-m-lt255-clause-is : goal.returns-then-m-lt255-clause-is
unfolding reached continued
returns-then-m-lt255-clause-is c = simp (lt-leb _ _ c.if-m-lt255.true)

pub returns-then-m-lt255-clause-few : goal.returns-then-m-lt255-clause-few
unfolding reached continued
returns-then-m-lt255-clause-few c = omega arith

pub returns-then-m-lt16639-clause-is : goal.returns-then-m-lt16639-clause-is
unfolding reached continued
returns-then-m-lt16639-clause-is c = simp (le-leb _ _ c.if-m-lt255.false, lt-leb _ _ c.if-m-lt16639.true)

pub returns-then-m-lt16639-clause-few : goal.returns-then-m-lt16639-clause-few
unfolding reached continued
returns-then-m-lt16639-clause-few c = omega arith

pub returns-then-m-lt2113791-clause-is : goal.returns-then-m-lt2113791-clause-is
unfolding reached continued
returns-then-m-lt2113791-clause-is c = simp (le-leb _ _ c.if-m-lt255.false, le-leb _ _ c.if-m-lt16639.false, lt-leb _ _ c.if-m-lt2113791.true)

pub returns-then-m-lt2113791-clause-few : goal.returns-then-m-lt2113791-clause-few
unfolding reached continued
returns-then-m-lt2113791-clause-few c = omega arith

pub returns-then-m-lt270549247-clause-is : goal.returns-then-m-lt270549247-clause-is
unfolding reached continued
returns-then-m-lt270549247-clause-is c = simp (le-leb _ _ c.if-m-lt255.false, le-leb _ _ c.if-m-lt16639.false, le-leb _ _ c.if-m-lt2113791.false, lt-leb _ _ c.if-m-lt270549247.true)

pub returns-then-m-lt270549247-clause-few : goal.returns-then-m-lt270549247-clause-few
unfolding reached continued
returns-then-m-lt270549247-clause-few c = omega arith

pub returns-clause-is : goal.returns-clause-is
unfolding reached continued
returns-clause-is c = simp (le-leb _ _ c.if-m-lt255.false, le-leb _ _ c.if-m-lt16639.false, le-leb _ _ c.if-m-lt2113791.false, le-leb _ _ c.if-m-lt270549247.false)

pub returns-clause-few : goal.returns-clause-few
unfolding reached continued
returns-clause-few c = omega arith
