-- `store::reads::trust` meets its contract. Assumes nothing.
use borrow.Author.Tests.{eq-eqb, ne_eqb}
use Rattle.store.specs.Opened.{trusted}
use Rattle.store.proofs.reads.trust.Goals as goal

pub returns-then-held-own : goal.returns-then-held-own
unfolding trusted
returns-then-held-own c = rw (eq-eqb _ _ c.if-held-own.true)

pub returns : goal.returns
unfolding trusted
returns c = rw (ne_eqb _ _ c.if-held-own.false)
