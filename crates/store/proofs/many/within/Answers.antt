-- `store::many::within` meets its contract. Assumes nothing.
use Prim.Native.Nat.{◌+◌}
use mathlib.Core.Path.{sym}
use native.Mathlib.Omega.{arith}
use borrow.Author.Tests.{le-leb, lt-leb}
use Rattle.store.proofs.many.within.Goals as goal

pub returns-then-side-at : goal.returns-then-side-at
returns-then-side-at c = let a = c.args in sym (lt-leb (a.at + a.n) a.side (omega arith))

pub returns-then-side-at-2 : goal.returns-then-side-at-2
returns-then-side-at-2 c = let a = c.args in sym (lt-leb (a.at + a.n) a.side (omega arith))

pub returns : goal.returns
returns c = let a = c.args in sym (le-leb (a.at + a.n) a.side (omega arith))
