-- `store::pieces::precedes` meets its contract. Assumes nothing.
use Prim.Native.Nat.{◌+◌}
use mathlib.Core.Path.{sym}
use native.Mathlib.Omega.{arith}
use borrow.Author.Tests.{le-leb, lt-leb}
use Rattle.store.proofs.pieces.precedes.Goals as goal

pub returns-then-side-first : goal.returns-then-side-first
returns-then-side-first c = let a = c.args in sym (lt-leb (a.first + a.at + 1) a.side (omega arith))

pub returns-then-side-first-2 : goal.returns-then-side-first-2
returns-then-side-first-2 c = let a = c.args in sym (lt-leb (a.first + a.at + 1) a.side (omega arith))

pub returns : goal.returns
returns c = let a = c.args in sym (le-leb (a.first + a.at + 1) a.side (omega arith))
