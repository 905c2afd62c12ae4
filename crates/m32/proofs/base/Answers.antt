-- `m32::base` meets its contract. Assumes nothing.
use native.Mathlib.Omega.{arith}
use mathlib.Core.Path.{sym}
use lib.ListN.{get_or-eq_default}
use Rattle.m32.specs.M32.{bases}
use Rattle.m32.proofs.base.Goals as goal

pub returns-in_default : goal.returns-in_default
returns-in_default c = sym (get_or-eq_default bases 0 {n = c.args.digits} (omega arith))
