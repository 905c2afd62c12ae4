-- `m32::writing::write` meets its contract. Assumes nothing.
use Rattle.wire.proofs.PutLaws.{put_not}
use mathlib.Core.Path.{sym}
use native.Mathlib.Omega.{arith}
use Rattle.m32.proofs.writing.write.Goals as goal

pub returns-then-out-n-clause-answer : goal.returns-then-out-n-clause-answer
returns-then-out-n-clause-answer c = c.codes_length-n.ensures

pub returns-then-out-n-clause-holds : goal.returns-then-out-n-clause-holds
returns-then-out-n-clause-holds c = sym (put_not _ _ _ (omega (arith, c.codes_length-n.ensures)))
