-- `m32::writing::put_codes` meets its contract. Assumes nothing.
use Rattle.m32.proofs.WriteLaws.{codes_to}
use Rattle.wire.specs.Bytes.{put}
use lib.ListN.{length}
use mathlib.Core.Path.{◌≡◌}
use Rattle.m32.proofs.writing.put_codes.Given as goal

abbrev pub invariant-loop-x : goal.invariant-loop-x
invariant-loop-x l = (l.at ≡ length (codes_to l.xs l.x-index)) × (l.out ≡ put l.initial.out 0 (codes_to l.xs l.x-index))
