-- `m32::writing::codes_length` meets its contract. Assumes nothing.
use Rattle.m32.proofs.WriteLaws.{codes_to}
use lib.ListN.{length}
use Prim.Native.Nat.{◌*◌, ◌≤◌}
use mathlib.Core.Path.{◌≡◌}
use Rattle.m32.proofs.writing.codes_length.Given as goal

abbrev pub invariant-loop-x : goal.invariant-loop-x
invariant-loop-x l = (l.n ≡ length (codes_to l.xs l.x-index)) × (l.n ≤ 6 * l.x-index)
