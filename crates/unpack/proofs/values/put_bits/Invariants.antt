-- `unpack::values::put_bits` meets its contract. Assumes nothing.
use mathlib.Core.Path.{◌≡◌}
use Rattle.wire.proofs.PutLaws.{pasted}
use Rattle.unpack.specs.Unpack.{bits_of}
use Rattle.unpack.proofs.values.put_bits.Given as goal

abbrev pub invariant-loop-i : goal.invariant-loop-i
invariant-loop-i l = l.out ≡ pasted l.initial.out l.at (bits_of l.short l.row) l.i
