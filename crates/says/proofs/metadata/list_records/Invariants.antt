-- `says::metadata::list_records` meets its contract. Assumes nothing.
use Prim.Native.Nat.{◌-◌, ◌≤◌}
use mathlib.Core.Path.{◌≡◌}
use lib.ListN.{length}
use Rattle.says.proofs.MetadataLaws.{Records}
use Rattle.says.proofs.metadata.list_records.Given as goal

abbrev pub invariant-loop-start : goal.invariant-loop-start
invariant-loop-start l = (l.p.seen ≤ l.c.at) × (length l.numbers ≡ length l.initial.numbers) × Records l.s l.from l.initial.numbers l.p l.numbers l.c.at

abbrev pub decreases-loop-start : goal.decreases-loop-start
decreases-loop-start l = length l.s - l.c.at
