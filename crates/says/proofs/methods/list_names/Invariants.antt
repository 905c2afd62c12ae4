-- `says::methods::list_names` meets its contract. Assumes nothing.
use Prim.Native.Nat.{◌+◌, ◌-◌, ◌≤◌}
use mathlib.Core.Path.{◌≡◌}
use lib.ListN.{length}
use Rattle.header.specs.Element.{longest_entry}
use Rattle.header.specs.Tail.{method_count}
use Rattle.says.specs.Methods.{method_at, method_says, method_indexes}
use Rattle.says.proofs.ItemLaws.{Listing}
use Rattle.says.proofs.MethodLaws.{names_ahead}
use Rattle.says.proofs.methods.list_names.Given as goal

abbrev pub invariant-loop-k : goal.invariant-loop-k
invariant-loop-k l =
    (l.k ≤ l.n) × (l.n ≡ method_count l.s) × (l.at ≡ method_at l.s l.k) × (l.at ≤ length l.s + longest_entry + 4) × (l.p.seen ≤ l.k) × (length l.numbers ≡ length l.initial.numbers)
    × Listing (method_says l.s) 2 l.from (method_indexes l.s) l.initial.numbers l.p l.numbers (names_ahead l.s l.k)

abbrev pub decreases-loop-k : goal.decreases-loop-k
decreases-loop-k l = l.n - l.k
