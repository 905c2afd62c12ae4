-- `store::elements::first_named` meets its contract. The loop's invariant: no element before e has the name. Assumes nothing.
use mathlib.Core.Path.{◌≡◌}
use Rattle.header.specs.Fields.{element_count}
use Rattle.store.proofs.LookupLaws.{Unnamed}
use Rattle.store.proofs.elements.first_named.Given as goal

abbrev pub invariant-loop-e : goal.invariant-loop-e
invariant-loop-e l = (l.n ≡ element_count l.file) × Unnamed l.file l.name l.n l.e
