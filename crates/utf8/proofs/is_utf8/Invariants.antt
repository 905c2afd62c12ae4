-- `utf8::is_utf8` meets its contract: what is wanted, and the bytes that are still to come, give the whole. Assumes nothing.
use mathlib.Core.Path.{◌≡◌}
use Rattle.utf8.specs.Utf8.{utf8}
use Rattle.utf8.specs.inner.Wanted.{wanted}
use Rattle.utf8.proofs.StepLaws.{goes_from}
use Rattle.utf8.proofs.is_utf8.Given as goal

abbrev pub invariant-loop-b : goal.invariant-loop-b
invariant-loop-b l = goes_from (wanted l.w) l.text l.b-index ≡ utf8 l.text
