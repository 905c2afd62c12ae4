-- `m32::code_at` meets its contract. Assumes nothing.
use Rattle.m32.proofs.StepLaws.{outcome}
use Rattle.m32.specs.M32.{bytes_next, read_code}
use Rattle.m32.specs.declared.Step.TheVariants.{More}
use mathlib.Core.Path.{◌≡◌}
use Rattle.m32.proofs.code_at.Given as goal

abbrev pub invariant-loop-at : goal.invariant-loop-at
invariant-loop-at l = outcome (bytes_next l.bytes) (More l.part) l.at ≡ read_code (bytes_next l.bytes) l.from
