-- `sheets::read::run_clean` meets its contract. Assumes nothing.
use mathlib.Core.Path.{refl, sym, ◌∙◌}
use Rattle.wire.proofs.TestLaws.{not_both}
use native.Mathlib.Omega.{arith}
use Rattle.sheets.proofs.read.run_clean.Goals as goal

pub returns-then-from-eq0 : goal.returns-then-from-eq0
returns-then-from-eq0 c z = not_both z refl

pub run_right-requires : goal.run_right-requires
run_right-requires c = (c.stored_run-from.ensures (omega arith)).whole

pub returns : goal.returns
returns c z = record { from = c.stored_run-from.result; run = c.stored_run-from.ensures (omega arith); right = sym c.run_right.ensures ∙ z }
