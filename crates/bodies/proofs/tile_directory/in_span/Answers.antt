-- `bodies::tile_directory::in_span` meets its contract. Assumes nothing.
use native.Mathlib.Omega.{arith}
use Rattle.wire.proofs.TestLaws.{no, yes}
use Rattle.bodies.specs.TileDirectory.{in_span}
use Rattle.bodies.proofs.tile_directory.in_span.Goals as goal

pub returns-then-x-start : goal.returns-then-x-start
unfolding in_span
returns-then-x-start c = no _ (λ h. omega arith)

pub returns-then-side-x : goal.returns-then-side-x
unfolding in_span
returns-then-side-x c = no _ (λ h. omega arith)

pub returns : goal.returns
unfolding in_span
returns c = yes _ (omega arith)
