-- `check_directory::tile_rules::span_right` meets its contract. Assumes nothing.
use native.Mathlib.Omega.{arith}
use Rattle.wire.proofs.TestLaws.{no, yes}
use Rattle.check_directory.specs.TileRules.{span_right}
use Rattle.check_directory.proofs.tile_rules.span_right.Goals as goal

pub returns-then-start-gt-LARGEST_INTEGER : goal.returns-then-start-gt-LARGEST_INTEGER
unfolding span_right
returns-then-start-gt-LARGEST_INTEGER c = no _ (λ h. omega arith)

pub returns-then-side-gt-LARGEST_INTEGER : goal.returns-then-side-gt-LARGEST_INTEGER
unfolding span_right
returns-then-side-gt-LARGEST_INTEGER c = no _ (λ h. omega arith)

pub returns-then-tiles-start : goal.returns-then-tiles-start
unfolding span_right
returns-then-tiles-start c = no _ (λ h. omega arith)

pub returns-then-tiles-start-2 : goal.returns-then-tiles-start-2
unfolding span_right
returns-then-tiles-start-2 c = no _ (λ h. omega arith)

pub returns : goal.returns
unfolding span_right
returns c = yes _ (omega arith)
