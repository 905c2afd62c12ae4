-- `check_header::ceilings::sides_within` meets its contract. Assumes nothing.
use native.Mathlib.Omega.{arith}
use Rattle.wire.proofs.TestLaws.{no, yes}
use Rattle.check_header.specs.Ceilings.{sides_within}
use Rattle.check_header.proofs.ceilings.sides_within.Goals as goal

pub returns-then-grid_rows-gt-MOST_GRID_SIDE : goal.returns-then-grid_rows-gt-MOST_GRID_SIDE
unfolding sides_within
returns-then-grid_rows-gt-MOST_GRID_SIDE c = no _ (λ h. omega arith)

pub returns-then-grid_columns-gt-MOST_GRID_SIDE : goal.returns-then-grid_columns-gt-MOST_GRID_SIDE
unfolding sides_within
returns-then-grid_columns-gt-MOST_GRID_SIDE c = no _ (λ h. omega arith)

pub returns-then-tile_rows-gt-MOST_TILE_SIDE : goal.returns-then-tile_rows-gt-MOST_TILE_SIDE
unfolding sides_within
returns-then-tile_rows-gt-MOST_TILE_SIDE c = no _ (λ h. omega arith)

pub returns-then-tile_columns-gt-MOST_TILE_SIDE : goal.returns-then-tile_columns-gt-MOST_TILE_SIDE
unfolding sides_within
returns-then-tile_columns-gt-MOST_TILE_SIDE c = no _ (λ h. omega arith)

pub returns : goal.returns
unfolding sides_within
returns c = yes _ (omega arith)
