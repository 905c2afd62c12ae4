-- `fronts::sides::Sides::are_allowed` meets its contract. Assumes nothing.
use native.Mathlib.Omega.{arith}
use Rattle.wire.proofs.TestLaws.{no, yes}
use Rattle.fronts.specs.Judged.{sides_allowed}
use Rattle.fronts.proofs.sides.Sides.are_allowed.Goals as goal

pub returns-then-self-gt-MOST_GRID_SIDE : goal.returns-then-self-gt-MOST_GRID_SIDE
unfolding sides_allowed
returns-then-self-gt-MOST_GRID_SIDE c = no _ (λ h. omega arith)

pub returns-then-self-gt-MOST_GRID_SIDE-2 : goal.returns-then-self-gt-MOST_GRID_SIDE-2
unfolding sides_allowed
returns-then-self-gt-MOST_GRID_SIDE-2 c = no _ (λ h. omega arith)

pub returns-then-self-gt-MOST_TILE_SIDE : goal.returns-then-self-gt-MOST_TILE_SIDE
unfolding sides_allowed
returns-then-self-gt-MOST_TILE_SIDE c = no _ (λ h. omega arith)

pub returns-then-self-gt-MOST_TILE_SIDE-2 : goal.returns-then-self-gt-MOST_TILE_SIDE-2
unfolding sides_allowed
returns-then-self-gt-MOST_TILE_SIDE-2 c = no _ (λ h. omega arith)

pub returns : goal.returns
unfolding sides_allowed
returns c = yes _ (omega arith)
