-- `cells::lookups::look_up_keeping` meets its contract. Assumes nothing.
use Rattle.std.specs.Prelude.{Err}
use native.Mathlib.Omega.{arith}
use mathlib.Core.Path.{refl, sym, ◌∙◌}
use Rattle.answer.specs.declared.Held.TheVariants as held
use Rattle.cells.specs.inner.Lookups.{looked_tile}
use Rattle.tile_routes.specs.Ways.{found_by}
use Rattle.cells.proofs.CellLaws.{tiles_mean, sides_mean, count_small}
use Rattle.cells.proofs.HeldLaws.{refused_said}
use Rattle.cells.proofs.ReadLaws.{guarded_outside, guarded_unlawful, tile_looked}
use Rattle.cells.proofs.lookups.look_up_keeping.Goals as goal

pub overflow_cast-tile : goal.overflow_cast-tile
unfolding looked_tile
overflow_cast-tile c = let t = tiles_mean _ _ _ (sym c.in_tiles.ensures.is ∙ c.if-in_tiles.true) in record { fits = omega (arith, t.0, count_small _ (sides_mean _ (sym c.sides_lawful.ensures ∙ c.if-sides_lawful.true))) }

pub overflow_cast-e : goal.overflow_cast-e
unfolding looked_tile
overflow_cast-e c = record { fits = omega (arith, c.in_tiles.ensures.small c.if-in_tiles.true) }

pub returns-then-sides_lawful-clause-is : goal.returns-then-sides_lawful-clause-is
unfolding looked_tile
returns-then-sides_lawful-clause-is c = tile_looked _ _ _ c.sides_lawful.ensures c.if-in_tiles.true c.if-sides_lawful.true Err _ (found_by _ _) _ _ c.in_tiles.ensures.is _ _ _ refl c.found_by-found.ensures c.hold_reached.ensures.is

pub returns-then-sides_lawful-clause-holds : goal.returns-then-sides_lawful-clause-holds
unfolding looked_tile
returns-then-sides_lawful-clause-holds c = c.hold_reached.ensures.holds

pub returns-then-in_tiles : goal.returns-then-in_tiles
unfolding looked_tile
returns-then-in_tiles c = let all_of = refused_said _ _ _ _ (guarded_unlawful Err _ _ _ c.in_tiles.ensures.is _ _ c.sides_lawful.ensures c.if-in_tiles.true c.if-sides_lawful.false) in record { is = all_of.0; holds = all_of.1 }

pub returns : goal.returns
unfolding looked_tile
returns c = let all_of = refused_said _ _ _ _ (guarded_outside Err _ _ _ c.in_tiles.ensures.is _ c.if-in_tiles.false) in record { is = all_of.0; holds = all_of.1 }
