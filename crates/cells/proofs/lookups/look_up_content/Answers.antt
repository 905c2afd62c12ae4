-- `cells::lookups::look_up_content` meets its contract. Assumes nothing.
use Rattle.std.specs.Prelude.{Err}
use native.Mathlib.Omega.{arith}
use mathlib.Core.Path.{refl, sym, ◌∙◌}
use Rattle.cells.specs.inner.Lookups.{looked_tile}
use Rattle.tile_routes.specs.Ways.{found_by}
use Rattle.cells.proofs.CellLaws.{tiles_mean, sides_mean, count_small}
use Rattle.cells.proofs.ReadLaws.{guarded_outside, guarded_unlawful, tile_looked}
use Rattle.cells.proofs.lookups.look_up_content.Goals as goal

pub overflow_cast-tile : goal.overflow_cast-tile
unfolding looked_tile
overflow_cast-tile c = let t = tiles_mean _ _ _ (sym c.in_tiles.ensures.is ∙ c.if-in_tiles.true) in record { fits = omega (arith, t.0, count_small _ (sides_mean _ (sym c.sides_lawful.ensures ∙ c.if-sides_lawful.true))) }

pub overflow_cast-e : goal.overflow_cast-e
unfolding looked_tile
overflow_cast-e c = record { fits = omega (arith, c.in_tiles.ensures.small c.if-in_tiles.true) }

pub content_reached-requires : goal.content_reached-requires
unfolding looked_tile
content_reached-requires c = sym c.sides_lawful.ensures ∙ c.if-sides_lawful.true

pub returns-then-sides_lawful : goal.returns-then-sides_lawful
unfolding looked_tile
returns-then-sides_lawful c = tile_looked _ _ _ c.sides_lawful.ensures c.if-in_tiles.true c.if-sides_lawful.true Err _ (found_by _ _) _ _ c.in_tiles.ensures.is _ _ _ refl c.found_by-found.ensures c.content_reached.ensures

pub returns-then-in_tiles : goal.returns-then-in_tiles
unfolding looked_tile
returns-then-in_tiles c = guarded_unlawful Err _ _ _ c.in_tiles.ensures.is _ _ c.sides_lawful.ensures c.if-in_tiles.true c.if-sides_lawful.false

pub returns : goal.returns
unfolding looked_tile
returns c = guarded_outside Err _ _ _ c.in_tiles.ensures.is _ c.if-in_tiles.false
