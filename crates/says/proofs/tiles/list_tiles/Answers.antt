-- `says::tiles::list_tiles` meets its contract. Assumes nothing.
use native.Mathlib.Omega.{arith}
use mathlib.Core.Path.{refl}
use Rattle.page_check.proofs.AcceptedLaws.{accepted_obeys}
use Rattle.page_check.proofs.GivenLaws.{obeys_range}
use Rattle.says.proofs.ItemLaws.{seen_if, long_if}
use Rattle.says.proofs.TileLaws.{tiles_begin, tiles_step, tiles_end, tiles_written}
use Rattle.says.proofs.tiles.list_tiles.Goals as goal

pub overflow_cast-n : goal.overflow_cast-n
overflow_cast-n c = record { fits = omega (arith, c.tile_count-n.ensures, (obeys_range _ _ (accepted_obeys _ c.requires)).tiles) }

pub loop-i-init : goal.loop-i-init
loop-i-init c = (omega arith, omega (arith, c.tile_count-n.ensures, (obeys_range _ _ (accepted_obeys _ c.requires)).tiles), c.tile_count-n.ensures, omega arith, refl, tiles_begin _ _ _)

pub offer_tile-p-requires : goal.offer_tile-p-requires
offer_tile-p-requires c = let i = c.loop-i.invariant in (i.5.fits, (i.5.fewer, omega (arith, i.1, i.3)))

pub loop-i-preserved : goal.loop-i-preserved
loop-i-preserved c = let i = c.loop-i.invariant in (omega arith, i.1, i.2, seen_if _ _ _ _ _ _ c.offer_tile-p.ensures.is i.3, long_if _ _ _ _ _ _ c.offer_tile-p.ensures.numbers i.4, tiles_step _ _ _ _ _ _ _ i.5 i.2 _ _ (omega arith) c.offer_tile-p.ensures.is c.offer_tile-p.ensures.numbers)

pub shape_of-numbers : goal.shape_of-numbers
shape_of-numbers c = c.loop-i.invariant.4

pub returns : goal.returns
returns c = let i = c.loop-i.invariant in record { is = tiles_end _ _ _ _ _ _ _ i.5 i.2 (omega arith); numbers = tiles_written _ _ _ _ _ _ _ i.5 i.2 (omega arith) }
