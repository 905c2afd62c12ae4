-- `fronts::judge::counts_allowed` meets its contract. Assumes nothing.
use native.Mathlib.Omega.{arith}
use Rattle.fronts.proofs.JudgeLaws.{sides_in, tiles_past, elements_past, tile_too_large, counts_fine}
use Rattle.fronts.proofs.judge.counts_allowed.Goals as goal

pub returns-then-tiles-gt-MOST_TILES : goal.returns-then-tiles-gt-MOST_TILES
returns-then-tiles-gt-MOST_TILES c = tiles_past c.args.elements.now _ _ _ _ _ _ c.tiles.ensures (omega arith)

pub returns-then-n-gt-MOST_ELEMENTS : goal.returns-then-n-gt-MOST_ELEMENTS
returns-then-n-gt-MOST_ELEMENTS c = elements_past c.args.elements.now _ _ _ _ _ _ c.tiles.ensures (omega arith) (omega arith)

pub tile_told-requires : goal.tile_told-requires
tile_told-requires c = let s = sides_in _ _ _ _ c.requires.0 c.requires.1 in (omega arith, (omega arith, (s.1.1.1.0, s.1.1.1.1)))

pub returns-then-tile_told-gt-MOST_TILE_BYTES : goal.returns-then-tile_told-gt-MOST_TILE_BYTES
returns-then-tile_told-gt-MOST_TILE_BYTES c = tile_too_large c.args.elements.now _ _ _ _ _ _ c.tiles.ensures (omega arith) (omega arith) _ c.tile_told.ensures (omega arith)

pub returns : goal.returns
returns c = counts_fine c.args.elements.now _ _ _ _ _ _ c.tiles.ensures (omega arith) (omega arith) _ c.tile_told.ensures (omega arith)
