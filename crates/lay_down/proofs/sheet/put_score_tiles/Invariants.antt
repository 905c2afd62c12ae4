-- `lay_down::sheet::put_score_tiles` meets its contract. Assumes nothing.
use Prim.Native.Nat.{◌*◌, ◌≤◌}
use lib.ListN.{length}
use Rattle.geometry.specs.Sizes.{tile_bytes}
use Rattle.lay_down.specs.Sheet.{sheet_cells}
use Rattle.lay_down.proofs.TileWriting.{Tiling}
use Rattle.lay_down.proofs.sheet.put_score_tiles.Given as goal

abbrev pub invariant-loop-tile : goal.invariant-loop-tile
invariant-loop-tile l = (l.tile-index ≤ length l.kept) × Tiling l.initial.out l.front l.kept (sheet_cells l.front l.sheet) l.out l.at (l.tile-index * tile_bytes l.front) l.tile-index
