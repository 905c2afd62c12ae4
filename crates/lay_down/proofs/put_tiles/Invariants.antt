-- `lay_down::put_tiles` meets its contract. Assumes nothing.
use Rattle.lay_down.proofs.TileWriting.{Tiling}
use lib.ListN.{length}
use Prim.Native.Nat.{◌≤◌}
use Rattle.lay_down.proofs.put_tiles.Given as goal

abbrev pub invariant-loop-index : goal.invariant-loop-index
invariant-loop-index l = (l.index-index ≤ length l.indexes) × Tiling l.initial.out l.front l.indexes l.cells l.out l.at l.from l.index-index
