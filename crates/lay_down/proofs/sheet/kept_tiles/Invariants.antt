-- `lay_down::sheet::kept_tiles` meets its contract. Assumes nothing.
use Prim.Native.Nat.{◌≤◌}
use Rattle.lay_down.proofs.SheetLaws.{Keeping}
use Rattle.lay_down.proofs.sheet.kept_tiles.Given as goal

abbrev pub invariant-loop-tile : goal.invariant-loop-tile
invariant-loop-tile l = (l.tile ≤ l.count) × Keeping l.front l.sheet l.list l.n l.tile
