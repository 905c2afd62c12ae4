-- `says::tiles::list_tiles` meets its contract. Assumes nothing.
use Prim.Native.Nat.{◌-◌, ◌≤◌}
use mathlib.Core.Path.{◌≡◌}
use lib.ListN.{length}
use Rattle.geometry.specs.Tiles.{tile_count}
use Rattle.says.proofs.TileLaws.{Tiles}
use Rattle.says.proofs.tiles.list_tiles.Given as goal

abbrev pub invariant-loop-i : goal.invariant-loop-i
invariant-loop-i l =
    (l.i ≤ l.n) × (l.n ≤ 65536) × (l.n ≡ tile_count l.s) × (l.p.seen ≤ l.i) × (length l.numbers ≡ length l.initial.numbers) × Tiles l.s l.from l.initial.numbers l.p l.numbers l.i

abbrev pub decreases-loop-i : goal.decreases-loop-i
decreases-loop-i l = l.n - l.i
