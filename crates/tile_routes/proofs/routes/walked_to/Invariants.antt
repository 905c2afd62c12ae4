-- `cells::routes::walked_to` meets its contract. Assumes nothing.
-- That the measure falls is shown from the record before the cursor, so a wrong next cursor is refused by the invariant, for what it skips.
use Prim.Native.Nat.{◌-◌}
use lib.ListN.{length}
use Rattle.record.proofs.SeekLaws.{Seeking}
use Rattle.tile_routes.specs.Ways.{carries}
use Rattle.tile_routes.proofs.routes.walked_to.Given as goal

abbrev pub invariant-walk : goal.invariant-walk
invariant-walk l = Seeking (carries l.s l.tile) l.s l.at l.c.at

abbrev pub decreases-walk : goal.decreases-walk
decreases-walk l = length l.s - l.c.at
