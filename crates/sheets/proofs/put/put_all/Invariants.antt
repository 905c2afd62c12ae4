-- `sheets::put::put_all` meets its contract. Assumes nothing.
use Prim.Native.Nat.{◌*◌}
use mathlib.Core.Path.{◌≡◌}
use lib.ListN.{length}
use Rattle.blocks.specs.Tables.{Filled}
use Rattle.blocks.specs.Walks.{Passed, walk_left}
use Rattle.store.specs.Face.{Walks}
use Rattle.sheets.specs.Rows.{KnownBy, score_byte}
use Rattle.sheets.proofs.put.put_all.Given as goal

abbrev pub invariant-loop-p : goal.invariant-loop-p
invariant-loop-p l = (length l.memory ≡ length l.initial.memory) × (Walks l.file l.a 0 l.p × (KnownBy l.file l.x × Filled (2 * l.a.columns) (score_byte l.file l.x.compressor) (Passed 0 (2 * l.a.columns) l.p.top l.p.bottom (2 * l.p.left)) l.initial.out l.out))

abbrev pub decreases-loop-p : goal.decreases-loop-p
decreases-loop-p l = walk_left l.a.rows l.a.columns l.p.top l.p.left
