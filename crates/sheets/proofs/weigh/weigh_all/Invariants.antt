-- `sheets::weigh::weigh_all` meets its contract. Assumes nothing.
use mathlib.Core.Path.{◌≡◌}
use lib.ListN.{length}
use Rattle.blocks.specs.Walks.{walk_left}
use Rattle.store.specs.Face.{Walks}
use Rattle.sheets.specs.Rows.{KnownBy, grid_fault}
use Rattle.sheets.proofs.WeighLaws.{heavy_passed}
use Rattle.sheets.proofs.weigh.weigh_all.Given as goal

abbrev pub invariant-loop-p : goal.invariant-loop-p
invariant-loop-p l = (length l.memory ≡ length l.initial.memory) × (Walks l.file l.a 0 l.p × (KnownBy l.file l.x × (l.w ≡ heavy_passed l.a.rows l.a.columns (grid_fault l.file l.x.compressor) l.p.top l.p.bottom l.p.left)))

abbrev pub decreases-loop-p : goal.decreases-loop-p
decreases-loop-p l = walk_left l.a.rows l.a.columns l.p.top l.p.left
