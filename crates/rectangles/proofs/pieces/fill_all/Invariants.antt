-- `rectangles::pieces::fill_all` meets its contract. Assumes nothing.
use mathlib.Core.Path.{◌≡◌}
use lib.ListN.{length}
use Rattle.blocks.specs.Walks.{Passed, walk_left}
use Rattle.store.specs.Face.{Walks}
use Rattle.rectangles.specs.Pieces.{Told}
use Rattle.rectangles.proofs.pieces.fill_all.Given as goal

abbrev pub invariant-loop-p : goal.invariant-loop-p
invariant-loop-p l = (length l.memory ≡ length l.initial.memory) × (Walks l.file l.a 0 l.p × Told l.file l.compressor l.a (Passed 0 l.a.columns l.p.top l.p.bottom l.p.left) l.initial.kinds l.kinds l.initial.bits l.bits)

abbrev pub decreases-loop-p : goal.decreases-loop-p
decreases-loop-p l = walk_left l.a.rows l.a.columns l.p.top l.p.left
