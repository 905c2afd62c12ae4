-- `rectangles::pieces::fill_piece` meets its contract. Assumes nothing.
use Rattle.blocks.specs.Tables.{Inside}
use Rattle.rectangles.specs.Pieces.{Told}
use Rattle.rectangles.proofs.pieces.fill_piece.Given as goal

abbrev pub invariant-loop-r : goal.invariant-loop-r
invariant-loop-r l = Told l.x.file.now l.x.compressor l.x.a (Inside l.x.p.top l.r l.x.p.left l.x.p.right) l.initial.kinds l.kinds l.initial.bits l.bits
