-- `rectangles::pieces::look_up_row` meets its contract. Assumes nothing.
use Prim.Native.Nat.{◌+◌, ◌-◌, ◌≤◌}
use Rattle.blocks.specs.Tables.{Inside}
use Rattle.rectangles.specs.Pieces.{Told}
use Rattle.rectangles.proofs.pieces.look_up_row.Given as goal

abbrev pub invariant-loop-c : goal.invariant-loop-c
invariant-loop-c l = Told l.x.file.now l.x.compressor l.x.a (Inside l.r (l.r + 1) l.x.p.left l.c) l.initial.kinds l.kinds l.initial.bits l.bits
