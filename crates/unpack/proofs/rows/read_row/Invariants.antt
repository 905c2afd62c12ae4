-- `unpack::rows::read_row` meets its contract. Assumes nothing.
use Rattle.unpack.proofs.RowLaws.{Fills}
use Rattle.unpack.proofs.rows.read_row.Given as goal

abbrev pub invariant-loop-i : goal.invariant-loop-i
invariant-loop-i l = Fills l.c l.nodes l.jumps l.start l.from l.initial.row l.row l.i l.pos
