-- `correct::tiles::put_cells_cut` meets its contract. Assumes nothing.
use Rattle.correct.proofs.CellLaws.{Over}
use Rattle.correct.proofs.tiles.put_cells_cut.Given as goal

abbrev pub invariant-loop-e : goal.invariant-loop-e
invariant-loop-e l = Over l.k l.initial.out l.x l.sizes l.cells l.e l.p l.from l.left l.out
