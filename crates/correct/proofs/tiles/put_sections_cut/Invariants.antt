-- `correct::tiles::put_sections_cut` meets its contract. Assumes nothing.
use Rattle.correct.proofs.TileLaws.{Putting}
use Rattle.correct.proofs.tiles.put_sections_cut.Given as goal

abbrev pub invariant-loop-e : goal.invariant-loop-e
invariant-loop-e l = Putting l.k l.initial.out l.at l.sizes l.cells l.e l.p l.from l.left l.out
