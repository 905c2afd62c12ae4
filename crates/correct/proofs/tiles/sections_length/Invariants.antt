-- `correct::tiles::sections_length` meets its contract. Assumes nothing.
use Rattle.correct.proofs.TileLaws.{Measured}
use Rattle.correct.proofs.tiles.sections_length.Given as goal

abbrev pub invariant-loop-e : goal.invariant-loop-e
invariant-loop-e l = Measured l.sizes l.cells l.e l.from l.sum
