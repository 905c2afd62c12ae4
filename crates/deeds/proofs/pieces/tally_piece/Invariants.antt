-- `deeds::pieces::tally_piece` meets its contract. Assumes nothing.
use mathlib.Core.Path.{◌≡◌}
use Rattle.deeds.specs.Tallies.{tally_in, cells_held}
use Rattle.deeds.proofs.pieces.tally_piece.Given as goal

abbrev pub invariant-loop-r : goal.invariant-loop-r
invariant-loop-r l = l.t ≡ tally_in l.rule l.x.p.top l.r l.x.p.left l.x.p.right (cells_held l.x)
