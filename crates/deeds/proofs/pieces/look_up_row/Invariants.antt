-- `deeds::pieces::look_up_row` meets its contract. Assumes nothing.
use Prim.Native.Nat.{◌+◌, ◌-◌, ◌≤◌}
use Rattle.deeds.specs.Tallies.{tally_in, cells_held}
use Rattle.deeds.proofs.RunLaws.{Runs}
use Rattle.deeds.proofs.pieces.look_up_row.Given as goal

abbrev pub invariant-loop-c : goal.invariant-loop-c
invariant-loop-c l = Runs l.rule l.t (tally_in l.rule l.r (l.r + 1) l.x.p.left l.c (cells_held l.x))
