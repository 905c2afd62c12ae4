-- `deeds::pieces::tell_row` meets its contract. Assumes nothing.
use Prim.Native.Nat.{◌-◌, ◌≤◌}
use Rattle.deeds.specs.Tallies.{numbered_tally}
use Rattle.deeds.proofs.RunLaws.{Runs}
use Rattle.deeds.proofs.pieces.tell_row.Given as goal

abbrev pub invariant-loop-c : goal.invariant-loop-c
invariant-loop-c l = Runs l.rule l.t (numbered_tally l.rule l.x.file.now l.x.kind l.x.fill l.x.held l.x.memory.now l.x.p.tile l.start l.c)
