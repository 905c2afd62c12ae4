-- `unpack::reading::number_at` meets its contract. Assumes nothing.
use Rattle.m32.specs.declared.Step.TheVariants.{More}
use Rattle.unpack.proofs.NumberLaws.{Coming, weight}
use Rattle.unpack.proofs.reading.number_at.Given as goal

abbrev pub invariant-loop-symbol : goal.invariant-loop-symbol
invariant-loop-symbol l = Coming l.c l.nodes l.jumps l.from (More l.part) l.at

abbrev pub decreases-loop-symbol : goal.decreases-loop-symbol
decreases-loop-symbol l = weight (More l.part)
