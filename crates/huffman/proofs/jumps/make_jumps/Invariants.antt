-- `huffman::jumps::make_jumps` meets its contract. Assumes nothing.
use Rattle.huffman.proofs.JumpLaws.{Making}
use Rattle.huffman.proofs.jumps.make_jumps.Given as goal

abbrev pub invariant-loop-j : goal.invariant-loop-j
invariant-loop-j l = Making l.nodes l.jumps l.j
