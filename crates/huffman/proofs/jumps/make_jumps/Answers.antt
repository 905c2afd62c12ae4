-- `huffman::jumps::make_jumps` meets its contract. Assumes nothing.
use Rattle.huffman.proofs.JumpLaws.{make_start, make_more, make_end}
use native.Mathlib.Omega.{arith}
use Rattle.huffman.proofs.jumps.make_jumps.Goals as goal

pub loop-j-init : goal.loop-j-init
loop-j-init c = make_start _ _

pub loop-j-preserved : goal.loop-j-preserved
loop-j-preserved c = make_more _ _ _ _ c.loop-j.invariant c.jump_of.ensures (omega arith)

pub returns : goal.returns
returns c = make_end _ _ _ _ c.loop-j.invariant (omega arith) (omega arith)
