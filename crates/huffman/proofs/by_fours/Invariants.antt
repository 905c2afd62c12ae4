-- `huffman::by_fours` meets its contract. Assumes nothing.
use Rattle.huffman.specs.Bits.{bits_in}
use Rattle.huffman.specs.Jumps.{by_fours}
use mathlib.Core.Path.{◌≡◌}
use Prim.Native.Nat.{◌-◌, ◌<◌}
use Rattle.huffman.proofs.by_fours.Given as goal

abbrev pub invariant-loop-start : goal.invariant-loop-start
invariant-loop-start l = (l.i < 512) × (by_fours l.c l.nodes l.jumps l.i l.pos ≡ by_fours l.c l.nodes l.jumps l.start l.from)

abbrev pub decreases-loop-start : goal.decreases-loop-start
decreases-loop-start l = bits_in - l.pos
