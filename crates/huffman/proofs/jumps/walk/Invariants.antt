-- `huffman::jumps::walk` meets its contract. Assumes nothing.
use Rattle.huffman.specs.Jumps.{walked}
use Prim.Native.Nat.{◌+◌, ◌-◌, ◌≤◌}
use mathlib.Core.Path.{◌≡◌}
use Rattle.huffman.proofs.jumps.walk.Given as goal

abbrev pub invariant-loop-u : goal.invariant-loop-u
invariant-loop-u l = (l.i ≤ 4294967040 + l.u) × (walked l.nodes (l.k - l.u) l.u l.i l.v ≡ walked l.nodes l.k 0 l.from l.bits)
