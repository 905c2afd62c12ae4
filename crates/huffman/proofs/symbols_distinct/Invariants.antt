-- `huffman::symbols_distinct` meets its contract. Assumes nothing.
use Rattle.huffman.proofs.SymbolLaws.{Passed}
use lib.ListN.{length}
use mathlib.Core.Path.{◌≡◌}
use Rattle.huffman.proofs.symbols_distinct.Given as goal

abbrev pub invariant-loop-i : goal.invariant-loop-i
invariant-loop-i l = (length l.seen ≡ 256) × Passed l.nodes l.n l.seen l.i
