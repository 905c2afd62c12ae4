-- `huffman::next_symbol` meets its contract. Assumes nothing.
use Rattle.huffman.proofs.JumpLaws.{octet_near}
use Rattle.huffman.proofs.NextLaws.{next_short, next_none, next_leaf, next_on}
use native.Mathlib.Omega.{arith}
use Rattle.huffman.proofs.next_symbol.Goals as goal

pub returns-then-first-eq256 : goal.returns-then-first-eq256
returns-then-first-eq256 c = next_short _ _ _ _ _ c.octet_at-first.ensures.is _ c.by_bits.ensures (omega arith)

pub returns-then-jumps-first : goal.returns-then-jumps-first
returns-then-jumps-first c = next_none _ _ _ _ _ c.octet_at-first.ensures.is _ (λ q. absurd (omega arith)) c.by_bits-then-jumps-first.ensures (omega arith)

pub symbol_of-requires : goal.symbol_of-requires
symbol_of-requires c = omega (arith, octet_near _ _ _ c.octet_at-first.ensures.is (λ q. absurd (omega arith)))

pub returns-then-jump-ge512 : goal.returns-then-jump-ge512
returns-then-jump-ge512 c = next_leaf _ _ _ _ _ c.octet_at-first.ensures.is _ (λ q. absurd (omega arith)) (omega arith) c.symbol_of.ensures (omega arith)

pub overflow_add-from : goal.overflow_add-from
overflow_add-from c = omega (arith, octet_near _ _ _ c.octet_at-first.ensures.is (λ q. absurd (omega arith)))

pub returns : goal.returns
returns c = next_on _ _ _ _ _ c.octet_at-first.ensures.is _ (λ q. absurd (omega arith)) (omega arith) c.by_fours.ensures (omega arith)
