-- `huffman::by_fours` meets its contract. Assumes nothing.
use Rattle.huffman.proofs.JumpLaws.{octet_near}
use Rattle.huffman.proofs.NextLaws.{four_short, four_none, four_symbol, four_on}
use mathlib.Core.Path.{refl}
use native.Mathlib.Omega.{arith}
use Rattle.huffman.proofs.by_fours.Goals as goal

pub loop-start-init : goal.loop-start-init
loop-start-init c = (omega arith, refl)

pub returns-then-octet-eq256 : goal.returns-then-octet-eq256
returns-then-octet-eq256 c = four_short _ _ _ _ _ _ _ c.loop-start.invariant.1 _ c.octet_at-octet.ensures.is _ c.by_bits.ensures (omega arith)

pub returns-then-jumps-j : goal.returns-then-jumps-j
returns-then-jumps-j c = four_none _ _ _ _ _ _ _ c.loop-start.invariant.1 _ c.octet_at-octet.ensures.is (λ q. absurd (omega arith)) _ c.by_bits-then-jumps-j.ensures (omega arith)

pub symbol_of-requires : goal.symbol_of-requires
symbol_of-requires c = omega (arith, octet_near _ _ _ c.octet_at-octet.ensures.is (λ q. absurd (omega arith)))

pub returns-then-jump-ge512 : goal.returns-then-jump-ge512
returns-then-jump-ge512 c = four_symbol _ _ _ _ _ _ _ c.loop-start.invariant.1 _ c.octet_at-octet.ensures.is (λ q. absurd (omega arith)) (omega arith) _ c.symbol_of.ensures (omega arith)

pub overflow_add-pos : goal.overflow_add-pos
overflow_add-pos c = omega (arith, octet_near _ _ _ c.octet_at-octet.ensures.is (λ q. absurd (omega arith)))

pub loop-start-smaller : goal.loop-start-smaller
loop-start-smaller c = omega (arith, octet_near _ _ _ c.octet_at-octet.ensures.is (λ q. absurd (omega arith)))

pub loop-start-preserved : goal.loop-start-preserved
loop-start-preserved c = (omega arith, four_on _ _ _ _ _ _ _ c.loop-start.invariant.1 _ c.octet_at-octet.ensures.is (λ q. absurd (omega arith)) (omega arith) (omega arith))
