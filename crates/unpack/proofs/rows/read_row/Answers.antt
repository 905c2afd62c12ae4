-- `unpack::rows::read_row` meets its contract. Assumes nothing.
use Rattle.unpack.proofs.RowLaws.{fills_start, fills_one, fills_short, fills_same, fills_end}
use Rattle.unpack.proofs.ValueLaws.{fill_part}
use native.Mathlib.Omega.{arith}
use Rattle.unpack.proofs.rows.read_row.Goals as goal

pub loop-i-init : goal.loop-i-init
loop-i-init c = fills_start _ _ _ _ _ _

pub returns-in_err-number : goal.returns-in_err-number
returns-in_err-number c = rw c.from_residual.ensures (fills_short _ _ _ _ _ _ _ _ _ c.loop-i.invariant c.loop-i.auto.row (omega arith) _ (omega arith) c.number_at.ensures c.in_err-number.was)

pub returns-then-number-pos : goal.returns-then-number-pos
returns-then-number-pos c = rw (fill_part c.loop-i.row c.loop-i.i c.in_ok-number.number.x c.fill.new.self (omega arith) (c.fill.ensures.after (λ y e. e))) (fills_same _ _ _ _ _ _ _ _ _ c.loop-i.invariant c.loop-i.auto.row (omega arith) _ _ _ (omega arith) c.number_at.ensures c.in_ok-number.was c.if-number-pos.true)

pub loop-i-preserved : goal.loop-i-preserved
loop-i-preserved c = fills_one _ _ _ _ _ _ _ _ _ c.loop-i.invariant c.loop-i.auto.row (omega arith) _ _ _ (omega arith) c.number_at.ensures c.in_ok-number.was

pub returns : goal.returns
returns c = fills_end _ _ _ _ _ _ _ _ _ c.loop-i.invariant c.loop-i.auto.row (omega arith) (omega arith)
