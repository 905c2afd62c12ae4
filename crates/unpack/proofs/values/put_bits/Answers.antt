-- `unpack::values::put_bits` meets its contract. Assumes nothing.
use Rattle.unpack.proofs.ValueLaws.{put_out, put_begun, put_next, put_done}
use native.Mathlib.Omega.{arith}
use Rattle.unpack.proofs.values.put_bits.Goals as goal

pub returns-then-out-row : goal.returns-then-out-row
returns-then-out-row c = put_out _ _ _ _ (omega arith)

pub returns-then-out-row-2 : goal.returns-then-out-row-2
returns-then-out-row-2 c = put_out _ _ _ _ (omega arith)

pub loop-i-init : goal.loop-i-init
loop-i-init c = put_begun _ _ _ _

pub loop-i-preserved : goal.loop-i-preserved
loop-i-preserved c = put_next _ _ _ _ _ _ _ c.loop-i.invariant (omega arith) (omega arith) c.cell_bits.ensures

pub returns : goal.returns
returns c = put_done _ _ _ _ _ _ c.loop-i.invariant (omega arith) (omega arith)
