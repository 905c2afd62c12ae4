-- `unpack::rows::next_row` meets its contract. Assumes nothing.
use Rattle.unpack.proofs.RowLaws.{row_short, row_out, row_good}
use native.Mathlib.Omega.{arith}
use Rattle.unpack.proofs.rows.next_row.Goals as goal

pub returns-in_err-pos : goal.returns-in_err-pos
returns-in_err-pos c = rw c.from_residual.ensures (let all_of = row_short _ _ _ _ _ _ _ _ c.read_row.ensures _ _ _ _ c.in_err-pos.was in record { is = all_of.0; few = all_of.1 })

pub returns-then-in_range : goal.returns-then-in_range
returns-then-in_range c = let all_of = row_good _ _ _ _ _ _ _ _ c.read_row.ensures _ _ _ _ _ _ c.in_ok-pos.was c.predict_row.ensures c.in_range.ensures _ c.if-in_range.true c.codes_length-bytes.ensures (omega (arith, c.requires)) (omega (arith, c.requires, c.read_row.auto.row)) in record { is = all_of.0; few = all_of.1 }

pub returns : goal.returns
returns c = let all_of = row_out _ _ _ _ _ _ _ _ c.read_row.ensures _ _ _ _ _ _ c.in_ok-pos.was c.predict_row.ensures c.in_range.ensures c.if-in_range.false in record { is = all_of.0; few = all_of.1 }
