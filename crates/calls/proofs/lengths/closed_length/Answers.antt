-- `calls::lengths::closed_length` meets its contract. Assumes nothing.
use native.Mathlib.Omega.{arith}
use Rattle.calls.proofs.ReadLaws.{worked_of}
use Rattle.calls.proofs.LengthLaws.{closed_few, least_near, closed_none, closed_more_lem}
use Rattle.calls.proofs.lengths.closed_length.Goals as goal

pub returns-then-count-eq0 : goal.returns-then-count-eq0
returns-then-count-eq0 c = closed_none _ _ c.record_count-count.ensures (omega arith)

pub overflow_mul-count : goal.overflow_mul-count
overflow_mul-count c = omega (arith, closed_few _ _ c.requires c.record_count-count.ensures)

pub overflow_add-count : goal.overflow_add-count
overflow_add-count c = omega (arith, closed_few _ _ c.requires c.record_count-count.ensures)

pub overflow_cast-count : goal.overflow_cast-count
overflow_cast-count c = omega (arith, closed_few _ _ c.requires c.record_count-count.ensures)

pub overflow_add-result : goal.overflow_add-result
overflow_add-result c = omega (arith, closed_few _ _ c.requires c.record_count-count.ensures, least_near _ _ c.least_length.ensures, (worked_of _ c.requires).file)

pub returns : goal.returns
returns c = closed_more_lem _ _ _ c.record_count-count.ensures (λ z. omega arith) c.least_length.ensures
