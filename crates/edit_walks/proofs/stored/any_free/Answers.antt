-- `edit_walks::stored::any_free` meets its contract. Assumes nothing.
use native.Mathlib.Omega.{arith}
use Rattle.edit_walks.proofs.StoredLaws.{free_no, free_yes}
use Rattle.edit_walks.proofs.stored.any_free.Goals as goal

pub returns-then-record_count-eq0 : goal.returns-then-record_count-eq0
returns-then-record_count-eq0 c = free_no _ _ c.record_count.ensures (omega arith)

pub returns : goal.returns
returns c = free_yes _ _ c.record_count.ensures (λ z. omega arith)
