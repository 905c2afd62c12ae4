-- `gvrs_c::held_count` meets its contract. Assumes nothing.
use Rattle.answer.proofs.VerdictLaws.{arm_of}
use native.Mathlib.Omega.{arith}
use mathlib.Core.Path.{refl, ap₂}
use Prim.Native.Nat.{◌*◌}
use Rattle.gvrs_c.proofs.ReportLaws.{counted, small_product}
use Rattle.gvrs_c.proofs.held_count.Goals as goal

pub overflow_mul-result : goal.overflow_mul-result
overflow_mul-result c = record { fits = small_product _ _ (omega arith) (omega arith) }

pub overflow_mul-result-in-Unpacked : goal.overflow_mul-result-in-Unpacked
overflow_mul-result-in-Unpacked c = record { fits = small_product _ _ (omega arith) (omega arith) }

pub returns-in-Stored : goal.returns-in-Stored
returns-in-Stored c = counted _ _ _ _ (arm_of c.in-Ok.is c.in-Stored.is) (ap₂ ◌*◌ c.tile_rows.ensures c.tile_columns.ensures)

pub returns-in-Unpacked : goal.returns-in-Unpacked
returns-in-Unpacked c = counted _ _ _ _ (arm_of c.in-Ok.is c.in-Unpacked.is) (ap₂ ◌*◌ c.tile_rows-in-Unpacked.ensures c.tile_columns-in-Unpacked.ensures)

pub returns-in-Absent : goal.returns-in-Absent
returns-in-Absent c = counted _ _ _ _ (arm_of c.in-Ok.is c.in-Absent.is) refl

pub returns-in-Alone : goal.returns-in-Alone
returns-in-Alone c = counted _ _ _ _ (arm_of c.in-Ok.is c.in-Alone.is) refl

pub returns-in-Err : goal.returns-in-Err
returns-in-Err c = counted _ _ _ _ c.in-Err.is refl
