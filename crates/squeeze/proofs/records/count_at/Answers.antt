-- `squeeze::records::count_at` meets its contract. Assumes nothing.
use native.Mathlib.Omega.{arith}
use Rattle.geometry.proofs.TileLaws.{product}
use Rattle.squeeze.proofs.DirectoryLaws.{count_is}
use Rattle.squeeze.proofs.records.count_at.Goals as goal

pub overflow_mul-result : goal.overflow_mul-result
overflow_mul-result c = let k = product c.listed_rows-rows.result c.listed_columns-columns.result (omega arith) (omega arith) in record { fits = omega arith }

pub returns : goal.returns
returns c = count_is _ _ c.listed_rows-rows.ensures c.listed_columns-columns.ensures
