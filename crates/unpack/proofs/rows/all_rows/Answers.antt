-- `unpack::rows::all_rows` meets its contract. Assumes nothing.
use lib.Seq.{length-take-le}
use lib.ListN.{replicate}
use mathlib.Core.Path.{sym}
use native.Mathlib.Omega.{arith}
use Rattle.unpack.proofs.rows.all_rows.Goals as goal

pub slice_bounds-rows_with-end : goal.slice_bounds-rows_with-end
slice_bounds-rows_with-end c = sym (length-take-le _ (replicate 8432 0) (omega arith))
