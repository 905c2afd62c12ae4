-- `correct::directories::put_list_cut` meets its contract. Assumes nothing.
use native.Mathlib.Omega.{arith}
use Rattle.correct.proofs.ListLaws.{part_page, free_few}
use Rattle.correct.proofs.directories.put_list_cut.Goals as goal

pub put_counted_cut-requires : goal.put_counted_cut-requires
put_counted_cut-requires c = let e = part_page _ _ c.part_of.ensures.holds in (omega (arith, free_few _ _ _ c.part_of.ensures.holds c.record_count-count.ensures), rw e at c.record_count-count.ensures)
