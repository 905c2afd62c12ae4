-- `lay_down::page::file_length` meets its contract. Assumes nothing.
use Rattle.lay_down.proofs.FrontLaws.{front_of_lem, records_small, directory_small}
use native.Mathlib.Omega.{arith}
use Rattle.lay_down.proofs.page.file_length.Goals as goal

pub overflow_add-result : goal.overflow_add-result
overflow_add-result c = let w = front_of_lem _ c.requires.0 in omega (arith, w.file, records_small _ w c.args.k c.requires.1, directory_small _ w, c.directory_start.ensures, c.directory_length.ensures)
