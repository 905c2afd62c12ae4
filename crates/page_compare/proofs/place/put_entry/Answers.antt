-- `page_compare::place::put_entry` meets its contract. Assumes nothing.
use mathlib.Core.Path.{refl}
use Rattle.row_lists.proofs.CutLaws.{entry_put}
use Rattle.page_compare.proofs.place.put_entry.Goals as goal

pub returns : goal.returns
returns c = entry_put _ _ _ _ _ c.args.k _ _ _ _ _ _ _ refl c.requires.room c.put_number.ensures c.put_number-2.ensures c.put_number-3.ensures c.put_number-4.ensures c.put_number-5.ensures
