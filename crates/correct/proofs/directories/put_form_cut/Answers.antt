-- `correct::directories::put_form_cut` meets its contract. Assumes nothing.
use mathlib.Core.Path.{sym}
use Rattle.written_records.proofs.DirectoryLaws.{form_length}
use Rattle.stores.proofs.WriteLaws.{apart_all, same_left, same_holds}
use Rattle.correct.proofs.directories.put_form_cut.Goals as goal

pub returns : goal.returns
returns c = let e = apart_all _ _ (sym (form_length _ _)) c.put_form.ensures in record { left = same_left _ _ _ e c.put_cut.ensures.left; holds = same_holds _ _ _ _ e c.put_cut.ensures.holds }
