-- `correct::directories::put_entry_cut` meets its contract. Assumes nothing.
use mathlib.Core.Path.{refl}
use Rattle.stores.proofs.JoinLaws.{ran, told}
use Rattle.correct.proofs.ListLaws.{entry_stored}
use Rattle.correct.proofs.directories.put_entry_cut.Goals as goal

pub returns : goal.returns
returns c = let all_of = told (entry_stored _ _ _ _ refl (ran (c.put_u64_cut-a.ensures.left, c.put_u64_cut-a.ensures.holds)) (ran (c.put_u32_cut.ensures.left, c.put_u32_cut.ensures.holds)) c.requires) in record { left = all_of.0; holds = all_of.1 }
