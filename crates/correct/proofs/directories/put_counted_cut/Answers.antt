-- `correct::directories::put_counted_cut` meets its contract. Assumes nothing.
use native.Mathlib.Omega.{arith}
use Rattle.stores.proofs.JoinLaws.{ran, told}
use Rattle.correct.proofs.RecordLaws.{record_room}
use Rattle.correct.proofs.ListLaws.{list_out, list_fits_lem, list_in}
use Rattle.correct.proofs.directories.put_counted_cut.Goals as goal

pub returns-then-room-long : goal.returns-then-room-long
returns-then-room-long c = let all_of = told (list_out _ _ _ _ _ _ c.requires.1 c.record_length-long.ensures (omega arith)) in record { left = all_of.0; holds = all_of.1 }

pub returns-then-room-long-2 : goal.returns-then-room-long-2
returns-then-room-long-2 c = let all_of = told (list_out _ _ _ _ _ _ c.requires.1 c.record_length-long.ensures (omega arith)) in record { left = all_of.0; holds = all_of.1 }

pub put_entries_cut-c-requires : goal.put_entries_cut-c-requires
put_entries_cut-c-requires c = list_fits_lem _ _ _ 0 _ _ c.requires.1 c.record_length-long.ensures (ran (c.put_head_cut-a.ensures.left, c.put_head_cut-a.ensures.holds)) (ran (c.put_u32_cut-b.ensures.left, c.put_u32_cut-b.ensures.holds)) (omega arith)

pub overflow_sub-long : goal.overflow_sub-long
overflow_sub-long c = omega (arith, record_room _ _ c.record_length-long.ensures)

pub overflow_sub-long-2 : goal.overflow_sub-long-2
overflow_sub-long-2 c = omega (arith, record_room _ _ c.record_length-long.ensures)

pub returns : goal.returns
returns c = let all_of = told (list_in _ _ _ _ _ _ c.requires.1 c.record_length-long.ensures (ran (c.put_head_cut-a.ensures.left, c.put_head_cut-a.ensures.holds)) (ran (c.put_u32_cut-b.ensures.left, c.put_u32_cut-b.ensures.holds)) (omega arith) (ran (c.put_entries_cut-c.ensures.left, c.put_entries_cut-c.ensures.holds)) (ran (c.put_zeros_cut-d.ensures.left, c.put_zeros_cut-d.ensures.holds)) (ran (c.seal_cut.ensures.left, c.seal_cut.ensures.holds))) in record { left = all_of.0; holds = all_of.1 }
