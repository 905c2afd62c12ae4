-- `correct::directories::put_directory_cut` meets its contract. Assumes nothing.
use native.Mathlib.Omega.{arith}
use Rattle.stores.proofs.JoinLaws.{ran, told, ran_room}
use Rattle.correct.proofs.RecordLaws.{record_room}
use Rattle.correct.proofs.DirectoryLaws.{directory_out, directory_in}
use Rattle.correct.proofs.directories.put_directory_cut.Goals as goal

pub returns-then-room-long : goal.returns-then-room-long
returns-then-room-long c = let all_of = told (directory_out _ _ _ _ _ _ _ _ c.record_length-long.ensures (omega arith)) in record { left = all_of.0; holds = all_of.1 }

pub returns-then-room-long-2 : goal.returns-then-room-long-2
returns-then-room-long-2 c = let all_of = told (directory_out _ _ _ _ _ _ _ _ c.record_length-long.ensures (omega arith)) in record { left = all_of.0; holds = all_of.1 }

pub put_references_cut-c-requires : goal.put_references_cut-c-requires
put_references_cut-c-requires c = (omega arith, (omega (arith, record_room _ _ c.record_length-long.ensures, ran_room (ran (c.put_form_cut-b.ensures.left, c.put_form_cut-b.ensures.holds)), ran_room (ran (c.put_head_cut-a.ensures.left, c.put_head_cut-a.ensures.holds))), omega arith))

pub overflow_sub-long : goal.overflow_sub-long
overflow_sub-long c = omega (arith, record_room _ _ c.record_length-long.ensures)

pub overflow_sub-long-2 : goal.overflow_sub-long-2
overflow_sub-long-2 c = omega (arith, record_room _ _ c.record_length-long.ensures)

pub returns : goal.returns
returns c = let all_of = told (directory_in _ _ _ _ _ _ _ _ c.record_length-long.ensures (ran (c.put_head_cut-a.ensures.left, c.put_head_cut-a.ensures.holds)) (ran (c.put_form_cut-b.ensures.left, c.put_form_cut-b.ensures.holds)) (ran (c.put_references_cut-c.ensures.left, c.put_references_cut-c.ensures.holds)) (ran (c.put_zeros_cut-d.ensures.left, c.put_zeros_cut-d.ensures.holds)) (ran (c.seal_cut.ensures.left, c.seal_cut.ensures.holds)) (omega arith)) in record { left = all_of.0; holds = all_of.1 }
