-- `correct::records::put_free_cut` meets its contract. Assumes nothing.
use native.Mathlib.Omega.{arith}
use Rattle.stores.proofs.JoinLaws.{ran, told}
use Rattle.correct.proofs.RecordLaws.{free_out, free_in}
use Rattle.correct.proofs.records.put_free_cut.Goals as goal

pub returns-then-room-lt12 : goal.returns-then-room-lt12
returns-then-room-lt12 c = let all_of = told (free_out _ _ _ _ _ _ c.difference-zeros.ensures (omega arith)) in record { left = all_of.0; holds = all_of.1 }

pub returns-then-room-zeros : goal.returns-then-room-zeros
returns-then-room-zeros c = let all_of = told (free_out _ _ _ _ _ _ c.difference-zeros.ensures (omega arith)) in record { left = all_of.0; holds = all_of.1 }

pub returns-then-room-zeros-2 : goal.returns-then-room-zeros-2
returns-then-room-zeros-2 c = let all_of = told (free_out _ _ _ _ _ _ c.difference-zeros.ensures (omega arith)) in record { left = all_of.0; holds = all_of.1 }

pub returns : goal.returns
returns c = let all_of = told (free_in _ _ _ _ _ _ _ c.difference-zeros.ensures c.free_sum-sum.ensures (ran (c.put_head_cut-a.ensures.left, c.put_head_cut-a.ensures.holds)) (ran (c.put_zeros_cut-b.ensures.left, c.put_zeros_cut-b.ensures.holds)) (ran (c.put_u32_cut.ensures.left, c.put_u32_cut.ensures.holds)) (omega arith)) in record { left = all_of.0; holds = all_of.1 }
