-- `correct::tiles::put_tile_cut` meets its contract. Assumes nothing.
use native.Mathlib.Omega.{arith}
use Rattle.stores.proofs.JoinLaws.{ran, told, ran_room}
use Rattle.correct.proofs.RecordLaws.{record_room}
use Rattle.correct.proofs.TileLaws.{tile_out, tile_in_lem}
use Rattle.correct.proofs.tiles.put_tile_cut.Goals as goal

pub returns-then-room-n : goal.returns-then-room-n
returns-then-room-n c = let all_of = told (tile_out _ _ _ _ _ _ _ _ _ _ c.record_length-n.ensures (omega (arith, c.sections_length-body.ensures.is)) (omega arith)) in record { left = all_of.0; holds = all_of.1 }

pub returns-then-room-n-2 : goal.returns-then-room-n-2
returns-then-room-n-2 c = let all_of = told (tile_out _ _ _ _ _ _ _ _ _ _ c.record_length-n.ensures (omega (arith, c.sections_length-body.ensures.is)) (omega arith)) in record { left = all_of.0; holds = all_of.1 }

pub put_tile_head_cut-a-requires : goal.put_tile_head_cut-a-requires
put_tile_head_cut-a-requires c = omega (arith, record_room _ _ c.record_length-n.ensures)

pub put_sections_cut-b-requires : goal.put_sections_cut-b-requires
put_sections_cut-b-requires c = (omega arith, omega (arith, record_room _ _ c.record_length-n.ensures, c.sections_length-body.ensures.is, ran_room (ran (c.put_tile_head_cut-a.ensures.left, c.put_tile_head_cut-a.ensures.holds))))

pub overflow_sub-n : goal.overflow_sub-n
overflow_sub-n c = omega (arith, record_room _ _ c.record_length-n.ensures)

pub overflow_sub-n-2 : goal.overflow_sub-n-2
overflow_sub-n-2 c = omega (arith, record_room _ _ c.record_length-n.ensures)

pub returns : goal.returns
returns c = let all_of = told (tile_in_lem _ _ _ _ _ _ _ _ _ _ c.record_length-n.ensures (omega (arith, c.sections_length-body.ensures.is)) (ran (c.put_tile_head_cut-a.ensures.left, c.put_tile_head_cut-a.ensures.holds)) (ran (c.put_sections_cut-b.ensures.left, c.put_sections_cut-b.ensures.holds)) (ran (c.put_zeros_cut-c.ensures.left, c.put_zeros_cut-c.ensures.holds)) (ran (c.seal_cut.ensures.left, c.seal_cut.ensures.holds)) (omega arith)) in record { left = all_of.0; holds = all_of.1 }
