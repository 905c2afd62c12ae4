-- `sheets::put::put_unread` meets its contract. Assumes nothing.
use mathlib.Core.Path.{refl}
use Rattle.blocks.proofs.TableLaws.{filled_none}
use Rattle.sheets.proofs.TableLaws.{row_bytes, room_for, unread_more, filled_ends}
use native.Mathlib.Omega.{arith}
use Rattle.sheets.proofs.put.put_unread.Goals as goal

pub loop-j-init : goal.loop-j-init
loop-j-init c = (omega arith, (omega arith, filled_none _ (λ i k h. omega arith)))

pub overflow_mul-out : goal.overflow_mul-out
overflow_mul-out c = record { fits = omega (arith, c.requires.room.sides.columns_few) }

pub overflow_mul-out-in-loop-j : goal.overflow_mul-out-in-loop-j
overflow_mul-out-in-loop-j c = record { fits = omega (arith, row_bytes _ _ c.requires.room _ c.requires.inside.0) }

pub overflow_add-out : goal.overflow_add-out
overflow_add-out c = record { fits = omega (arith, row_bytes _ _ c.requires.room _ c.requires.inside.0, c.requires.room.sides.columns_few) }

pub bounds-out-r : goal.bounds-out-r
bounds-out-r c = omega (arith, c.loop-j.invariant.1.1.long, room_for _ _ c.requires.room _ c.requires.inside.0 c.loop-j.j (omega arith))

pub loop-j-preserved : goal.loop-j-preserved
loop-j-preserved c = (omega arith, (omega arith, unread_more _ _ _ _ _ _ _ c.loop-j.invariant.1.1 refl c.requires.room c.requires.inside.0 (omega arith) (omega arith)))

pub returns : goal.returns
returns c = filled_ends c.loop-j.invariant.1.1 refl (omega arith)
