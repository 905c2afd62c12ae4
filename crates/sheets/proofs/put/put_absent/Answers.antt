-- `sheets::put::put_absent` meets its contract. Assumes nothing.
use mathlib.Core.Path.{refl}
use Rattle.blocks.proofs.TableLaws.{filled_none, filled_under}
use Rattle.sheets.proofs.TableLaws.{room_still, filled_ends}
use native.Mathlib.Omega.{arith}
use Rattle.sheets.proofs.put.put_absent.Goals as goal

pub loop-r-init : goal.loop-r-init
loop-r-init c = (omega arith, (omega arith, filled_none _ (λ i k h. omega arith)))

pub put_unread-requires-clause-room : goal.put_unread-requires-clause-room
put_unread-requires-clause-room c = room_still c.loop-r.invariant.1.1 c.requires.room

pub put_unread-requires-clause-inside : goal.put_unread-requires-clause-inside
put_unread-requires-clause-inside c = (omega arith, (omega arith, omega arith))

pub loop-r-preserved : goal.loop-r-preserved
loop-r-preserved c = (omega arith, (omega arith, filled_under c.loop-r.invariant.1.1 c.put_unread.ensures (omega arith) (omega arith) (omega arith)))

pub returns : goal.returns
returns c = filled_ends c.loop-r.invariant.1.1 (omega arith) refl
