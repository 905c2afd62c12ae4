-- `correct::directories::put_references_cut` meets its contract. Assumes nothing.
use native.Mathlib.Omega.{arith}
use Rattle.stores.proofs.JoinLaws.{ran, told}
use Rattle.correct.proofs.DirectoryLaws.{referring_none, referring_room, referring_more, referring_all}
use Rattle.correct.proofs.directories.put_references_cut.Goals as goal

pub loop-i-init : goal.loop-i-init
loop-i-init c = referring_none _ _ _ _

pub overflow_cast-i : goal.overflow_cast-i
overflow_cast-i c = omega (arith, c.requires)

pub overflow_mul-i : goal.overflow_mul-i
overflow_mul-i c = omega (arith, c.requires)

pub overflow_add-at : goal.overflow_add-at
overflow_add-at c = omega (arith, c.requires, referring_room c.loop-i.invariant)

pub loop-i-preserved : goal.loop-i-preserved
loop-i-preserved c = referring_more c.loop-i.invariant _ c.part_of.ensures.holds c.compact_of-v.ensures (ran (c.put_u32_cut-left.ensures.left, c.put_u32_cut-left.ensures.holds)) c.requires.0 (omega (arith, c.requires.1.0))

pub shape_of-out : goal.shape_of-out
shape_of-out c = referring_room c.loop-i.invariant

pub returns : goal.returns
returns c = let all_of = told (referring_all c.loop-i.invariant (omega arith) (omega arith)) in record { left = all_of.0; holds = all_of.1 }
