-- `lay_down::put_sections` meets its contract. Assumes nothing.
use borrow.Author.Rules.{rules}
use Rattle.lay_down.proofs.FrontLaws.{front_of_lem}
use Rattle.lay_down.proofs.SectionWriting.{standing_none, standing_fits, standing_given, standing_more, standing_all}
use native.Mathlib.Omega.{arith}
use Rattle.lay_down.proofs.put_sections.Goals as goal

pub loop-e-init : goal.loop-e-init
loop-e-init c = (search rules, standing_none _ _ _ _)

pub offset_bounds-sizes-e : goal.offset_bounds-sizes-e
offset_bounds-sizes-e c = omega (arith, c.entries_read-n.ensures.few)

pub bounds-sizes-e : goal.bounds-sizes-e
bounds-sizes-e c = omega (arith, c.entries_read-n.ensures.few, c.requires.1.0.0)

pub overflow_cast-u : goal.overflow_cast-u
overflow_cast-u c = omega (arith, c.type_inv.sizes c.loop-e.e)

pub overflow_add-p : goal.overflow_add-p
overflow_add-p c = let s = c in let i = c.loop-e in let n = c.entries_read-n.ensures.is in let w = front_of_lem _ s.requires.0 in
    omega (arith, standing_fits _ _ _ _ _ _ _ _ i.invariant.1 w _ (s.requires.1.0.1 i.e (omega (arith, n))) (omega (arith, n)) s.requires.1.1.1 _ c.stored_size.ensures)

pub overflow_cast-from : goal.overflow_cast-from
overflow_cast-from c = omega (arith, c.type_inv.sizes c.loop-e.e)

pub overflow_add-from : goal.overflow_add-from
overflow_add-from c = let s = c in let i = c.loop-e in let n = c.entries_read-n.ensures.is in let w = front_of_lem _ s.requires.0 in
    omega (arith, standing_given _ _ _ _ _ _ _ _ i.invariant.1 w _ (s.requires.1.0.1 i.e (omega (arith, n))) (omega (arith, n)) s.requires.1.1.1)

pub loop-e-preserved : goal.loop-e-preserved
loop-e-preserved c = let s = c in let i = c.loop-e in let n = c.entries_read-n.ensures.is in let w = front_of_lem _ s.requires.0 in
    (search rules, standing_more _ _ _ _ _ _ _ _ i.invariant.1 w _ (s.requires.1.0.1 i.e (omega (arith, n))) (omega (arith, n)) s.requires.1.1.1 _ _ _ c.put_section.ensures c.part_of.ensures.holds c.stored_size.ensures s.requires.1.1.0)

pub shape_of-out : goal.shape_of-out
shape_of-out c = c.loop-e.invariant.1.kept

pub returns : goal.returns
returns c = let w = front_of_lem _ c.requires.0 in let n = c.entries_read-n.ensures.is in
    let all_of = standing_all _ _ _ _ _ _ _ _ _ c.loop-e.invariant.1 (omega (arith, n, w.all)) (omega (arith, n, w.all)) in record { end = all_of.0; holds = all_of.1 }
