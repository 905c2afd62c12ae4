-- `fronts::entries::put_entries` meets its contract. Assumes nothing.
use native.Mathlib.Omega.{arith}
use borrow.Author.Rules.{rules}
use Rattle.fronts.proofs.LineLaws.{lined_none, lined_fits, lined_ready, lined_more, lined_all}
use Rattle.fronts.proofs.entries.put_entries.Goals as goal

pub loop-e-init : goal.loop-e-init
loop-e-init c = (search rules, lined_none _ _ _ _)

pub put_entry-p-requires : goal.put_entry-p-requires
put_entry-p-requires c = (lined_ready _ _ _ _ _ _ _ _ _ c.loop-e.invariant.1 c.requires.0 c.loop-e-test.true c.requires.1, (lined_fits _ _ _ _ _ _ _ _ _ c.loop-e.invariant.1 c.requires.0 c.loop-e-test.true c.requires.1).1)

pub texts_of-from-requires : goal.texts_of-from-requires
texts_of-from-requires c = let r = lined_ready _ _ _ _ _ _ _ _ _ c.loop-e.invariant.1 c.requires.0 c.loop-e-test.true c.requires.1 in (r.there, r.short)

pub overflow_add-from : goal.overflow_add-from
overflow_add-from c = let r = lined_ready _ _ _ _ _ _ _ _ _ c.loop-e.invariant.1 c.requires.0 c.loop-e-test.true c.requires.1 in omega (arith, r.inside, c.texts_of-from.ensures)

pub loop-e-preserved : goal.loop-e-preserved
loop-e-preserved c = (search rules, lined_more _ _ _ _ _ _ _ _ _ c.loop-e.invariant.1 c.requires.0 c.loop-e-test.true c.requires.1 _ _ _ c.put_entry-p.ensures.holds c.put_entry-p.ensures.end c.texts_of-from.ensures)

pub shape_of-out : goal.shape_of-out
shape_of-out c = c.loop-e.invariant.1.kept

pub returns : goal.returns
returns c = let all_of = lined_all _ _ _ _ _ _ _ _ _ c.loop-e.invariant.1 c.loop-e.invariant.0 (omega arith) in record { end = all_of.0; holds = all_of.1 }
