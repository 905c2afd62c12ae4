-- `rectangles::cells_inside` meets its contract. Assumes nothing.
use native.Mathlib.Omega.{arith}
use Rattle.rectangles.proofs.GivenLaws.{none_written, no_room, cells_few, has_room, all_given}
use Rattle.std.proofs.Common.{length}
use Rattle.rectangles.proofs.cells_inside.Goals as goal

pub overflow_mul-n : goal.overflow_mul-n
overflow_mul-n c = record { fits = omega (arith, cells_few _ _ c.requires) }

pub returns-then-kinds-n : goal.returns-then-kinds-n
returns-then-kinds-n c = let all_of = none_written _ _ c.args.kinds.now c.args.bits.now (no_room c.args.a.rows c.args.a.columns (length c.args.kinds.now) (length c.args.bits.now) (λ p q. omega arith)) in record { is = all_of.0; kinds = all_of.1.0; bits = all_of.1.1 }

pub returns-then-bits-n : goal.returns-then-bits-n
returns-then-bits-n c = let all_of = none_written _ _ c.args.kinds.now c.args.bits.now (no_room c.args.a.rows c.args.a.columns (length c.args.kinds.now) (length c.args.bits.now) (λ p q. omega arith)) in record { is = all_of.0; kinds = all_of.1.0; bits = all_of.1.1 }

pub fill_all-requires-clause-accepts : goal.fill_all-requires-clause-accepts
fill_all-requires-clause-accepts c = c.requires

pub fill_all-requires-clause-fits : goal.fill_all-requires-clause-fits
fill_all-requires-clause-fits c = has_room _ _ c.requires _ _ c.if-kinds-n.false c.if-bits-n.false

pub returns : goal.returns
returns c = let all_of = all_given _ _ _ _ _ _ _ c.fill_all.ensures c.if-kinds-n.false c.if-bits-n.false in record { is = all_of.0; kinds = all_of.1.0; bits = all_of.1.1 }
