-- `sheets::fault_at` meets its contract. Assumes nothing.
use mathlib.Core.Path.{refl}
use Rattle.sheets.proofs.GridLaws.{no_fault, sides_small, fault_place, fault_asks, fault_there}
use native.Mathlib.Omega.{arith}
use Rattle.sheets.proofs.fault_at.Goals as goal

pub returns-then-w-eq0 : goal.returns-then-w-eq0
returns-then-w-eq0 c = no_fault _ _ c.args.a _ c.if-w-eq0.true

pub overflow_mul-n : goal.overflow_mul-n
overflow_mul-n c = record { fits = omega (arith, sides_small c.args.a.rows c.args.a.columns c.requires.weight.0.rows_few c.requires.weight.0.columns_few) }

pub nonzero_div-row : goal.nonzero_div-row
nonzero_div-row c = omega (arith, (fault_place c.args.a _ _ refl c.if-w-eq0.false c.requires.weight.1).1)

pub nonzero_rem-column : goal.nonzero_rem-column
nonzero_rem-column c = omega (arith, (fault_place c.args.a _ _ refl c.if-w-eq0.false c.requires.weight.1).1)

pub cell_at-requires : goal.cell_at-requires
cell_at-requires c = fault_asks c.args.a _ _ refl c.if-w-eq0.false c.requires.weight.1 _ c.requires.accepts

pub returns : goal.returns
returns c = fault_there _ _ c.args.a _ _ refl c.if-w-eq0.false _ _ c.cell_at.ensures c.fault_of.ensures
