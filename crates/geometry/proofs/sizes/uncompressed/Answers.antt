-- `geometry::sizes::uncompressed` meets its contract. Assumes nothing.
use native.Mathlib.Omega.{arith}
use mathlib.Core.Path.{refl}
use Rattle.geometry.proofs.SizeLaws.{capped_cells, capped_in, capped_past, cells_fit}
use Rattle.geometry.proofs.TileLaws.{product}
use Rattle.geometry.proofs.sizes.uncompressed.Goals as goal

pub overflow_mul-cells : goal.overflow_mul-cells
overflow_mul-cells c = let k = product c.args.h c.args.w (omega arith) (omega arith) in record { fits = omega arith }

pub returns-then-cells-gt-CAP : goal.returns-then-cells-gt-CAP
returns-then-cells-gt-CAP c = capped_cells _ _ _ _ _ refl c.cell_size-size.ensures (omega arith)

pub overflow_mul-u : goal.overflow_mul-u
overflow_mul-u c = let a = c.args in let k = cells_fit a.h a.w a.kind _ _ refl c.cell_size-size.ensures (omega arith) in record { fits = omega arith }

pub returns-then-u-le-CAP : goal.returns-then-u-le-CAP
returns-then-u-le-CAP c = capped_in _ _ _ _ _ refl c.cell_size-size.ensures (omega arith)

pub returns : goal.returns
returns c = capped_past _ _ _ _ _ refl c.cell_size-size.ensures (omega arith)
