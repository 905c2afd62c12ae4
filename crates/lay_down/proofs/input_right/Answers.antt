-- `lay_down::input_right` meets its contract. Assumes nothing.
use Rattle.lay_down.proofs.FrontLaws.{front_of_lem}
use Rattle.lay_down.proofs.JudgeLaws.{input_timeless, input_disordered, input_small, input_amiss, input_fine}
use native.Mathlib.Omega.{arith}
use Rattle.lay_down.proofs.input_right.Goals as goal

pub returns-then-time-eq0 : goal.returns-then-time-eq0
returns-then-time-eq0 c = input_timeless _ _ _ _ c.if-time-eq0.true

pub overflow_mul-indexes : goal.overflow_mul-indexes
overflow_mul-indexes c = omega (arith, input_small _ c.args.time _ c.args.cells.now _ _ c.tile_count-count.ensures c.is_ascending.ensures c.if-is_ascending.true _ c.tile_bytes-tile.ensures (front_of_lem _ c.requires))

pub returns-then-cells-indexes : goal.returns-then-cells-indexes
returns-then-cells-indexes c = input_amiss _ _ _ _ _ _ c.tile_count-count.ensures c.is_ascending.ensures c.if-is_ascending.true _ c.tile_bytes-tile.ensures (front_of_lem _ c.requires) c.if-cells-indexes.true

pub returns-then-is_ascending : goal.returns-then-is_ascending
returns-then-is_ascending c = input_fine _ _ _ _ _ _ c.tile_count-count.ensures c.is_ascending.ensures c.if-is_ascending.true _ c.tile_bytes-tile.ensures (front_of_lem _ c.requires) c.if-time-eq0.false c.if-cells-indexes.false

pub returns : goal.returns
returns c = input_disordered _ _ _ _ _ _ c.tile_count-count.ensures c.is_ascending.ensures c.if-is_ascending.false
