-- `unpack::rows::unpack_rows` meets its contract. Assumes nothing.
use lib.ListN.{length}
use Prim.Native.Nat.{◌-◌}
use Rattle.unpack.proofs.TileLaws.{Sizes, Goes}
use Rattle.unpack.proofs.rows.unpack_rows.Given as goal

abbrev pub invariant-rows : goal.invariant-rows
invariant-rows l =
    Sizes (length l.initial.row) l.plan.cells (length l.initial.out) l.above l.row l.out (l.plan.rows - l.counter) l.at l.from l.bytes
    × Goes l.c l.nodes l.jumps l.plan.predictor l.plan.short l.start l.plan.rows l.plan.inside l.plan.cells l.initial.above l.initial.row l.initial.out l.above l.row l.out (l.plan.rows - l.counter) l.at l.from l.pos l.bytes l.value
