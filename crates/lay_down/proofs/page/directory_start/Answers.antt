-- `lay_down::page::directory_start` meets its contract. Assumes nothing.
use Rattle.lay_down.proofs.FrontLaws.{front_of_lem, records_small}
use lib.ListN.{length}
use mathlib.Core.Path.{ap}
use native.Mathlib.Omega.{arith}
use Prim.Native.Nat.{ℕ, ◌+◌, ◌*◌}
use Rattle.lay_down.proofs.page.directory_start.Goals as goal

pub overflow_mul-result : goal.overflow_mul-result
overflow_mul-result c = let w = front_of_lem _ c.requires.0 in omega (arith, records_small _ w c.args.k c.requires.1, ap (λ (x : ℕ). c.args.k * x) c.tile_length-n.ensures)

pub overflow_add-result : goal.overflow_add-result
overflow_add-result c = let w = front_of_lem _ c.requires.0 in omega (arith, w.file, records_small _ w c.args.k c.requires.1, ap (λ (x : ℕ). c.args.k * x) c.tile_length-n.ensures)

pub returns : goal.returns
returns c = ap (λ (x : ℕ). length c.args.front.now + c.args.k * x) c.tile_length-n.ensures
