-- `fronts::fixed::put_numbers` meets its contract. Assumes nothing.
use mathlib.Core.Path.{ap}
use Rattle.fronts.specs.declared.sides.Sides.{Sides}
use Rattle.fronts.proofs.LineLaws.{numbers_put}
use Rattle.fronts.proofs.fixed.put_numbers.Goals as goal

pub returns : goal.returns
returns c =
    let e = c.of.ensures in
    numbers_put _ _ _ c.args.page.now _ _ _ _ _ _ _ c.put_fixed.ensures (ap (λ (s : Sides). s.rows) e) (ap (λ (s : Sides). s.columns) e) (ap (λ (s : Sides). s.tile_rows) e) (ap (λ (s : Sides). s.tile_columns) e) c.number_in.ensures c.code_of-flag.ensures
