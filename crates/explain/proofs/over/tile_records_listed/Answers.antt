-- `explain::over::tile_records_listed` meets its contract. Assumes nothing.
use Rattle.std.proofs.Common.{rules}
use Rattle.explain.specs.DirectoryRows.{listed_tile_rows}
use Rattle.explain.proofs.over.tile_records_listed.Goals as goal

pub returns : goal.returns
returns c = c.over.ensures (listed_tile_rows c.args.s.now) (λ k x h i r q. search rules)
