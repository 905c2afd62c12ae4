-- `explain::over::others` meets its contract. Assumes nothing.
use Rattle.std.proofs.Common.{rules}
use Rattle.explain.specs.DirectoryRows.{other_rows}
use Rattle.explain.proofs.over.others.Goals as goal

pub returns : goal.returns
returns c = c.over.ensures (other_rows c.args.rule c.args.reference) (λ k x h i r q. search rules)
