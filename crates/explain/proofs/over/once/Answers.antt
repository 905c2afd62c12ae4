-- `explain::over::once` meets its contract. Assumes nothing.
use Rattle.std.proofs.Common.{rules}
use Rattle.check_lists.specs.inner.Search.{list_count, list_entry_is}
use Rattle.explain.specs.DirectoryRows.{once_from_rows}
use Rattle.explain.proofs.ListedLaws.{once_told}
use Rattle.explain.proofs.over.once.Goals as goal

pub returns : goal.returns
returns c =
    let e =
    c.over.ensures (once_from_rows c.asked_from-from.result c.args.rule (list_count c.args.s.now c.args.list) (list_entry_is c.args.s.now c.args.list))
    (λ k x h i r q. search rules) in
    search (rules, once_told)
