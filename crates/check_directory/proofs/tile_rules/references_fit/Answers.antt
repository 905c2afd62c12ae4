-- `check_directory::tile_rules::references_fit` meets its contract. Assumes nothing.
use Rattle.check_directory.proofs.TileLaws.{fit_is}
use borrow.Author.Rules.{rules}
use Rattle.check_directory.proofs.tile_rules.references_fit.Goals as goal

pub returns : goal.returns
returns c = search (rules, fit_is)
