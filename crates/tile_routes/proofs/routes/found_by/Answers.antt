-- `cells::routes::found_by` meets its contract. Assumes nothing.
use borrow.Author.Rules.{rules}
use Rattle.tile_routes.proofs.WayReads.{found_referred, found_walked}
use Rattle.tile_routes.proofs.routes.found_by.Goals as goal

pub returns-in-Directory : goal.returns-in-Directory
returns-in-Directory c = search (rules, found_referred, found_walked)

pub returns-in-Walk : goal.returns-in-Walk
returns-in-Walk c = search (rules, found_referred, found_walked)
