-- `cells::routes::referred_to` meets its contract. Assumes nothing.
use borrow.Author.Rules.{rules}
use Rattle.tile_routes.proofs.WayReads.{referred_none, referred_at}
use Rattle.tile_routes.proofs.routes.referred_to.Goals as goal

pub returns-then-reference-eq0 : goal.returns-then-reference-eq0
returns-then-reference-eq0 c = search (rules, referred_none, referred_at)

pub returns : goal.returns
returns c = search (rules, referred_none, referred_at)
