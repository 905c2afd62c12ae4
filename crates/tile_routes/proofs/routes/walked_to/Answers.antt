-- `cells::routes::walked_to` meets its contract. Assumes nothing.
-- That the measure falls is shown from the record before the cursor, so a wrong next cursor is refused by the invariant, for what it skips.
use borrow.Author.Rules.{rules}
use native.Mathlib.Omega.{arith}
use Rattle.record.proofs.ChainLaws.{stepped}
use Rattle.record.proofs.SeekLaws.{seek}
use Rattle.tile_routes.specs.Ways.{walked_to}
use Rattle.tile_routes.proofs.WayReads.{walking}
use Rattle.tile_routes.proofs.routes.walked_to.Goals as goal

pub walk-init : goal.walk-init
unfolding walked_to
walk-init c = search (rules, seek, walking)

pub step-requires : goal.step-requires
unfolding walked_to
step-requires c = search (rules, seek, walking)

pub enum_known-kind : goal.enum_known-kind
unfolding walked_to
enum_known-kind c = search (rules, seek, walking)

pub returns-in_default : goal.returns-in_default
unfolding walked_to
returns-in_default c = search (rules, seek, walking)

pub u32_off-requires : goal.u32_off-requires
unfolding walked_to
u32_off-requires c = search (rules, seek, walking)

pub walk-smaller-else-u32_off-tile : goal.walk-smaller-else-u32_off-tile
unfolding walked_to
walk-smaller-else-u32_off-tile c = let h = stepped c.in-Record.is c.step.ensures in omega arith

pub walk-preserved-else-u32_off-tile : goal.walk-preserved-else-u32_off-tile
unfolding walked_to
walk-preserved-else-u32_off-tile c = search (rules, seek, walking)

pub walk-smaller : goal.walk-smaller
unfolding walked_to
walk-smaller c = let h = stepped c.in-Record.is c.step.ensures in omega arith

pub walk-preserved : goal.walk-preserved
unfolding walked_to
walk-preserved c = search (rules, seek, walking)

pub returns : goal.returns
unfolding walked_to
returns c = search (rules, seek, walking)
