-- `check_directory::tile_rules::given_at` meets its contract. Assumes nothing.
use Rattle.check_directory.proofs.TileLaws.{given_one, given_none}
use Rattle.check_directory.proofs.tile_rules.given_at.Goals as goal

pub returns-then-reference_at-eq0 : goal.returns-then-reference_at-eq0
returns-then-reference_at-eq0 c = let all_of = given_none _ _ _ _ c.tile_directory_at-at.ensures c.reference_at.ensures c.if-reference_at-eq0.true in record { is = all_of.0; small = all_of.1 }

pub returns : goal.returns
returns c = let all_of = given_one _ _ _ _ c.tile_directory_at-at.ensures c.reference_at.ensures c.if-reference_at-eq0.false in record { is = all_of.0; small = all_of.1 }
