-- `check_directory::tile_rules::rows_right` meets its contract. Assumes nothing.

use Rattle.check_directory.proofs.tile_rules.rows_right.Goals as goal

pub returns : goal.returns
returns c = cc
