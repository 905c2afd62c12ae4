-- `bodies::tile_directory::tile_reference` meets its contract. Assumes nothing.

use Rattle.bodies.proofs.tile_directory.tile_reference.Goals as goal

pub returns : goal.returns
returns c = cc
