-- `edit_walks::freeing::is_wanted` meets its contract. Assumes nothing.

use Rattle.edit_walks.proofs.freeing.is_wanted.Goals as goal

pub returns-in-Tile : goal.returns-in-Tile
returns-in-Tile c = cc

pub returns-in-Unwanted : goal.returns-in-Unwanted
returns-in-Unwanted c = cc
