-- `explain::tile_directory_rows::span_across` meets its contract. Assumes nothing.

use Rattle.explain.proofs.tile_directory_rows.span_across.Goals as goal

pub returns : goal.returns
returns c = cc
