-- `explain::tile_directory_rows::references_padded` meets its contract. Assumes nothing.
use native.Mathlib.Omega.{arith}
use Rattle.explain.proofs.DirectoryLaws.{references_fit_told}
use Rattle.explain.proofs.tile_directory_rows.references_padded.Goals as goal

pub padding-requires : goal.padding-requires
padding-requires c = (omega arith, omega arith)

pub returns : goal.returns
returns c = references_fit_told _ _ _ _ c.tile_directory_at-at.ensures c.references_end-end.ensures c.padding.ensures (omega arith)
