-- `edit_walks::freeing::is_unwanted` meets its contract. Assumes nothing.
use native.Mathlib.Omega.{arith}
use Rattle.edit_walks.proofs.JoinLaws.{unwanted_space, unwanted_full, unwanted_not, unwanted_tiles}
use Rattle.edit_walks.proofs.freeing.is_unwanted.Goals as goal

pub returns-then-kind-eq-FILE_SPACE_DIRECTORY : goal.returns-then-kind-eq-FILE_SPACE_DIRECTORY
returns-then-kind-eq-FILE_SPACE_DIRECTORY c = unwanted_space _ _ _ c.requires _ (omega arith)

pub returns-then-full : goal.returns-then-full
returns-then-full c = unwanted_full _ _ _ c.requires _ (λ z. omega arith) c.if-full.true

pub returns-then-kind-ne-TILE_DIRECTORY : goal.returns-then-kind-ne-TILE_DIRECTORY
returns-then-kind-ne-TILE_DIRECTORY c = unwanted_not _ _ _ c.requires _ (λ z. omega arith) (λ z. omega arith)

pub returns : goal.returns
returns c = unwanted_tiles _ _ _ c.requires _ (λ z. omega arith) c.if-full.false (omega arith)
