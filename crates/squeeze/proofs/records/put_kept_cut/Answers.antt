-- `squeeze::records::put_kept_cut` meets its contract. Assumes nothing.
use native.Mathlib.Omega.{arith}
use Rattle.stores.proofs.JoinLaws.{ran, told}
use Rattle.squeeze.proofs.DirectoryLaws.{fits_tiles, fits_metadata, kept_tiles_lem, kept_metadata, kept_other}
use Rattle.squeeze.proofs.records.put_kept_cut.Goals as goal

pub put_tiles_cut-requires : goal.put_tiles_cut-requires
put_tiles_cut-requires c = (c.requires.0, (c.requires.1.0, fits_tiles c.requires.1.1 c.byte_off-kind.ensures.is (omega arith)))

pub returns-then-kind-eq-TILE_DIRECTORY : goal.returns-then-kind-eq-TILE_DIRECTORY
returns-then-kind-eq-TILE_DIRECTORY c = let all_of = told (kept_tiles_lem _ _ _ _ _ c.byte_off-kind.ensures.is (omega arith) (ran (c.put_tiles_cut.ensures.left, c.put_tiles_cut.ensures.holds))) in record { left = all_of.0; holds = all_of.1 }

pub put_metadata_cut-requires : goal.put_metadata_cut-requires
put_metadata_cut-requires c = (c.requires.0, (c.requires.1.0, fits_metadata c.requires.1.1 c.byte_off-kind.ensures.is (omega arith)))

pub returns-then-kind-eq-METADATA_DIRECTORY : goal.returns-then-kind-eq-METADATA_DIRECTORY
returns-then-kind-eq-METADATA_DIRECTORY c = let all_of = told (kept_metadata _ _ _ _ _ c.byte_off-kind.ensures.is (λ z. omega arith) (omega arith) (ran (c.put_metadata_cut.ensures.left, c.put_metadata_cut.ensures.holds))) in record { left = all_of.0; holds = all_of.1 }

pub returns : goal.returns
returns c = let all_of = told (kept_other _ _ _ _ _ c.byte_off-kind.ensures.is (λ z. omega arith) (λ z. omega arith) c.u32_at-n.ensures (ran (c.move_down_cut.ensures.left, c.move_down_cut.ensures.holds))) in record { left = all_of.0; holds = all_of.1 }
