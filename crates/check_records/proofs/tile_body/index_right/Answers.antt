-- `check_records::tile_body::index_right` meets its contract. Assumes nothing.
use native.Mathlib.Omega.{arith}
use Rattle.wire.proofs.TestLaws.{no, yes}
use Rattle.check_records.specs.TileBody.{index_right}
use Rattle.bodies.specs.TileRecord.{tile_index}
use Rattle.check_records.proofs.tile_body.index_right.Goals as goal

pub returns-then-i-gt-LARGEST_INTEGER : goal.returns-then-i-gt-LARGEST_INTEGER
unfolding index_right tile_index
returns-then-i-gt-LARGEST_INTEGER c = no _ (λ h. omega arith)

pub returns-then-tile_count-i : goal.returns-then-tile_count-i
unfolding index_right tile_index
returns-then-tile_count-i c = no _ (λ h. omega arith)

pub returns : goal.returns
unfolding index_right tile_index
returns c = yes _ (omega arith, (omega arith, tt))
