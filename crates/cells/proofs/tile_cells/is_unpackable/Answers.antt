-- `cells::tile_cells::is_unpackable` meets its contract. Assumes nothing.
use Rattle.cells.proofs.CellLaws.{above_bytes, other_index_lem, float_packed, is_unpackable}
use borrow.Author.Rules.{rules}
use Rattle.cells.proofs.tile_cells.is_unpackable.Goals as goal

pub returns-then-compressor-gt255 : goal.returns-then-compressor-gt255
returns-then-compressor-gt255 c = search (rules, above_bytes)

pub returns-then-byte_at-compressor : goal.returns-then-byte_at-compressor
returns-then-byte_at-compressor c = search (rules, other_index_lem)

pub returns-then-kind_of-eq-FLOAT : goal.returns-then-kind_of-eq-FLOAT
returns-then-kind_of-eq-FLOAT c = search (rules, float_packed)

pub returns : goal.returns
returns c = search (rules, is_unpackable)
