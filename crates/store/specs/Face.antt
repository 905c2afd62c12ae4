-- What a product above the store cites. Of bytes: the check, the reads of a cell and of an element's content with what each means, the
-- part of them that a content is, the look-up of an element by its name, the record IDs of the metadata records under a name, what a page
-- and an element are in numbers, and many reads after one check: what is held of a tile, a cell told from it, and a rectangle in pieces of
-- one tile each. What an answer says as numbers, as `content_place`, is in `answer`'s own specs.
pub use Rattle.wire.specs.Bytes.{part, part_at, put}
pub use Rattle.header.specs.Fields.{grid_rows, grid_columns, tile_rows, tile_columns, element_count}
pub use Rattle.header.specs.Element.{short_kind, element, element_name}
pub use Rattle.geometry.specs.Tiles.{tile_count, cell_tile, cell_inside}
pub use Rattle.check_header.specs.Ceilings.{most_grid_side}
pub use Rattle.check_header.specs.Passed.{Sides}
pub use Rattle.page_check.specs.Stages.{check}
pub use Rattle.cells.specs.Asked.{in_grid}
pub use Rattle.cells.specs.TileCells.{unpacked_bits, MemorySaid}
pub use Rattle.cells.specs.Meaning.{meaning, content_meaning}
pub use Rattle.cells.specs.Demand2.{ShortBits}
pub use Rattle.cells.specs.Reads.{read_by_directory, read_by_walk, read_meaning, read_content}
pub use Rattle.cells.specs.Many.{held_by_directory, held_cell, numbered_cell, Holds}
pub use Rattle.store.specs.Lookup.{read_element_named, ByName, FoundByName}
pub use Rattle.store.specs.Named.{ids_named, as_named, name_said, IdsDiffer}
pub use Rattle.store.specs.Description.{shape_of, numbers_of_page, described, described_number, specified_by, specified, specified_number, DescribedInFile}
pub use Rattle.store.specs.Many.{rectangle_inside, tile_holding, number_holding, Alike, TileAlike}
pub use Rattle.store.specs.Pieces.{Accepts, of_element, whole_grid, SameGrid, OneTile, band_end, first_piece, next_piece, AtPiece, Walks, Numbered, Answered, Ready}
