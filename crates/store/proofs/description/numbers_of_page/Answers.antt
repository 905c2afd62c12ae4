-- `store::description::numbers_of_page` meets its contract. Assumes nothing.
use Rattle.store.proofs.DescriptionLaws.{numbers_are}
use Rattle.store.proofs.description.numbers_of_page.Goals as goal

pub returns : goal.returns
returns c = numbers_are _ _ _ _ _ _ _ _ _ _ c.requires (c.shape_of-shape.ensures.rows, (c.shape_of-shape.ensures.columns, (c.shape_of-shape.ensures.tile_rows, (c.shape_of-shape.ensures.tile_columns, c.shape_of-shape.ensures.elements)))) c.tiles_down-tiles_down.ensures c.tiles_across-tiles_across.ensures c.tile_bytes-tile_bytes.ensures c.header_end-front.ensures c.record_count-tile_records.ensures c.record_count-metadata_records.ensures c.time_modified-time_modified.ensures c.checksum_enabled-checksums.ensures
