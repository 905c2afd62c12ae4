-- What the pages of the samples say, computed. Assumes nothing.
use mathlib.Core.Path.{refl}
use mathlib.Core.List.{flat_map}
use Rattle.wire.specs.Bytes.{byte_at, number, number_at, part, put, same_bytes}
use Rattle.wire.specs.Items.{advance}
use Rattle.wire.specs.Lists.{select, below}
use Rattle.wire.specs.Tests.{passes, sum_below}
use Rattle.record.specs.Chain.{find, first_record, header_end, records, records_of, starts, starts_go}
use Rattle.record.specs.Record.{padded, record_limit, record_ok}
use Rattle.header.specs.Element.{block_at, block_size, cell_size, description_at, element, element_name, entries_read, entry_at, entry_end, entry_start, fill_bits, fill_offset, label_at, string_end, string_size, unit_at}
use Rattle.header.specs.Tail.{method_count, methods_at, product_label_at}
use Rattle.geometry.specs.Sizes.{element_bytes, stored_size, uncompressed}
use Rattle.geometry.specs.Tiles.{tile_count, tiles_across, tiles_along, tiles_down, tiles_in}
use Rattle.bodies.specs.MetadataRecord.{content_length_at, data_type, metadata_description_at, metadata_length, metadata_name, record_id, record_id_at}
use Rattle.bodies.specs.TileDirectory.{in_rectangle, in_span, number_of, reference_at, reference_from, reference_of, reference_size, tile_directory_at}
use Rattle.bodies.specs.TileRecord.{element_content_at, section_at, section_end, section_length}
use Rattle.cells.specs.TileCells.{packed}
use Rattle.says.specs.Lists.{fitting, taken, items_of, item_numbers}
use Rattle.says.specs.Methods.{method_at, method_says, method_indexes}
use Rattle.says.specs.Metadata.{metadata_records, metadata_says, has_key, number_from, metadata_number}
use Rattle.says.specs.Tiles.{stored, stored_tiles, tile_record_at, bit, bit_if, mask_of, packed_mask, packed_coded, first_packed, compressor_of, tile_says}
use Rattle.says.specs.Further.{said_of_page, texts_at, continuous_at, range_offset, range_bits, coded_bits, coded_at, said_at, said_of_element}
use Rattle.exact_products.specs.Said.{SaidSo}

pub said_so : SaidSo
unfolding advance below bit bit_if block_at block_size byte_at cell_size coded_at coded_bits compressor_of content_length_at continuous_at data_type description_at element element_bytes element_content_at element_name entries_read entry_at entry_end entry_start fill_bits fill_offset find first_packed first_record fitting flat_map has_key header_end in_rectangle in_span item_numbers items_of label_at mask_of metadata_description_at metadata_length metadata_name metadata_number metadata_records metadata_says method_at method_count method_indexes method_says methods_at number number_at number_from number_of packed packed_coded packed_mask padded part passes product_label_at put range_bits range_offset record_id record_id_at record_limit record_ok records records_of reference_at reference_from reference_of reference_size said_at said_of_element said_of_page same_bytes section_at section_end section_length select starts starts_go stored stored_size stored_tiles string_end string_size sum_below taken texts_at tile_count tile_directory_at tile_record_at tile_says tiles_across tiles_along tiles_down tiles_in uncompressed unit_at
said_so =
    record {
      stored_plain = refl;
      stored_packed = refl;
      float_packed = refl;
      eleven = refl;
      second = refl;
      past = refl;
      bare = refl;
      whole = refl;
      found = refl;
      other_id_lem = refl;
      other_name = refl;
      methods = refl;
      page = refl;
      coded_element = refl;
      short_element = refl;
    }
