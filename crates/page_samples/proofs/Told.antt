-- What the pages say, computed. Assumes nothing.
use mathlib.Core.Path.{refl}
use Rattle.answer.specs.Refusals.{gate, unless_refused}
use Rattle.answer.specs.Values.{value_of}
use Rattle.bodies.specs.ListDirectories.{entry_count, file_space_at, free_count, free_entry_at, metadata_at, metadata_count, metadata_entry_at, metadata_entry_end, metadata_entry_size}
use Rattle.bodies.specs.MetadataRecord.{content_length_at, data_type, metadata_description_at, metadata_end, metadata_length, metadata_name, record_id, record_id_at}
use Rattle.bodies.specs.TileDirectory.{in_rectangle, in_span, number_of, reference_at, reference_from, reference_of, reference_size, references_end, tile_directory_at}
use Rattle.bodies.specs.TileRecord.{element_content_at, section_at, section_end, section_length, tile_end, tile_index}
use Rattle.cells.specs.Asked.{in_grid}
use Rattle.cells.specs.Meaning.{meaning}
use Rattle.cells.specs.Reads.{read_by_directory, read_by_records, read_by_walk, read_meaning}
use Rattle.tile_routes.specs.Ways.{carries, meant, records_with, referred_to, walked_to}
use Rattle.cells.specs.Routes.{cell_by}
use Rattle.cells.specs.TileCells.{cell_from, cell_in, fill_of, location_of, offset_in}
use Rattle.check_directory.specs.References.{no_other, refers_or_zero, refers_to}
use Rattle.check_directory.specs.TileRules.{form_right, gives_tile, rectangle_right, span_right, tile_directory_right, tiles_listed, tiles_only}
use Rattle.check_header.specs.Ceilings.{sides_within, within_ceilings}
use Rattle.check_header.specs.HeaderRecord.{element_right, elements_right, frame_right, header_right, length_right, names_differ, options_right, positive, sides_right, tail_right}
use Rattle.check_header.specs.Identification.{identified, mark, version_right}
use Rattle.check_header.specs.Stages.{check_header, closed, first_two, next_two, stages}
use Rattle.check_lists.specs.FileSpace.{file_space_right, free_entry_is, free_entry_of, free_fits, free_listed, free_not_empty, free_only}
use Rattle.check_lists.specs.Listed.{listed_once, nothing_else}
use Rattle.metadata_keys.specs.Pairs.{keys_distinct, same_key}
use Rattle.check_lists.specs.Metadata.{metadata_directory_right, metadata_entry_is, metadata_entry_of, metadata_fits, metadata_listed, metadata_only}
use Rattle.check_lists.specs.Stage.{directories_right}
use Rattle.check_records.specs.Checksum.{checksum_at, checksum_of, checksum_right, summed_bytes}
use Rattle.check_records.specs.Faults.{body_fault, body_right, chain_fault, checksum_fault, first_wrong, right_of}
use Rattle.check_records.specs.Frame.{end_right}
use Rattle.check_records.specs.MetadataBody.{metadata_right}
use Rattle.check_records.specs.TileBody.{index_right, section_packing, section_right, tile_right}
use Rattle.crc32c.specs.Crc.{crc_bit, crc_byte, crc_of, crc_over, crc_part}
use Rattle.geometry.specs.Sizes.{cell_offset, element_bytes, element_packing, least_length, packing_of, stored_size, tile_bytes, uncompressed}
use Rattle.geometry.specs.Tiles.{cell_inside, cell_tile, inside_of, tile_count, tile_in, tile_of, tiles_across, tiles_along, tiles_down, tiles_in}
use Rattle.header.specs.Element.{block_at, block_size, cell_size, description_at, element, element_name, entries_read, entry_at, entry_end, entry_start, fill_bits, fill_offset, label_at, string_end, string_size, unit_at, unit_length, unit_place}
use Rattle.header.specs.Names.{five_rules, identifier, last_byte, letter, name_byte, name_bytes, within}
use Rattle.header.specs.Tail.{fields_end, method_count, methods_at, product_label_at}
use Rattle.header.specs.Texts.{entry_texts, string_text, text_right}
use Rattle.listing.specs.Listing.{index_lines, listed, listed_by, listing, written}
use Rattle.listing.specs.Text.{at_word, decimal, digits, elements_word, grid_word, line, of_word, refused_word, tile_word, too_long, written_word}
use Rattle.page_check.specs.Stages.{check, check_directories, check_from_records, check_records, check_to_bodies, unless}
use Rattle.record.specs.Chain.{end_of, find, find_not, first_record, header_end, records, records_end, records_of, starts, starts_go}
use Rattle.record.specs.Record.{padded, record_limit, record_ok}
use Rattle.store.specs.Description.{numbers_of_element, numbers_of_page, specified, specified_by}
use Rattle.utf8.specs.Utf8.{following, goes_on, never, octet, rows, tail, utf8}
use Rattle.wire.specs.Bytes.{byte_at, bytes_of, number, number_at, part, put, same_bytes, zeros}
use Rattle.wire.specs.Items.{advance}
use Rattle.wire.specs.Lists.{count_below, every, one_if, select, some}
use Rattle.wire.specs.Tests.{all_below, passes, sum_below}
use Rattle.page_samples.specs.Told.{ToldSo, Numbered}

pub told_so : ToldSo
unfolding advance all_below at_word block_at block_size body_fault body_right byte_at bytes_of carries cell_by cell_from cell_in cell_inside cell_offset cell_size cell_tile chain_fault check check_directories check_from_records check_header check_records check_to_bodies checksum_at checksum_fault checksum_of checksum_right closed content_length_at count_below crc_bit crc_byte crc_of crc_over crc_part data_type decimal description_at digits directories_right element element_bytes element_content_at element_name element_packing element_right elements_right elements_word end_of end_right entries_read entry_at entry_count entry_end entry_start entry_texts every fields_end file_space_at file_space_right fill_bits fill_of fill_offset find find_not first_record first_two first_wrong five_rules following form_right frame_right free_count free_entry_at free_entry_is free_entry_of free_fits free_listed free_not_empty free_only gate gives_tile goes_on grid_word header_end header_right identified identifier in_grid in_rectangle in_span index_lines index_right inside_of keys_distinct label_at last_byte least_length length_right letter line listed listed_by listed_once listing location_of mark meaning meant metadata_at metadata_count metadata_description_at metadata_directory_right metadata_end metadata_entry_at metadata_entry_end metadata_entry_is metadata_entry_of metadata_entry_size metadata_fits metadata_length metadata_listed metadata_name metadata_only metadata_right method_count methods_at name_byte name_bytes names_differ never next_two no_other nothing_else number number_at number_of numbers_of_element numbers_of_page octet of_word offset_in one_if options_right packing_of padded part passes positive product_label_at put read_by_directory read_by_records read_by_walk read_meaning record_id record_id_at record_limit record_ok records records_end records_of records_with rectangle_right reference_at reference_from reference_of reference_size references_end referred_to refers_or_zero refers_to refused_word right_of rows same_bytes same_key section_at section_end section_length section_packing section_right select sides_right sides_within some span_right specified specified_by stages starts starts_go stored_size string_end string_size string_text sum_below summed_bytes tail tail_right text_right tile_bytes tile_count tile_directory_at tile_directory_right tile_end tile_in tile_index tile_of tile_right tile_word tiles_across tiles_along tiles_down tiles_in tiles_listed tiles_only too_long uncompressed unit_at unless unless_refused utf8 value_of version_right walked_to within within_ceilings written written_word zeros unit_place unit_length
told_so =
    record {
      order_listed = refl;
      refused_listed = refl;
      most = refl;
      order_numbers = refl;
      first_element = refl;
      second_element = refl;
      no_element = refl;
      short_fill = refl;
      integer_fill = refl;
      coded_fill = refl;
      float_fill = refl;
      by_directory = refl;
      by_walk = refl;
      by_records = refl;
    }

pub numbered : Numbered
numbered = record { check_stages = refl; others = refl; check_places = refl; other_places = refl }
