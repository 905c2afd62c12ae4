-- Samples on whole files, computed. Assumes nothing.
use mathlib.Core.Path.{refl}
use Rattle.answer.specs.Refusals.{gate, unless_refused}
use Rattle.answer.specs.Values.{value_of}
use Rattle.blocks.specs.Folds.{fold_below, fold_inside, fold_rectangle}
use Rattle.blocks.specs.Tables.{tabled}
use Rattle.bodies.specs.ListDirectories.{entry_count, file_space_at, free_count, free_entry_at, metadata_at, metadata_count, metadata_entry_at, metadata_entry_end, metadata_entry_size}
use Rattle.bodies.specs.MetadataRecord.{content_length_at, data_type, metadata_description_at, metadata_end, metadata_length, metadata_name, record_id, record_id_at}
use Rattle.bodies.specs.TileDirectory.{in_rectangle, in_span, number_of, reference_at, reference_from, reference_of, reference_size, references_end, tile_directory_at}
use Rattle.bodies.specs.TileRecord.{element_content_at, section_at, section_end, section_length, tile_end, tile_index}
use Rattle.cells.specs.Asked.{in_grid}
use Rattle.cells.specs.Meaning.{meaning}
use Rattle.tile_routes.specs.Ways.{carries, meant, records_with}
use Rattle.cells.specs.Routes.{cell_by}
use Rattle.cells.specs.TileCells.{cell_from, cell_in, fill_of, location_of, offset_in}
use Rattle.check_directory.specs.References.{no_other, refers_or_zero, refers_to}
use Rattle.check_directory.specs.TileRules.{form_right, gives_tile, rectangle_right, span_right, tile_directory_right, tiles_listed, tiles_only}
use Rattle.check_header.specs.Ceilings.{sides_within, within_ceilings}
use Rattle.check_header.specs.HeaderRecord.{element_right, elements_right, frame_right, header_right, length_right, names_differ, options_right, positive, sides_right, tail_right}
use Rattle.check_header.specs.Identification.{identified, mark, version_right}
use Rattle.check_header.specs.Stages.{check_header, closed, first_two, next_two, stages}
use Rattle.check_lists.specs.FileSpace.{file_space_right, free_entry_is, free_entry_of, free_fits, free_listed, free_not_empty, free_only}
use Rattle.check_lists.specs.Listed.{listed_once, nothing_else}
use Rattle.metadata_keys.specs.Pairs.{keys_distinct, same_key}
use Rattle.check_lists.specs.Metadata.{metadata_directory_right, metadata_entry_is, metadata_entry_of, metadata_fits, metadata_listed, metadata_only}
use Rattle.check_lists.specs.Stage.{directories_right}
use Rattle.check_records.specs.Checksum.{checksum_at, checksum_of, checksum_right, summed_bytes}
use Rattle.check_records.specs.Faults.{body_fault, body_right, chain_fault, checksum_fault, first_wrong, right_of}
use Rattle.check_records.specs.Frame.{end_right}
use Rattle.check_records.specs.MetadataBody.{metadata_right}
use Rattle.check_records.specs.TileBody.{index_right, section_packing, section_right, tile_right}
use Rattle.comparisons.specs.Comparisons.{alike, cell_halt, compared_in, compared_kind, compared_pages, comparison, differ, differ_at, differing_cells, first_halt, halt_at, halt_in, join_halt, second_halt, tiling_of, unless_halted}
use Rattle.crc32c.specs.Crc.{crc_bit, crc_byte, crc_of, crc_over, crc_part}
use Rattle.deeds.specs.Deeds.{cells_of, certain_by, counts_as_fill, deed, deed_by, deed_in, deed_said, fills_in, first_rule, grade_by, grade_from, graded, is_fill, is_scored, is_stored, lesser, lowest_in, minus_one, rectangle_scored, refusal_in, score_of, score_within, second_rule}
use Rattle.geometry.specs.Sizes.{cell_offset, element_bytes, element_packing, least_length, packing_of, stored_size, tile_bytes, uncompressed}
use Rattle.geometry.specs.Tiles.{cell_inside, cell_tile, inside_of, tile_count, tile_in, tile_of, tiles_across, tiles_along, tiles_down, tiles_in}
use Rattle.header.specs.Element.{block_at, block_size, cell_size, description_at, element, element_name, entries_read, entry_at, entry_end, entry_start, fill_bits, fill_offset, label_at, string_end, string_size, unit_at}
use Rattle.header.specs.Names.{five_rules, identifier, last_byte, letter, name_byte, name_bytes, within}
use Rattle.header.specs.Tail.{fields_end, method_count, methods_at, product_label_at}
use Rattle.header.specs.Texts.{entry_texts, string_text, text_right}
use Rattle.page_check.specs.Stages.{check, check_directories, check_from_records, check_records, unless}
use Rattle.record.specs.Chain.{end_of, find, find_not, header_end, records, records_end, records_of, starts, starts_go}
use Rattle.record.specs.Record.{padded, record_limit, record_ok}
use Rattle.rectangles.specs.Rectangles.{cell_says, cells_given, given_in, room_for}
use Rattle.row_lists.specs.Entries.{count_in, differing_in, entries_at, flat, listed}
use Rattle.score_rule.specs.Rules.{other_id, page_says, rule_said, score_rule}
use Rattle.store.specs.Many.{rectangle_inside}
use Rattle.store.specs.Named.{ids_named, is_named, records_named}
use Rattle.utf8.specs.Utf8.{following, goes_on, never, octet, rows, tail, utf8}
use Rattle.wire.specs.Bytes.{byte_at, number, number_at, part, same_bytes}
use Rattle.wire.specs.Items.{advance}
use Rattle.wire.specs.Lists.{below, count_below, every, one_if, select, some}
use Rattle.wire.specs.Tests.{all_below, passes, sum_below}
use Rattle.exact_products.specs.Samples.{ProductsSo}

pub products_so : ProductsSo
unfolding advance alike all_below below block_at block_size body_fault body_right byte_at carries cell_by cell_from cell_halt cell_in cell_inside cell_offset cell_says cell_size cell_tile cells_given cells_of certain_by chain_fault check check_directories check_from_records check_header check_records checksum_at checksum_fault checksum_of checksum_right closed compared_in compared_kind compared_pages comparison content_length_at count_below count_in counts_as_fill crc_bit crc_byte crc_of crc_over crc_part data_type deed deed_by deed_in deed_said description_at differ differ_at differing_cells differing_in directories_right element element_bytes element_content_at element_name element_packing element_right elements_right end_of end_right entries_at entries_read entry_at entry_count entry_end entry_start entry_texts every fields_end file_space_at file_space_right fill_bits fill_of fill_offset fills_in find find_not first_halt first_rule first_two first_wrong five_rules flat fold_below fold_inside fold_rectangle following form_right frame_right free_count free_entry_at free_entry_is free_entry_of free_fits free_listed free_not_empty free_only gate given_in gives_tile goes_on grade_by grade_from graded halt_at halt_in header_end header_right identified identifier ids_named in_grid in_rectangle in_span index_right inside_of is_fill is_named is_scored is_stored join_halt keys_distinct label_at last_byte least_length length_right lesser letter listed listed_once location_of lowest_in mark meaning meant metadata_at metadata_count metadata_description_at metadata_directory_right metadata_end metadata_entry_at metadata_entry_end metadata_entry_is metadata_entry_of metadata_entry_size metadata_fits metadata_length metadata_listed metadata_name metadata_only metadata_right method_count methods_at minus_one name_byte name_bytes names_differ never next_two no_other nothing_else number number_at number_of octet offset_in one_if options_right other_id packing_of padded page_says part passes positive product_label_at record_id record_id_at record_limit record_ok records records_end records_named records_of records_with rectangle_inside rectangle_right rectangle_scored reference_at reference_from reference_of reference_size references_end refers_or_zero refers_to refusal_in right_of room_for rows rule_said same_bytes same_key score_of score_rule score_within second_halt second_rule section_at section_end section_length section_packing section_right select sides_right sides_within some span_right stages starts starts_go stored_size string_end string_size string_text sum_below summed_bytes tabled tail tail_right text_right tile_bytes tile_count tile_directory_at tile_directory_right tile_end tile_in tile_index tile_of tile_right tiles_across tiles_along tiles_down tiles_in tiles_listed tiles_only tiling_of uncompressed unit_at unless unless_halted unless_refused utf8 value_of version_right within within_ceilings
products_so =
    record {
      doubtful = refl;
      unread = refl;
      no_short = refl;
      outside = refl;
      compared = refl;
      listed = refl;
      refused = refl;
      unlike = refl;
      cells = refl;
      kinds = refl;
      bits = refl;
    }
