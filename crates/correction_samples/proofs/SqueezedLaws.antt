-- Squeezed pages, computed. Assumes nothing.
use mathlib.Core.Path.{refl}
use Rattle.answer.specs.Refusals.{gate, unless_refused}
use Rattle.bodies.specs.ListDirectories.{entry_count, file_space_at, free_count, free_entry_at, metadata_at, metadata_count, metadata_entry_at, metadata_entry_end, metadata_entry_size}
use Rattle.bodies.specs.MetadataRecord.{content_length_at, data_type, metadata_description_at, metadata_end, metadata_length, metadata_name, record_id, record_id_at}
use Rattle.bodies.specs.TileDirectory.{in_rectangle, in_span, number_of, reference_at, reference_from, reference_of, reference_size, references_end, tile_directory_at}
use Rattle.bodies.specs.TileRecord.{element_content_at, section_at, section_end, section_length, tile_end, tile_index}
use Rattle.tile_routes.specs.Ways.{carries, referred_to}
use Rattle.check_directory.specs.References.{no_other, refers_or_zero, refers_to}
use Rattle.check_directory.specs.TileRules.{form_right, gives_tile, rectangle_right, span_right, tile_directory_right, tiles_listed, tiles_only}
use Rattle.check_header.specs.Ceilings.{sides_within, within_ceilings}
use Rattle.check_header.specs.HeaderRecord.{element_right, elements_right, frame_right, header_right, length_right, names_differ, options_right, positive, sides_right, tail_right}
use Rattle.check_header.specs.Identification.{identified, mark, version_right}
use Rattle.check_header.specs.Stages.{check_header, closed, first_two, next_two, stages}
use Rattle.check_lists.specs.FileSpace.{file_space_right, free_entry_is, free_entry_of, free_fits, free_listed, free_not_empty, free_only}
use Rattle.check_lists.specs.Listed.{listed_once, nothing_else}
use Rattle.metadata_keys.specs.Pairs.{keys_distinct, same_key}
use Rattle.check_lists.specs.Metadata.{metadata_directory_right, metadata_entry_is, metadata_entry_of, metadata_fits, metadata_listed, metadata_only}
use Rattle.check_lists.specs.Stage.{directories_right}
use Rattle.check_records.specs.Checksum.{checksum_at, checksum_of, checksum_right, summed_bytes}
use Rattle.check_records.specs.Faults.{body_fault, body_right, chain_fault, checksum_fault, first_wrong, right_of}
use Rattle.check_records.specs.Frame.{end_right}
use Rattle.check_records.specs.MetadataBody.{metadata_right}
use Rattle.check_records.specs.TileBody.{index_right, section_packing, section_right, tile_right}
use Rattle.correct.specs.Closing.{any_free, file_space_record, free_entry_bytes, free_list}
use Rattle.correct.specs.Front.{sealed_front, page_in, workable}
use Rattle.correct.specs.Opening.{compact_of, full_directory, opened_fields, opened_front, opened_more, opened_page, opened_reference, unwanted}
use Rattle.correct.specs.Removing.{is_there, removed_page, removed_pieces}
use Rattle.correct.specs.Storing.{cells_put, freed_of, is_plain, newly_stored, overwritten, stored_at, stored_over, stored_page, stored_pieces, tile_referred}
use Rattle.correct.specs.Plan.{end_from, gap_right, is_kept, kept_starts, plan_from, plan_right, planned_end, start_right, tight_from, tight_plan}
use Rattle.correct.specs.Renamed.{metadata_renamed, named_by, put_each, renamed_in, tiles_renamed}
use Rattle.correct.specs.Squeezing.{moved_to, squeezed_fields, squeezed_from, squeezed_page, squeezed_pieces}
use Rattle.crc32c.specs.Crc.{crc_bit, crc_byte, crc_of, crc_over, crc_part}
use Rattle.geometry.specs.Sizes.{element_bytes, element_packing, least_length, packing_of, plain_tile_length, stored_size, tile_bytes, tile_length, uncompressed}
use Rattle.geometry.specs.Tiles.{tile_count, tiles_across, tiles_along, tiles_down, tiles_in}
use Rattle.header.specs.Element.{block_at, block_size, cell_size, description_at, element, element_name, entries_read, entry_at, entry_end, entry_start, label_at, string_end, string_size, unit_at}
use Rattle.header.specs.Names.{five_rules, identifier, last_byte, letter, name_byte, name_bytes, within}
use Rattle.header.specs.Tail.{fields_end, method_count, methods_at, product_label_at}
use Rattle.header.specs.Texts.{entry_texts, string_text, text_right}
use Rattle.page_check.specs.Stages.{check, check_directories, check_from_records, check_records, unless}
use Rattle.pieces.specs.Edits.{left_over, place_for, placed, reference_bytes, referring, resealed, takes, with_reference}
use Rattle.pieces.specs.Pieces.{attach, cleared, free_record, freeing, is_free, join_free, nothing_to_join, piece_at, pieces, pieces_of}
use Rattle.pieces.specs.Standing.{standing, without}
use Rattle.record.specs.Chain.{end_of, find, find_not, header_end, records, records_end, records_of, starts, starts_go}
use Rattle.record.specs.Record.{padded, record_limit, record_ok}
use Rattle.utf8.specs.Utf8.{following, goes_on, never, octet, rows, tail, utf8}
use Rattle.wire.specs.Bytes.{byte_at, bytes_of, number, number_at, part, put, same_bytes, zeros}
use Rattle.wire.specs.Items.{advance}
use Rattle.wire.specs.Lists.{below, count_below, every, one_if, select, some}
use Rattle.wire.specs.Tests.{all_below, passes, sum_below}
use Rattle.writable.specs.Writable.{directories_open, directory_full, is_opened, no_file_space, open_for_writing, records_right}
use Rattle.written_records.specs.Directory.{directory_form, directory_of, references_of}
use Rattle.written_records.specs.Pieces.{checksum_for, record_head, record_length, record_of, sealed, section, unclosed}
use Rattle.written_records.specs.Tile.{plain_record, sections, sections_of, tile_record}
use Rattle.squeezed.specs.Squeezed.{gaps_from, plan_gaps}
use Rattle.correct.specs.Calls.{answer_by, change_of, change_on, line_of, admitted}
use Rattle.correct.specs.Answers.{on_open_page, on_page, plan_then, answered, workable_then}
use Rattle.correction_samples.specs.Squeezed.{SqueezedSo}

pub squeezed_so : SqueezedSo
unfolding end_from gap_right gaps_from is_kept kept_starts moved_to named_by plan_from plan_gaps plan_right planned_end put_each metadata_renamed renamed_in squeezed_fields squeezed_from squeezed_page squeezed_pieces start_right tight_from tight_plan tiles_renamed advance no_file_space directories_open carries reference_bytes referred_to tile_referred all_below any_free attach below block_at block_size body_fault body_right byte_at bytes_of cell_size cells_put chain_fault check check_directories check_from_records check_header check_records checksum_at checksum_fault checksum_for checksum_of checksum_right cleared closed compact_of content_length_at count_below crc_bit crc_byte crc_of crc_over crc_part data_type description_at directories_right directory_form directory_full directory_of element element_bytes element_content_at element_name element_packing element_right elements_right end_of end_right entries_read entry_at entry_count entry_end entry_start entry_texts every fields_end file_space_at file_space_record file_space_right find find_not first_two first_wrong five_rules following form_right frame_right free_count free_entry_bytes free_entry_at free_entry_is free_entry_of free_fits free_list free_listed free_not_empty free_only free_record freed_of freeing full_directory gate gives_tile goes_on header_end header_right identified identifier in_rectangle in_span index_right is_free is_opened is_plain is_there join_free keys_distinct label_at last_byte least_length left_over length_right letter listed_once mark metadata_at metadata_count metadata_description_at metadata_directory_right metadata_end metadata_entry_at metadata_entry_end metadata_entry_is metadata_entry_of metadata_entry_size metadata_fits metadata_length metadata_listed metadata_name metadata_only metadata_right method_count methods_at name_byte name_bytes names_differ never newly_stored next_two no_other nothing_else nothing_to_join number number_at number_of octet one_if open_for_writing opened_fields opened_front opened_more opened_page opened_reference options_right overwritten packing_of padded part passes piece_at pieces pieces_of place_for placed plain_record plain_tile_length positive product_label_at put record_head record_id record_id_at record_length record_limit record_of record_ok records records_end records_of records_right rectangle_right reference_at reference_from reference_of reference_size references_end references_of referring refers_or_zero refers_to removed_page removed_pieces resealed right_of rows same_bytes same_key sealed sealed_front section section_at section_end section_length section_packing section_right sections sections_of select sides_right sides_within some span_right stages standing starts starts_go stored_at stored_over stored_page stored_pieces stored_size string_end string_size string_text sum_below summed_bytes tail tail_right takes text_right tile_bytes tile_count tile_directory_at tile_directory_right tile_end tile_index tile_length tile_record tile_right tiles_across tiles_along tiles_down tiles_in tiles_listed tiles_only unclosed uncompressed unit_at unless unless_refused unwanted utf8 version_right with_reference within within_ceilings without zeros answer_by change_of change_on line_of admitted on_open_page on_page plan_then answered page_in workable_then workable
squeezed_so =
    record {
      tight_is = refl;
      tight = refl;
      gaps = refl;
      stays = refl;
      answers = refl;
      too_few = refl;
      too_many = refl;
      up = refl;
      with_metadata = refl;
    }
