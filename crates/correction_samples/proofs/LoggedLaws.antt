-- A log replayed on the small pages, computed. Assumes nothing.
use mathlib.Core.Path.{refl}
use Rattle.answer.specs.Refusals.{gate, unless_refused}
use Rattle.bodies.specs.ListDirectories.{entry_count, file_space_at, free_count, free_entry_at, metadata_at, metadata_count, metadata_entry_at, metadata_entry_end, metadata_entry_size}
use Rattle.bodies.specs.MetadataRecord.{content_length_at, data_type, metadata_description_at, metadata_end, metadata_length, metadata_name, record_id, record_id_at}
use Rattle.bodies.specs.TileDirectory.{in_rectangle, in_span, number_of, reference_at, reference_from, reference_of, reference_size, references_end, tile_directory_at}
use Rattle.bodies.specs.TileRecord.{element_content_at, section_at, section_end, section_length, tile_end, tile_index}
use Rattle.tile_routes.specs.Ways.{carries, referred_to}
use Rattle.check_directory.specs.References.{no_other, refers_or_zero, refers_to}
use Rattle.check_directory.specs.TileRules.{form_right, gives_tile, rectangle_right, span_right, tile_directory_right, tiles_listed, tiles_only}
use Rattle.check_header.specs.Ceilings.{sides_within, within_ceilings}
use Rattle.check_header.specs.HeaderRecord.{element_right, elements_right, frame_right, header_right, length_right, names_differ, options_right, positive, sides_right, tail_right}
use Rattle.check_header.specs.Identification.{identified, mark, version_right}
use Rattle.check_header.specs.Stages.{check_header, closed, first_two, next_two, stages}
use Rattle.check_lists.specs.FileSpace.{file_space_right, free_entry_is, free_entry_of, free_fits, free_listed, free_not_empty, free_only}
use Rattle.check_lists.specs.Listed.{listed_once, nothing_else}
use Rattle.metadata_keys.specs.Pairs.{keys_distinct, same_key}
use Rattle.check_lists.specs.Metadata.{metadata_directory_right, metadata_entry_is, metadata_entry_of, metadata_fits, metadata_listed, metadata_only}
use Rattle.check_lists.specs.Stage.{directories_right}
use Rattle.check_records.specs.Checksum.{checksum_at, checksum_of, checksum_right, summed_bytes}
use Rattle.check_records.specs.Faults.{body_fault, body_right, chain_fault, checksum_fault, first_wrong, right_of}
use Rattle.check_records.specs.Frame.{end_right}
use Rattle.check_records.specs.MetadataBody.{metadata_right}
use Rattle.check_records.specs.TileBody.{index_right, section_packing, section_right, tile_right}
use Rattle.correct.specs.Answers.{answered, cells_then, on_accepted_page, on_open_page, on_page, room_left, tile_then, time_then, workable_then}
use Rattle.correct.specs.Calls.{admitted, after, answer_by, change_of, change_on, line_of, out_by}
use Rattle.correct.specs.Closing.{any_free, closed_fields, closed_front, closed_length, closed_more, closed_page, closed_reference, file_space_record, free_entry_bytes, free_list}
use Rattle.correct.specs.Front.{page_in, sealed_front, workable}
use Rattle.correct.specs.Opening.{compact_of, full_directory, opened_fields, opened_front, opened_length, opened_more, opened_page, opened_reference, unwanted}
use Rattle.correct.specs.Removing.{is_there, removed_page, removed_pieces}
use Rattle.correct.specs.Storing.{cells_put, freed_of, is_plain, newly_stored, overwritten, plain_contents, stored_at, stored_length, stored_over, stored_page, stored_pieces, tile_referred}
use Rattle.correction_logs.specs.Log.{end_of_entry, entries_end, entries_from, entries_go, entry_cells, entry_right, entry_tile, entry_whole, is_store, log_right}
use Rattle.crc32c.specs.Crc.{crc_bit, crc_byte, crc_of, crc_over, crc_part}
use Rattle.geometry.specs.Sizes.{element_bytes, element_packing, least_length, packing_of, plain_tile_length, stored_size, tile_bytes, tile_length, uncompressed}
use Rattle.geometry.specs.Tiles.{tile_count, tiles_across, tiles_along, tiles_down, tiles_in}
use Rattle.header.specs.Element.{block_at, block_size, cell_size, description_at, element, element_name, entries_read, entry_at, entry_end, entry_start, fill_bits, fill_offset, label_at, string_end, string_size, unit_at}
use Rattle.header.specs.Names.{five_rules, identifier, last_byte, letter, name_byte, name_bytes, within}
use Rattle.header.specs.Tail.{fields_end, method_count, methods_at, product_label_at}
use Rattle.header.specs.Texts.{entry_texts, string_text, text_right}
use Rattle.page_check.specs.Stages.{check, check_directories, check_from_records, check_records, unless}
use Rattle.pieces.specs.Edits.{left_over, place_for, placed, reference_bytes, referring, resealed, room_for, takes, with_reference}
use Rattle.pieces.specs.Pieces.{attach, cleared, free_record, freeing, is_free, join_free, nothing_to_join, piece_at, pieces, pieces_of}
use Rattle.record.specs.Chain.{end_of, find, find_not, header_end, records, records_end, records_of, starts, starts_go}
use Rattle.record.specs.Record.{padded, record_limit, record_ok}
use Rattle.replay.specs.Entries.{call_at, calls_from, log_calls, right_for}
use Rattle.replay.specs.Replay.{outcome_of, replay_answer, replay_out, replay_verdict, replayed, told}
use Rattle.utf8.specs.Utf8.{following, goes_on, never, octet, rows, tail, utf8}
use Rattle.wire.specs.Big.{big_at, big_from}
use Rattle.wire.specs.Bytes.{byte_at, bytes_of, number, number_at, part, put, same_bytes, zeros}
use Rattle.wire.specs.Items.{advance}
use Rattle.wire.specs.Lists.{below, count_below, every, one_if, select, some}
use Rattle.wire.specs.Tests.{all_below, passes, sum_below}
use Rattle.writable.specs.Writable.{directories_open, directory_full, is_opened, no_file_space, open_for_writing, records_right}
use Rattle.written_records.specs.Directory.{directory_form, directory_of, references_of}
use Rattle.written_records.specs.Pieces.{checksum_for, record_head, record_length, record_of, sealed, section, unclosed}
use Rattle.written_records.specs.Tile.{plain_record, sections_of, tile_record}
use Rattle.correction_samples.specs.Logged.{LoggedSo}

pub logged_so : LoggedSo
unfolding admitted advance after all_below answer_by answered any_free attach below big_at big_from block_at block_size body_fault body_right byte_at bytes_of call_at calls_from carries cell_size cells_put cells_then chain_fault change_of change_on check check_directories check_from_records check_header check_records checksum_at checksum_fault checksum_for checksum_of checksum_right cleared closed closed_fields closed_front closed_length closed_more closed_page closed_reference compact_of content_length_at count_below crc_bit crc_byte crc_of crc_over crc_part data_type description_at directories_open directories_right directory_form directory_full directory_of element element_bytes element_content_at element_name element_packing element_right elements_right end_of end_of_entry end_right entries_end entries_from entries_go entries_read entry_at entry_cells entry_count entry_end entry_right entry_start entry_texts entry_tile entry_whole every fields_end file_space_at file_space_record file_space_right fill_bits fill_offset find find_not first_two first_wrong five_rules following form_right frame_right free_count free_entry_at free_entry_bytes free_entry_is free_entry_of free_fits free_list free_listed free_not_empty free_only free_record freed_of freeing full_directory gate gives_tile goes_on header_end header_right identified identifier in_rectangle in_span index_right is_free is_opened is_plain is_store is_there join_free keys_distinct label_at last_byte least_length left_over length_right letter line_of listed_once log_calls log_right mark metadata_at metadata_count metadata_description_at metadata_directory_right metadata_end metadata_entry_at metadata_entry_end metadata_entry_is metadata_entry_of metadata_entry_size metadata_fits metadata_length metadata_listed metadata_name metadata_only metadata_right method_count methods_at name_byte name_bytes names_differ never newly_stored next_two no_file_space no_other nothing_else nothing_to_join number number_at number_of octet on_accepted_page on_open_page on_page one_if open_for_writing opened_fields opened_front opened_length opened_more opened_page opened_reference options_right out_by outcome_of overwritten packing_of padded page_in part passes piece_at pieces pieces_of place_for placed plain_contents plain_record plain_tile_length positive product_label_at put record_head record_id record_id_at record_length record_limit record_of record_ok records records_end records_of records_right rectangle_right reference_at reference_bytes reference_from reference_of reference_size references_end references_of referred_to referring refers_or_zero refers_to removed_page removed_pieces replay_answer replay_out replay_verdict replayed resealed right_for right_of room_for room_left rows same_bytes same_key sealed sealed_front section section_at section_end section_length section_packing section_right sections_of select sides_right sides_within some span_right stages starts starts_go stored_at stored_length stored_over stored_page stored_pieces stored_size string_end string_size string_text sum_below summed_bytes tail tail_right takes text_right tile_bytes tile_count tile_directory_at tile_directory_right tile_end tile_index tile_length tile_record tile_referred tile_right tile_then tiles_across tiles_along tiles_down tiles_in tiles_listed tiles_only time_then told unclosed uncompressed unit_at unless unless_refused unwanted utf8 version_right with_reference within within_ceilings workable workable_then zeros
logged_so = record { refused = refl; untouched = refl; stopped = refl; stopped_page = refl; done = refl; done_page = refl }
