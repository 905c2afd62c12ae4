-- A file with metadata records, computed. Assumes nothing.
use mathlib.Core.Path.{refl}
use Rattle.answer.specs.Refusals.{gate, unless_refused}
use Rattle.bodies.specs.ListDirectories.{entry_count, file_space_at, free_count, free_entry_at, metadata_at, metadata_count, metadata_entry_at, metadata_entry_end, metadata_entry_size}
use Rattle.bodies.specs.MetadataRecord.{content_length_at, data_type, metadata_description_at, metadata_end, metadata_length, metadata_name, record_id, record_id_at}
use Rattle.bodies.specs.TileDirectory.{in_rectangle, in_span, number_of, reference_at, reference_from, reference_of, reference_size, references_end, tile_directory_at}
use Rattle.bodies.specs.TileRecord.{section_at, section_end, section_length, tile_end, tile_index}
use Rattle.tile_routes.specs.Ways.{carries, referred_to}
use Rattle.check_directory.specs.References.{no_other, refers_or_zero, refers_to}
use Rattle.check_directory.specs.TileRules.{form_right, gives_tile, rectangle_right, span_right, tile_directory_right, tiles_listed, tiles_only}
use Rattle.check_header.specs.Ceilings.{sides_within, within_ceilings}
use Rattle.check_header.specs.HeaderRecord.{element_right, elements_right, frame_right, header_right, length_right, names_differ, options_right, positive, sides_right, tail_right}
use Rattle.check_header.specs.Identification.{identified, mark, version_right}
use Rattle.check_header.specs.Stages.{check_header, closed, first_two, next_two, stages}
use Rattle.check_lists.specs.FileSpace.{file_space_right, free_entry_is, free_entry_of, free_fits, free_listed, free_not_empty, free_only}
use Rattle.check_lists.specs.Listed.{listed_once, nothing_else}
use Rattle.metadata_keys.specs.Pairs.{keys_distinct, same_key}
use Rattle.check_lists.specs.Metadata.{metadata_directory_right, metadata_entry_is, metadata_entry_of, metadata_fits, metadata_listed, metadata_only}
use Rattle.check_lists.specs.Stage.{directories_right}
use Rattle.check_records.specs.Checksum.{checksum_at, checksum_of, checksum_right, summed_bytes}
use Rattle.check_records.specs.Faults.{body_fault, body_right, chain_fault, checksum_fault, first_wrong, right_of}
use Rattle.check_records.specs.Frame.{end_right}
use Rattle.check_records.specs.MetadataBody.{metadata_right}
use Rattle.check_records.specs.TileBody.{index_right, section_packing, section_right, tile_right}
use Rattle.correct.specs.Front.{sealed_front}
use Rattle.correct.specs.Opening.{compact_of, full_directory, opened_fields, opened_front, opened_more, opened_page, opened_reference, unwanted}
use Rattle.correct.specs.Removing.{is_there, removed_page, removed_pieces}
use Rattle.correct.specs.Storing.{freed_of, tile_referred}
use Rattle.crc32c.specs.Crc.{crc_bit, crc_byte, crc_of, crc_over, crc_part}
use Rattle.geometry.specs.Sizes.{element_bytes, element_packing, least_length, packing_of, stored_size, tile_bytes, uncompressed}
use Rattle.geometry.specs.Tiles.{tile_count, tiles_across, tiles_along, tiles_down, tiles_in}
use Rattle.header.specs.Element.{block_at, block_size, cell_size, description_at, element, element_name, entries_read, entry_at, entry_end, entry_start, fill_bits, fill_offset, label_at, string_end, string_size, unit_at}
use Rattle.header.specs.Names.{five_rules, identifier, last_byte, letter, name_byte, name_bytes, within}
use Rattle.header.specs.Tail.{fields_end, method_count, methods_at, product_label_at}
use Rattle.header.specs.Texts.{entry_texts, string_text, text_right}
use Rattle.page_check.specs.Stages.{check, check_directories, check_from_records, check_records, unless}
use Rattle.pieces.specs.Edits.{reference_bytes, referring, resealed, with_reference}
use Rattle.pieces.specs.Pieces.{attach, cleared, free_record, freeing, is_free, join_free, nothing_to_join, piece_at, pieces, pieces_of}
use Rattle.record.specs.Chain.{end_of, find, find_not, header_end, records, records_end, records_of, starts, starts_go}
use Rattle.record.specs.Record.{padded, record_limit, record_ok}
use Rattle.score_rule.specs.Rules.{other_id, page_says, rule_said, score_rule}
use Rattle.store.specs.Named.{ids_named, is_named, records_named}
use Rattle.utf8.specs.Utf8.{following, goes_on, never, octet, rows, tail, utf8}
use Rattle.wire.specs.Bytes.{byte_at, bytes_of, number, number_at, part, put, same_bytes, zeros}
use Rattle.wire.specs.Items.{advance}
use Rattle.wire.specs.Lists.{count_below, every, one_if, select, some}
use Rattle.wire.specs.Tests.{all_below, passes, sum_below}
use Rattle.writable.specs.Writable.{directories_open, directory_full, is_opened, no_file_space, open_for_writing, records_right}
use Rattle.written_records.specs.Directory.{directory_form, directory_of, references_of}
use Rattle.written_records.specs.Pieces.{checksum_for, record_head, record_length, record_of, sealed, unclosed}
use Rattle.correction_samples.specs.Ruled.{RuledSo}

pub ruled_so : RuledSo
unfolding advance all_below attach block_at block_size body_fault body_right byte_at bytes_of carries cell_size chain_fault check check_directories check_from_records check_header check_records checksum_at checksum_fault checksum_for checksum_of checksum_right cleared closed compact_of content_length_at count_below crc_bit crc_byte crc_of crc_over crc_part data_type description_at directories_open directories_right directory_form directory_full directory_of element element_bytes element_name element_packing element_right elements_right end_of end_right entries_read entry_at entry_count entry_end entry_start entry_texts every fields_end file_space_at file_space_right fill_bits fill_offset find find_not first_two first_wrong five_rules following form_right frame_right free_count free_entry_at free_entry_is free_entry_of free_fits free_listed free_not_empty free_only free_record freed_of freeing full_directory gate gives_tile goes_on header_end header_right identified identifier ids_named in_rectangle in_span index_right is_free is_named is_opened is_there join_free keys_distinct label_at last_byte least_length length_right letter listed_once mark metadata_at metadata_count metadata_description_at metadata_directory_right metadata_end metadata_entry_at metadata_entry_end metadata_entry_is metadata_entry_of metadata_entry_size metadata_fits metadata_length metadata_listed metadata_name metadata_only metadata_right method_count methods_at name_byte name_bytes names_differ never next_two no_file_space no_other nothing_else nothing_to_join number number_at number_of octet one_if open_for_writing opened_fields opened_front opened_more opened_page opened_reference options_right other_id packing_of padded page_says part passes piece_at pieces pieces_of positive product_label_at put record_head record_id record_id_at record_length record_limit record_of record_ok records records_end records_named records_of records_right rectangle_right reference_at reference_bytes reference_from reference_of reference_size references_end references_of referred_to referring refers_or_zero refers_to removed_page removed_pieces resealed right_of rows rule_said same_bytes same_key score_rule sealed sealed_front section_at section_end section_length section_packing section_right select sides_right sides_within some span_right stages starts starts_go stored_size string_end string_size string_text sum_below summed_bytes tail tail_right text_right tile_bytes tile_count tile_directory_at tile_directory_right tile_end tile_index tile_referred tile_right tiles_across tiles_along tiles_down tiles_in tiles_listed tiles_only unclosed uncompressed unit_at unless unless_refused unwanted utf8 version_right with_reference within within_ceilings zeros
ruled_so = record { accepted = refl; ids = refl; other_case = refl; says = refl; kept = refl; kept_open = refl }
