-- The sample page is laid down, byte by byte. Assumes nothing.
use mathlib.Core.Path.{refl}
use Rattle.answer.specs.Refusals.{gate, unless_refused}
use Rattle.answer.specs.Values.{value_of}
use Rattle.bodies.specs.ListDirectories.{entry_count, file_space_at, free_count, free_entry_at, metadata_at, metadata_count, metadata_entry_at, metadata_entry_end, metadata_entry_size}
use Rattle.bodies.specs.MetadataRecord.{content_length_at, data_type, metadata_description_at, metadata_end, metadata_length, metadata_name, record_id, record_id_at}
use Rattle.bodies.specs.TileDirectory.{in_rectangle, in_span, number_of, reference_at, reference_from, reference_of, reference_size, references_end, tile_directory_at}
use Rattle.bodies.specs.TileRecord.{element_content_at, section_at, section_end, section_length, tile_end, tile_index}
use Rattle.check_directory.specs.References.{no_other, refers_or_zero, refers_to}
use Rattle.check_directory.specs.TileRules.{form_right, gives_tile, rectangle_right, span_right, tile_directory_right, tiles_listed, tiles_only}
use Rattle.check_header.specs.Ceilings.{sides_within, within_ceilings}
use Rattle.check_header.specs.HeaderRecord.{element_right, elements_right, frame_right, header_right, length_right, names_differ, options_right, positive, sides_right, tail_right}
use Rattle.check_header.specs.Identification.{identified, mark, version_right}
use Rattle.check_header.specs.Stages.{check_front, check_header, closed, first_two, front_right, next_two, stages}
use Rattle.check_lists.specs.FileSpace.{file_space_right, free_entry_is, free_entry_of, free_fits, free_listed, free_only}
use Rattle.check_lists.specs.Listed.{listed_once, nothing_else}
use Rattle.metadata_keys.specs.Pairs.{keys_distinct, same_key}
use Rattle.check_lists.specs.Metadata.{metadata_directory_right, metadata_entry_is, metadata_entry_of, metadata_fits, metadata_listed, metadata_only}
use Rattle.check_records.specs.Checksum.{summed_bytes}
use Rattle.check_records.specs.MetadataBody.{metadata_right}
use Rattle.check_records.specs.TileBody.{index_right, section_packing, section_right, tile_right}
use Rattle.crc32c.specs.Crc.{crc_bit, crc_byte, crc_of, crc_over, crc_part}
use Rattle.geometry.specs.Sizes.{cell_offset, element_bytes, element_packing, least_length, packing_of, plain_tile_length, stored_size, tile_bytes, tile_length, uncompressed}
use Rattle.geometry.specs.Tiles.{inside_of, tile_count, tile_in, tile_of, tiles_across, tiles_along, tiles_down, tiles_in}
use Rattle.header.specs.Element.{block_at, block_size, cell_size, description_at, element, element_name, entries_read, entry_at, entry_end, entry_start, fill_bits, fill_offset, label_at, string_end, string_size, unit_at}
use Rattle.header.specs.Names.{five_rules, identifier, last_byte, letter, name_byte, name_bytes, within}
use Rattle.header.specs.Tail.{fields_end, method_count, methods_at, product_label_at}
use Rattle.header.specs.Texts.{entry_texts, string_text, text_right}
use Rattle.utf8.specs.Utf8.{following, goes_on, never, octet, rows, tail, utf8}
use Rattle.written_records.specs.Pieces.{checksum_for, record_head, record_length, record_of, sealed, section, unclosed}
use Rattle.written_records.specs.Tile.{sections, sections_of, plain_record, tile_record}
use Rattle.written_records.specs.Directory.{directory_form, references_of, directory_of}
use Rattle.lay_down.specs.Answer.{ascending, fits_in, input_right, input_verdict, laid, lay_down_verdict, length_allowed, length_verdict}
use Rattle.lay_down.specs.Page.{compact_from, directory_body, directory_record, directory_start, fields_set, file_length, laid_file, laid_front, references, tile_records}
use Rattle.page_check.specs.Stages.{unless}
use Rattle.record.specs.Chain.{end_of, find, find_not, header_end, records, records_end, records_of, starts, starts_go}
use Rattle.record.specs.Record.{padded, record_limit, record_ok}
use Rattle.wire.specs.Bytes.{byte_at, bytes_of, number, number_at, part, put, same_bytes, zeros}
use Rattle.wire.specs.Items.{advance}
use Rattle.wire.specs.Lists.{count_below, every, one_if, select, some}
use Rattle.wire.specs.Tests.{all_below, passes, sum_below}
use Rattle.read_back.specs.Sample.{SampleLaid}

pub sample_laid : SampleLaid
unfolding advance all_below ascending block_at block_size byte_at bytes_of cell_offset cell_size check_front check_header checksum_for closed compact_from content_length_at count_below crc_bit crc_byte crc_of crc_over crc_part data_type description_at directory_body directory_form directory_record directory_start element element_bytes element_content_at element_name element_packing element_right elements_right end_of entries_read entry_at entry_count entry_end entry_start entry_texts every fields_end fields_set file_length file_space_at file_space_right fill_bits fill_offset find find_not first_two fits_in five_rules following form_right frame_right free_count free_entry_at free_entry_is free_entry_of free_fits free_listed free_only front_right gate gives_tile goes_on header_end header_right identified identifier in_rectangle in_span index_right input_right input_verdict inside_of keys_distinct label_at laid laid_file laid_front last_byte lay_down_verdict least_length length_allowed length_right length_verdict letter listed_once mark metadata_at metadata_count metadata_description_at metadata_directory_right metadata_end metadata_entry_at metadata_entry_end metadata_entry_is metadata_entry_of metadata_entry_size metadata_fits metadata_length metadata_listed metadata_name metadata_only metadata_right method_count methods_at name_byte name_bytes names_differ never next_two no_other nothing_else number number_at number_of octet one_if options_right packing_of padded part passes plain_record plain_tile_length positive product_label_at put record_head record_id record_id_at record_length record_limit record_of record_ok records records_end records_of rectangle_right reference_at reference_from reference_of reference_size references references_of directory_of references_end refers_or_zero refers_to rows same_bytes same_key sealed section section_at section_end section_length section_packing section_right sections sections_of select sides_right sides_within some span_right stages starts starts_go stored_size string_end string_size string_text sum_below summed_bytes tail tail_right text_right tile_bytes tile_count tile_directory_at tile_directory_right tile_end tile_in tile_index tile_length tile_of tile_record tile_records tile_right tiles_across tiles_along tiles_down tiles_in tiles_listed tiles_only unclosed uncompressed unit_at unless unless_refused utf8 value_of version_right within within_ceilings zeros
sample_laid = record { answer = refl; bytes = refl }
