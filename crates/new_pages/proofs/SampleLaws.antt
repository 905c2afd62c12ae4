-- The sample page from nothing, byte by byte. Assumes nothing.
use mathlib.Core.Path.{refl}
use Rattle.check_header.specs.Identification.{mark}
use Rattle.crc32c.specs.Crc.{crc_bit, crc_byte, crc_of, crc_over}
use Rattle.fronts.specs.Front.{block_bytes, block_of, body_of, entries_of, entry_length, entry_of, fixed_of, front_of, label_offset, methods_of, range_count, range_number, string_of, strung, texts_end}
use Rattle.fronts.specs.Given.{described_by, method_at, method_length, number_of, stated_by, text_at, texts_length}
use Rattle.geometry.specs.Sizes.{element_bytes, least_length, plain_tile_length, stored_size, tile_bytes, tile_length, uncompressed}
use Rattle.geometry.specs.Tiles.{tile_count, tiles_across, tiles_along, tiles_down, tiles_in}
use Rattle.header.specs.Element.{block_at, block_size, cell_size, description_at, element, entries_read, entry_at, entry_end, entry_start, fill_bits, fill_offset, label_at, string_end, string_size, unit_at}
use Rattle.lay_down.specs.Page.{compact_from, directory_body, directory_record, directory_start, fields_set, file_length, laid_file, laid_front, references, tile_records}
use Rattle.record.specs.Record.{record_limit}
use Rattle.wire.specs.Bytes.{byte_at, bytes_of, number, number_at, part, put, zeros}
use Rattle.wire.specs.Items.{advance}
use Rattle.wire.specs.Tests.{sum_below}
use Rattle.written_records.specs.Directory.{directory_form, directory_of, references_of}
use Rattle.written_records.specs.Pieces.{checksum_for, record_head, record_length, record_of, sealed, section, unclosed}
use Rattle.written_records.specs.Tile.{plain_record, sections, sections_of, tile_record}
use Rattle.new_pages.specs.Samples.{SampleMade}

pub sample_made : SampleMade
unfolding advance block_at block_bytes block_of block_size body_of byte_at bytes_of cell_size checksum_for compact_from crc_bit crc_byte crc_of crc_over described_by description_at directory_body directory_form directory_of directory_record directory_start element element_bytes entries_of entries_read entry_at entry_end entry_length entry_of entry_start fields_set file_length fill_bits fill_offset fixed_of front_of label_at label_offset laid_file laid_front least_length mark method_at method_length methods_of number number_at number_of part plain_record plain_tile_length put range_count range_number record_head record_length record_limit record_of references references_of sealed section sections sections_of stated_by stored_size string_end string_of string_size strung sum_below text_at texts_end texts_length tile_bytes tile_count tile_length tile_record tile_records tiles_across tiles_along tiles_down tiles_in unclosed uncompressed unit_at zeros
sample_made = record { bytes = refl }
