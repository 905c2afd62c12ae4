-- The sample front, by computing. Assumes nothing.
use mathlib.Core.Path.{refl}
use Rattle.wire.specs.Bytes.{bytes_of, part, zeros, same_bytes, byte_at}
use Rattle.wire.specs.Tests.{all_below, passes, sum_below}
use Rattle.crc32c.specs.Crc.{crc_bit, crc_byte, crc_of, crc_over}
use Rattle.utf8.specs.Utf8.{following, goes_on, never, octet, rows, tail, utf8}
use Rattle.answer.specs.Refusals.{gate, unless_refused}
use Rattle.header.specs.Names.{five_rules, identifier, last_byte, letter, name_byte, name_bytes, within}
use Rattle.header.specs.Element.{block_size, cell_size}
use Rattle.geometry.specs.Tiles.{tiles_along, tiles_in}
use Rattle.geometry.specs.Sizes.{least_length, uncompressed}
use Rattle.check_header.specs.Identification.{mark}
use Rattle.check_header.specs.HeaderRecord.{positive}
use Rattle.written_records.specs.Pieces.{checksum_for, record_head, record_length, unclosed, record_of}
use Rattle.fronts.specs.Front.{strung, string_of, range_count, range_number, block_of, label_offset, texts_end, entry_length, entry_of, fixed_of, entries_of, methods_of, body_of, block_bytes, front_of}
use Rattle.fronts.specs.Judged.{sides_told, names_apart, texts_told, element_told, elements_told, label_told, header_told, sides_allowed, tile_told, counts_allowed, ceilings_told, told_verdict}
use Rattle.fronts.specs.Given.{number_of, texts_length, text_at, stated_by, method_length, method_at, described_by, texts_short, method_short, describable, front_verdict, front_made}
use Rattle.fronts.specs.Samples.{SampleFront}

pub sample_front : SampleFront
unfolding bytes_of part zeros same_bytes byte_at all_below passes sum_below crc_bit crc_byte crc_of crc_over following goes_on never octet rows tail utf8 gate unless_refused five_rules identifier last_byte letter name_byte name_bytes within block_size cell_size tiles_along tiles_in least_length uncompressed mark positive checksum_for record_head record_length unclosed record_of strung string_of range_count range_number block_of label_offset texts_end entry_length entry_of fixed_of entries_of methods_of body_of block_bytes front_of sides_told names_apart texts_told element_told elements_told label_told header_told sides_allowed tile_told counts_allowed ceilings_told told_verdict number_of texts_length text_at stated_by method_length method_at described_by texts_short method_short describable front_verdict front_made
sample_front = record { is = refl; made = refl; short = refl; unsaid = refl; unnamed = refl }
