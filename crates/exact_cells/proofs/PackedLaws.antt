-- The page with compressed tiles computed: it is accepted, and its cells have the meanings that the table says; by demand 3 each route
-- gives these. Assumes nothing.
use Rattle.std.specs.Prelude.{Ok, Result}
use Rattle.answer.specs.declared.Refusal.{Refusal}
use mathlib.Core.Path.{◌≡◌, refl, ap₂, ◌∙◌}
use Prim.Native.Nat.{ℕ}
use mathlib.Core.List.{List, [], ◌∷◌, map}
use Rattle.answer.specs.declared.Cell.{Cell}
use Rattle.answer.specs.Refusals.{gate, unless_refused}
use Rattle.answer.specs.Values.{value_of}
use Rattle.bodies.specs.ListDirectories.{entry_count, file_space_at, free_count, metadata_at, metadata_count}
use Rattle.bodies.specs.TileDirectory.{in_rectangle, in_span, number_of, reference_at, reference_from, reference_of, reference_size, references_end, tile_directory_at}
use Rattle.bodies.specs.TileRecord.{element_content_at, section_at, section_end, section_length, tile_end, tile_index}
use Rattle.cells.specs.Asked.{in_grid}
use Rattle.cells.specs.Meaning.{meaning}
use Rattle.tile_routes.specs.Ways.{carries, meant, records_with}
use Rattle.cells.specs.Routes.{cell_by}
use Rattle.cells.specs.TileCells.{cell_from, cell_in, fill_of, location_of, offset_in}
use Rattle.check_directory.specs.References.{no_other, refers_or_zero, refers_to}
use Rattle.check_directory.specs.TileRules.{form_right, gives_tile, rectangle_right, span_right, tile_directory_right, tiles_listed, tiles_only}
use Rattle.check_header.specs.Ceilings.{sides_within, within_ceilings}
use Rattle.check_header.specs.HeaderRecord.{element_right, elements_right, frame_right, header_right, length_right, names_differ, options_right, positive, sides_right, tail_right}
use Rattle.check_header.specs.Identification.{identified, mark, version_right}
use Rattle.check_header.specs.Stages.{check_header, closed, first_two, next_two, stages}
use Rattle.check_lists.specs.FileSpace.{file_space_right, free_fits, free_listed, free_only}
use Rattle.check_lists.specs.Listed.{listed_once, nothing_else}
use Rattle.metadata_keys.specs.Pairs.{keys_distinct}
use Rattle.check_lists.specs.Metadata.{metadata_directory_right, metadata_fits, metadata_listed, metadata_only}
use Rattle.check_lists.specs.Stage.{directories_right}
use Rattle.check_records.specs.Checksum.{checksum_at, checksum_of, checksum_right}
use Rattle.check_records.specs.Faults.{body_fault, body_right, chain_fault, checksum_fault, first_wrong, right_of}
use Rattle.check_records.specs.Frame.{end_right}
use Rattle.check_records.specs.TileBody.{index_right, section_packing, section_right, tile_right}
use Rattle.geometry.specs.Sizes.{cell_offset, element_bytes, element_packing, least_length, packing_of, stored_size, tile_bytes, uncompressed}
use Rattle.geometry.specs.Tiles.{cell_inside, cell_tile, inside_of, tile_count, tile_in, tile_of, tiles_across, tiles_along, tiles_down, tiles_in}
use Rattle.header.specs.Element.{block_at, block_size, cell_size, description_at, element, element_name, entries_read, entry_at, entry_end, entry_start, fill_bits, fill_offset, label_at, string_end, string_size, unit_at}
use Rattle.header.specs.Names.{five_rules, identifier, last_byte, letter, name_byte, name_bytes, within}
use Rattle.header.specs.Tail.{fields_end, method_count, methods_at, product_label_at}
use Rattle.header.specs.Texts.{entry_texts, string_text, text_right}
use Rattle.huffman.specs.Bits.{bit_at, bits_at, octet_at}
use Rattle.huffman.specs.Symbols.{among, distinct, fresh, symbol_at, symbols_of}
use Rattle.huffman.specs.Tree.{leaf_at, leaves, read_tree, tree_at}
use Rattle.m32.specs.M32.{code_of, codes, first_step, read_code, read_codes}
use Rattle.page_check.specs.Stages.{check, check_directories, check_from_records, check_records, unless}
use Rattle.predict.specs.Predict.{cell_rows, plus, predicted, row_from, row_of, tile_cells}
use Rattle.record.specs.Chain.{end_of, find, find_not, header_end, records, records_end, records_of, starts, starts_go}
use Rattle.record.specs.Record.{padded, record_limit, record_ok}
use Rattle.unpack.specs.Unpack.{all_short, bits_of, bits_of_cell, cell_at, count_right, head_right, in_range, is_short, leaves_read, numbers_in, numbers_of, numbers_right, symbols, symbols_read, tree_in, tree_right, unpacked, values_of}
use Rattle.utf8.specs.Utf8.{goes_on, utf8}
use Rattle.wire.specs.Bytes.{byte_at, bytes_of, number, number_at, part, same_bytes}
use Rattle.wire.specs.Items.{advance}
use Rattle.wire.specs.Lists.{every, select, some}
use Rattle.wire.specs.Tests.{all_below, passes, sum_below}
use Rattle.cells.specs.Demand3.{OneAnswer}
use Rattle.cells.proofs.DemandLaws.{demand_3}
use Rattle.exact_cells.specs.PackedPage.{packed_file}
use Rattle.exact_cells.specs.PackedReads.{Read, reads, answers, PackedRead}

computed : (check packed_file ≡ Ok tt) × (answers (meaning packed_file) ≡ map (λ (r : Read). r.answer) reads)
unfolding advance all_below all_short among bit_at bits_at bits_of bits_of_cell block_at block_size body_fault body_right byte_at bytes_of carries cell_at cell_by cell_from cell_in cell_inside cell_offset cell_rows cell_size cell_tile chain_fault check check_directories check_from_records check_header check_records checksum_at checksum_fault checksum_of checksum_right closed code_of codes count_right description_at directories_right distinct element element_bytes element_content_at element_name element_packing element_right elements_right end_of end_right entries_read entry_at entry_count entry_end entry_start entry_texts every fields_end file_space_at file_space_right fill_bits fill_of fill_offset find find_not first_step first_two first_wrong five_rules form_right frame_right free_count free_fits free_listed free_only fresh gate gives_tile goes_on head_right header_end header_right identified identifier in_grid in_range in_rectangle in_span index_right inside_of is_short keys_distinct label_at last_byte leaf_at least_length leaves leaves_read length_right letter listed_once location_of mark meaning meant metadata_at metadata_count metadata_directory_right metadata_fits metadata_listed metadata_only method_count methods_at name_byte name_bytes names_differ next_two no_other nothing_else number number_at number_of numbers_in numbers_of numbers_right octet_at offset_in options_right packing_of padded part passes plus positive predicted product_label_at read_code read_codes read_tree record_limit record_ok records records_end records_of records_with rectangle_right reference_at reference_from reference_of reference_size references_end refers_or_zero refers_to right_of row_from row_of same_bytes section_at section_end section_length section_packing section_right select sides_right sides_within some span_right stages starts starts_go stored_size string_end string_size string_text sum_below symbol_at symbols symbols_of symbols_read tail_right text_right tile_bytes tile_cells tile_count tile_directory_at tile_directory_right tile_end tile_in tile_index tile_of tile_right tiles_across tiles_along tiles_down tiles_in tiles_listed tiles_only tree_at tree_in tree_right uncompressed unit_at unless unless_refused unpacked utf8 value_of values_of version_right within within_ceilings
computed = (refl, refl)

-- ways that answer alike give the same answers
same_answers : (f g : ℕ → ℕ → ℕ → ℕ → Result Cell Refusal) → ((ci row column e : ℕ) → f ci row column e ≡ g ci row column e) → answers f ≡ answers g
same_answers f g h = go reads
  where
    by : (ℕ → ℕ → ℕ → ℕ → Result Cell Refusal) → Read → Result Cell Refusal
    by k r = k r.index r.row r.column r.element

    go : (l : List Read) → map (by f) l ≡ map (by g) l
    go [] = refl
    go (r ∷ l) = ap₂ ◌∷◌ (h r.index r.row r.column r.element) (go l)

pub packed_read : PackedRead
packed_read =
    let d : (ci : ℕ) → OneAnswer packed_file ci = demand_3 packed_file computed.0 in
    record {
      accepted = computed.0;
      by_meaning = computed.1;
      by_directory = same_answers _ _ (λ ci. (d ci).by_directory) ∙ computed.1;
      by_walk = same_answers _ _ (λ ci. (d ci).by_walk) ∙ computed.1;
      by_records = same_answers _ _ (λ ci. (d ci).by_records) ∙ computed.1;
    }
