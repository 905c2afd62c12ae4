-- The fields of a front that is made from a description. Assumes nothing.
use Prim.Native.Nat.{ℕ, zero, suc, ◌+◌, ◌%◌, ◌≤◌, ◌<◌}
use mathlib.Core.Path.{◌≡◌, refl, ◌∙◌}
use mathlib.Core.List.{List, [], ◌∷◌, ◌++◌}
use native.Mathlib.Omega.{arith}
use native.Mathlib.Numerals.{add-one}
use lib.ListN.{length, length-append}
use borrow.Author.Tests.{le-leb}
use Rattle.wire.specs.Bytes.{byte_at, bytes_of, zeros}
use Rattle.wire.specs.Items.{advance}
use Rattle.wire.proofs.ByteLaws.{bytes_length, zeros_length}
use Rattle.wire.proofs.ItemLaws.{advance_none, advance_more}
use Rattle.wire.proofs.PlaceLaws.{Placed, placed_first, placed_next, placed_inner, placed_byte, placed_at, placed_last}
use Rattle.record.specs.Chain.{header_end}
use Rattle.record.specs.Types.{header_record_type}
use Rattle.header.specs.Fields.{header_length, header_type, raster_space, coordinate_system, header_limit}
use Rattle.header.proofs.SameLaws.{limit_is}
use Rattle.check_header.specs.Identification.{mark}
use Rattle.written_records.specs.Pieces.{record_of, record_length}
use Rattle.written_records.proofs.PieceLaws.{record_length_lem, record_body, record_holds, least_holds, placed_kind, placed_stated}
use Rattle.fronts.specs.Front.{Description, Fits, strung, string_of, entry_length, entry_of, fixed_of, entries_of, methods_of, body_of, block_bytes, front_of}
use Rattle.fronts.proofs.EntryLaws.{strung_more, strung_none, strung_within, string_length, entry_length_lem, entry_holds, texts_least}

-- items that are strung together are passed over one by one

pub advance_strung :
    (next : ℕ → ℕ) (limit at : ℕ) (f : ℕ → List ℕ) (n : ℕ) →
    ((i : ℕ) → i < n → next (at + length (strung i f)) ≡ at + length (strung i f) + length (f i)) → at + length (strung n f) ≤ limit →
    advance next limit n at ≡ at + length (strung n f)
advance_strung next limit at f zero e h = advance_none next limit at ∙ omega (arith, strung_none f)
advance_strung next limit at f (suc n) e h =
    let m = strung_within (suc n) f n (omega arith) in
    let i = advance_strung next limit at f n (λ j k. e j (omega arith)) (omega arith) in
    let l = rw (add-one n) at (strung_more n f) in
    rw (add-one n) at (advance_more next limit n at) ∙ rw (i, le-leb (at + length (strung n f)) limit (omega arith)) (e n (omega arith) ∙ omega (arith, l))

-- there are no more of them than bytes
pub strung_count : (f : ℕ → List ℕ) (n : ℕ) → ((i : ℕ) → i < n → 1 ≤ length (f i)) → n ≤ length (strung n f)
strung_count f zero e = omega arith
strung_count f (suc n) e =
    omega (arith, strung_count f n (λ i h. e i (omega arith)), e n (omega arith), rw (add-one n) at (strung_more n f))

pub strung_fours : (f : ℕ → List ℕ) (n : ℕ) → ((i : ℕ) → i < n → length (f i) % 4 ≡ 0) → length (strung n f) % 4 ≡ 0
strung_fours f zero e = rw (strung_none f)
strung_fours f (suc n) e =
    let a = strung_fours f n (λ i h. e i (omega arith)) in
    let b = e n (omega arith) in
    omega (arith, a, b, rw (add-one n) at (strung_more n f))

-- the fixed fields

abbrev fixed1 : Description → List ℕ
fixed1 d = d.uuid ++ zeros 64

abbrev fixed2 : Description → List ℕ
fixed2 d = fixed1 d ++ bytes_of 4 d.rows

abbrev fixed3 : Description → List ℕ
fixed3 d = fixed2 d ++ bytes_of 4 d.columns

abbrev fixed4 : Description → List ℕ
fixed4 d = fixed3 d ++ bytes_of 4 d.tile_rows_lem

abbrev fixed5 : Description → List ℕ
fixed5 d = fixed4 d ++ bytes_of 4 d.tile_columns_lem

abbrev fixed6 : Description → List ℕ
fixed6 d = fixed5 d ++ zeros 8

abbrev fixed7 : Description → List ℕ
fixed7 d = fixed6 d ++ (d.flag ∷ [])

abbrev fixed8 : Description → List ℕ
fixed8 d = fixed7 d ++ zeros 151

module _ (d : Description) (u : length d.uuid ≡ 16) where
  long1 : length (fixed1 d) ≡ 80
  long1 = length-append d.uuid (zeros 64) ∙ omega (arith, u, zeros_length 64)

  long2 : length (fixed2 d) ≡ 84
  long2 = length-append (fixed1 d) (bytes_of 4 d.rows) ∙ omega (arith, long1, bytes_length 4 d.rows)

  long3 : length (fixed3 d) ≡ 88
  long3 = length-append (fixed2 d) (bytes_of 4 d.columns) ∙ omega (arith, long2, bytes_length 4 d.columns)

  long4 : length (fixed4 d) ≡ 92
  long4 = length-append (fixed3 d) (bytes_of 4 d.tile_rows_lem) ∙ omega (arith, long3, bytes_length 4 d.tile_rows_lem)

  long5 : length (fixed5 d) ≡ 96
  long5 = length-append (fixed4 d) (bytes_of 4 d.tile_columns_lem) ∙ omega (arith, long4, bytes_length 4 d.tile_columns_lem)

  long6 : length (fixed6 d) ≡ 104
  long6 = length-append (fixed5 d) (zeros 8) ∙ omega (arith, long5, zeros_length 8)

  long7 : length (fixed7 d) ≡ 105
  long7 = length-append (fixed6 d) (d.flag ∷ []) ∙ omega (arith, long6)

  long8 : length (fixed8 d) ≡ 256
  long8 = length-append (fixed7 d) (zeros 151) ∙ omega (arith, long7, zeros_length 151)

  pub fixed_length : length (fixed_of d) ≡ 260
  unfolding fixed_of
  fixed_length = length-append (fixed8 d) (bytes_of 4 d.elements) ∙ omega (arith, long8, bytes_length 4 d.elements)

  module _ {s : List ℕ} {at : ℕ} (p : Placed s at (fixed_of d)) where
    at8 : Placed s at (fixed8 d)
    unfolding fixed_of
    at8 = placed_first (fixed8 d) (bytes_of 4 d.elements) p

    pub count_there : Placed s (at + 256) (bytes_of 4 d.elements)
    unfolding fixed_of
    count_there = placed_next (fixed8 d) (bytes_of 4 d.elements) long8 p

    pub rest_there : Placed s (at + 105) (zeros 151)
    rest_there = placed_next (fixed7 d) (zeros 151) long7 at8

    at7 : Placed s at (fixed7 d)
    at7 = placed_first (fixed7 d) (zeros 151) at8

    pub flag_there : Placed s (at + 104) (d.flag ∷ [])
    flag_there = placed_next (fixed6 d) (d.flag ∷ []) long6 at7

    at5 : Placed s at (fixed5 d)
    at5 = placed_first (fixed5 d) (zeros 8) (placed_first (fixed6 d) (d.flag ∷ []) at7)

    pub tile_columns_there : Placed s (at + 92) (bytes_of 4 d.tile_columns_lem)
    tile_columns_there = placed_next (fixed4 d) (bytes_of 4 d.tile_columns_lem) long4 at5

    at4 : Placed s at (fixed4 d)
    at4 = placed_first (fixed4 d) (bytes_of 4 d.tile_columns_lem) at5

    pub tile_rows_there : Placed s (at + 88) (bytes_of 4 d.tile_rows_lem)
    tile_rows_there = placed_next (fixed3 d) (bytes_of 4 d.tile_rows_lem) long3 at4

    at3 : Placed s at (fixed3 d)
    at3 = placed_first (fixed3 d) (bytes_of 4 d.tile_rows_lem) at4

    pub columns_there : Placed s (at + 84) (bytes_of 4 d.columns)
    columns_there = placed_next (fixed2 d) (bytes_of 4 d.columns) long2 at3

    at2 : Placed s at (fixed2 d)
    at2 = placed_first (fixed2 d) (bytes_of 4 d.columns) at3

    pub rows_there : Placed s (at + 80) (bytes_of 4 d.rows)
    rows_there = placed_next (fixed1 d) (bytes_of 4 d.rows) long1 at2

    pub uuid_there : Placed s at d.uuid
    uuid_there = placed_first d.uuid (zeros 64) (placed_first (fixed1 d) (bytes_of 4 d.rows) at2)

-- the front, and its header

abbrev body1 : Description → List ℕ
body1 d = fixed_of d ++ entries_of d d.elements

abbrev body2 : Description → List ℕ
body2 d = body1 d ++ bytes_of 4 d.methods

abbrev body3 : Description → List ℕ
body3 d = body2 d ++ methods_of d d.methods

abbrev body4 : Description → List ℕ
body4 d = body3 d ++ string_of d.label

module _ (d : Description) (u : length d.uuid ≡ 16) where
  blong1 : length (body1 d) ≡ 260 + length (entries_of d d.elements)
  blong1 = length-append (fixed_of d) (entries_of d d.elements) ∙ omega (arith, fixed_length d u)

  blong2 : length (body2 d) ≡ 264 + length (entries_of d d.elements)
  blong2 = length-append (body1 d) (bytes_of 4 d.methods) ∙ omega (arith, blong1, bytes_length 4 d.methods)

  blong3 : length (body3 d) ≡ 264 + length (entries_of d d.elements) + length (methods_of d d.methods)
  blong3 = length-append (body2 d) (methods_of d d.methods) ∙ omega (arith, blong2)

  blong4 : length (body4 d) ≡ 264 + length (entries_of d d.elements) + length (methods_of d d.methods) + (2 + length d.label)
  blong4 = length-append (body3 d) (string_of d.label) ∙ omega (arith, blong3, string_length d.label)

  pub body_length : length (body_of d) ≡ 264 + length (entries_of d d.elements) + length (methods_of d d.methods) + (2 + length d.label) + 8
  unfolding body_of
  body_length = length-append (body4 d) (zeros 8) ∙ omega (arith, blong4, zeros_length 8)

pub front_length : (d : Description) → length (front_of d) ≡ 16 + record_length (length (body_of d))
unfolding front_of block_bytes mark
front_length d =
    let header = record_of d.flag header_record_type (body_of d) in
    length-append block_bytes header ∙ omega (arith, record_length_lem d.flag header_record_type (body_of d))

-- the bytes s carry what was told, each field in its place, before the header's checksum
pub record Carries (s : List ℕ) (d : Description) : Type 0 where
  pub uuid : Placed s 24 d.uuid
  pub rows : Placed s 104 (bytes_of 4 d.rows)
  pub columns : Placed s 108 (bytes_of 4 d.columns)
  pub tile_rows_lem : Placed s 112 (bytes_of 4 d.tile_rows_lem)
  pub tile_columns_lem : Placed s 116 (bytes_of 4 d.tile_columns_lem)
  pub flag : Placed s 128 (d.flag ∷ [])
  pub count : Placed s 280 (bytes_of 4 d.elements)
  pub entries : Placed s 284 (entries_of d d.elements)
  pub method_count_lem : Placed s (284 + length (entries_of d d.elements)) (bytes_of 4 d.methods)
  pub methods : Placed s (288 + length (entries_of d d.elements)) (methods_of d d.methods)
  pub label : Placed s (288 + length (entries_of d d.elements) + length (methods_of d d.methods)) (string_of d.label)
  pub limit : 24 + length (body_of d) ≤ header_limit s

module _ (d : Description) (f : Fits d) where
  abbrev header : List ℕ
  header = record_of d.flag header_record_type (body_of d)

  pub header_there : Placed (front_of d) 16 header
  unfolding front_of block_bytes mark
  header_there = placed_last block_bytes header refl

  pub body_there : Placed (front_of d) 24 (body_of d)
  body_there = placed_inner header_there (record_body d.flag header_record_type (body_of d))

  short : length header ≤ 2147483647
  short = omega (arith, f.long, front_length d, record_length_lem d.flag header_record_type (body_of d))

  pub header_kind : header_type (front_of d) ≡ 6
  header_kind = placed_kind d.flag header_record_type (body_of d) header_there

  pub header_states : header_length (front_of d) ≡ record_length (length (body_of d))
  header_states = placed_stated d.flag header_record_type (body_of d) header_there short ∙ record_length_lem d.flag header_record_type (body_of d)

  pub front_ends : header_end (front_of d) ≡ length (front_of d)
  unfolding header_end
  front_ends = omega (arith, header_states, front_length d)

  -- the checksum stands behind the body and 0 to 7 bytes of padding
  pub limit_padded : (24 + length (body_of d) ≤ header_limit (front_of d)) × (header_limit (front_of d) ≤ 24 + length (body_of d) + 7)
  unfolding record_length
  limit_padded =
      let l = limit_is (front_of d) (omega (arith, front_ends)) in
      let h = least_holds (8 + length (body_of d)) in
      (omega (arith, l, front_ends, front_length d, h.0), omega (arith, l, front_ends, front_length d, h.1.0))

  -- what stands in the body

  body_at4 : Placed (front_of d) 24 (body4 d)
  unfolding body_of
  body_at4 = placed_first (body4 d) (zeros 8) body_there

  pub label_placed : Placed (front_of d) (24 + (264 + length (entries_of d d.elements) + length (methods_of d d.methods))) (string_of d.label)
  label_placed = placed_next (body3 d) (string_of d.label) (blong3 d f.uuid) body_at4

  body_at3 : Placed (front_of d) 24 (body3 d)
  body_at3 = placed_first (body3 d) (string_of d.label) body_at4

  pub methods_placed : Placed (front_of d) (24 + (264 + length (entries_of d d.elements))) (methods_of d d.methods)
  methods_placed = placed_next (body2 d) (methods_of d d.methods) (blong2 d f.uuid) body_at3

  body_at2 : Placed (front_of d) 24 (body2 d)
  body_at2 = placed_first (body2 d) (methods_of d d.methods) body_at3

  pub method_count_placed : Placed (front_of d) (24 + (260 + length (entries_of d d.elements))) (bytes_of 4 d.methods)
  method_count_placed = placed_next (body1 d) (bytes_of 4 d.methods) (blong1 d f.uuid) body_at2

  body_at1 : Placed (front_of d) 24 (body1 d)
  body_at1 = placed_first (body1 d) (bytes_of 4 d.methods) body_at2

  pub entries_placed : Placed (front_of d) 284 (entries_of d d.elements)
  entries_placed = placed_next (fixed_of d) (entries_of d d.elements) (fixed_length d f.uuid) body_at1

  pub fixed_placed : Placed (front_of d) 24 (fixed_of d)
  fixed_placed = placed_first (fixed_of d) (entries_of d d.elements) body_at1

  -- counts are small

  entry_least : (e : ℕ) → 1 ≤ length (entry_of (d.element e))
  unfolding entry_length
  entry_least e = omega (arith, entry_length_lem (d.element e), (entry_holds (d.element e)).0, texts_least (d.element e))

  pub elements_small : d.elements ≤ 2147483647
  unfolding entries_of
  elements_small =
      omega (arith, strung_count (λ e. entry_of (d.element e)) d.elements (λ e h. entry_least e), body_length d f.uuid, front_length d, record_holds (length (body_of d)), f.long)

  pub methods_small : d.methods ≤ 2147483647
  unfolding methods_of
  methods_small =
      omega (arith, strung_count (λ i. string_of (d.method i)) d.methods (λ i h. omega (arith, string_length (d.method i))), body_length d f.uuid, front_length d, record_holds (length (body_of d)), f.long)

  pub space_says : raster_space (front_of d) ≡ 0
  unfolding byte_at zeros
  space_says = placed_byte (rest_there d f.uuid fixed_placed) 0 (omega arith)

  pub system_says : coordinate_system (front_of d) ≡ 0
  unfolding byte_at zeros
  system_says = placed_byte (rest_there d f.uuid fixed_placed) 1 (omega arith)

  -- the header carries its fields
  pub carried : Carries (front_of d) d
  carried =
      record {
        uuid = uuid_there d f.uuid fixed_placed;
        rows = rows_there d f.uuid fixed_placed;
        columns = columns_there d f.uuid fixed_placed;
        tile_rows_lem = tile_rows_there d f.uuid fixed_placed;
        tile_columns_lem = tile_columns_there d f.uuid fixed_placed;
        flag = flag_there d f.uuid fixed_placed;
        count = count_there d f.uuid fixed_placed;
        entries = entries_placed;
        method_count_lem = placed_at method_count_placed (omega arith);
        methods = placed_at methods_placed (omega arith);
        label = placed_at label_placed (omega arith);
        limit = limit_padded.0;
      }
