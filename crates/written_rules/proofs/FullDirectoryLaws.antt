-- A written directory of every tile that the header refers to: what it gives for each tile, and stage 9's rules of its form. Assumes
-- nothing.
use Prim.Native.Nat.{ℕ, ◌+◌, ◌*◌, ◌≤◌, ◌<◌}
use mathlib.Core.Path.{◌≡◌, refl, sym, ap₂, ◌∙◌}
use mathlib.Core.List.{List, [], ◌∷◌}
use mathlib.Core.Bool.{true}
use native.Mathlib.Omega.{arith}
use lib.ListN.{length}
use Rattle.wire.specs.Bytes.{byte_at, number_at, bytes_of, largest_integer}
use Rattle.wire.proofs.TestLaws.{yes}
use Rattle.wire.proofs.PlaceLaws.{Placed, placed_byte, placed_value, placed_inside}
use Rattle.header.specs.Fields.{grid_rows, grid_columns, tile_rows, tile_columns, tile_directory_reference}
use Rattle.record.specs.Record.{length_at, content_at, record_limit, padded}
use Rattle.geometry.specs.Tiles.{tiles_along, tiles_across, tiles_down, tile_count}
use Rattle.geometry.specs.Sizes.{least_length}
use Rattle.geometry.proofs.TileLaws.{along_small, count_is}
use Rattle.bodies.specs.TileDirectory.{tile_directory_at, directory_format, standard_references, first_row, first_column, listed_rows, listed_columns, reference_count, reference_size, reference_at, references_end, tile_reference}
use Rattle.check_header.specs.Passed.{Sides}
use Rattle.check_directory.specs.TileRules.{form_right, span_right, rectangle_right}
use Rattle.check_directory.proofs.OnlyLaws.{grid_reference}
use Rattle.written_records.specs.Pieces.{record_length, record_of}
use Rattle.written_records.specs.Directory.{directory_of}
use Rattle.written_records.proofs.PieceLaws.{least_holds, record_length_lem, placed_stated}
use Rattle.written_records.proofs.DirectoryLaws.{directory_of_length}
use Rattle.written_records.proofs.FullLaws.{DirectoryPlaced, fields_placed}
use Rattle.writable.specs.Writable.{directory_full}

-- it stands at x in t, has the tiles of f, which t has too, and its references fit in four bytes
pub record FullAt (f : List ℕ) (g : ℕ → ℕ) (flag : ℕ) (t : List ℕ) (x : ℕ) : Type 0 where
  pub placed : Placed t x (record_of flag 5 (directory_of f g))
  pub refers : tile_directory_reference t ≡ content_at x
  pub sides : Sides f
  pub down : tiles_down t ≡ tiles_down f
  pub across : tiles_across t ≡ tiles_across f
  pub small : (j : ℕ) → j < tile_count f → g j < 4294967296
  pub short : length (record_of flag 5 (directory_of f g)) ≤ largest_integer

module _ {f : List ℕ} {g : ℕ → ℕ} {flag : ℕ} {t : List ℕ} {x : ℕ} (l : FullAt f g flag t x) where
  down_small : tiles_down f ≤ 65536
  unfolding tiles_down tiles_along
  down_small = omega (arith, along_small (grid_rows f) (tile_rows f) (λ z. omega (arith, l.sides.tile_rows_lem)), l.sides.rows)

  across_small : tiles_across f ≤ 65536
  unfolding tiles_across tiles_along
  across_small = omega (arith, along_small (grid_columns f) (tile_columns f) (λ z. omega (arith, l.sides.tile_columns_lem)), l.sides.columns)

  pub tiles_same : tile_count t ≡ tile_count f
  tiles_same = sym (count_is t _ _ refl refl) ∙ ap₂ (λ (a b : ℕ). a * b) l.down l.across ∙ count_is f _ _ refl refl

  -- its fields

  directory_at : tile_directory_at t ≡ x
  unfolding tile_directory_at
  directory_at = omega (arith, l.refers)

  fields : DirectoryPlaced f g t x
  fields = fields_placed f g flag 5 l.placed

  form_byte : (i : ℕ) → i < 2 → byte_at t (tile_directory_at t + (8 + i)) ≡ byte_at (0 ∷ 0 ∷ []) i
  form_byte i h =
      let e : x + (8 + i) ≡ x + 8 + i = omega arith in
      rw (directory_at, e) (placed_byte fields.form i h)

  field : (i v : ℕ) → Placed t (x + i) (bytes_of 4 v) → v < 4294967296 → number_at 4 t (tile_directory_at t + i) ≡ v
  field i v p h = rw directory_at (placed_value 4 v p h)

  format_is : directory_format t (tile_directory_at t) ≡ 0
  unfolding byte_at
  format_is = form_byte 0 (omega arith)

  standard_is : standard_references t (tile_directory_at t) ≡ 0
  unfolding byte_at
  standard_is = form_byte 1 (omega arith)

  row_is : first_row t (tile_directory_at t) ≡ 0
  row_is = field 16 0 fields.row (omega arith)

  column_is : first_column t (tile_directory_at t) ≡ 0
  column_is = field 20 0 fields.column (omega arith)

  rows_are : listed_rows t (tile_directory_at t) ≡ tiles_down f
  rows_are = field 24 (tiles_down f) fields.rows (omega (arith, down_small))

  columns_are : listed_columns t (tile_directory_at t) ≡ tiles_across f
  columns_are = field 28 (tiles_across f) fields.columns (omega (arith, across_small))

  reference_is : (j : ℕ) → j < tile_count f → reference_at t (tile_directory_at t) j ≡ g j * 8
  unfolding reference_at
  reference_is j h =
      let e : tile_directory_at t + 32 + 4 * j ≡ tile_directory_at t + (32 + 4 * j) = omega arith in
      let n = field (32 + 4 * j) (g j) (fields.reference j h) (l.small j h) in
      rw (standard_is, e, n)

  -- what it gives for a tile
  pub full_reference : (i : ℕ) → i < tile_count f → tile_reference t i ≡ g i * 8
  full_reference i h =
      grid_reference t row_is column_is (rows_are ∙ sym l.down) (columns_are ∙ sym l.across) i (omega (arith, tiles_same)) ∙ reference_is i h

  -- the rules

  pub full_form : form_right t ≡ true
  unfolding form_right
  full_form = sym (yes _ (format_is, (omega (arith, standard_is), tt)))

  pub full_rectangle : rectangle_right t ≡ true
  unfolding rectangle_right span_right
  full_rectangle =
      let a = row_is in
      let b = column_is in
      let d = rows_are in
      let e = columns_are in
      sym
      (yes _ (
        sym (yes _ (omega arith, (omega (arith, down_small), (omega (arith, l.down), tt)))),
        (sym (yes _ (omega arith, (omega (arith, across_small), (omega (arith, l.across), tt)))), tt),
      ))

  pub full_padded : padded t (tile_directory_at t) (references_end t) ≡ true
  unfolding padded record_limit references_end reference_size record_length
  full_padded =
      let n : reference_count t ≡ tile_count f = rw (rows_are, columns_are) (count_is f _ _ refl refl) in
      let a = directory_at in
      let c = record_length_lem flag 5 (directory_of f g) in
      let d = directory_of_length f g in
      let b : length_at t (tile_directory_at t) ≡ least_length (8 + (24 + 4 * tile_count f)) =
      rw (directory_at, ← d) (placed_stated flag 5 (directory_of f g) l.placed l.short ∙ c) in
      let h = least_holds (8 + (24 + 4 * tile_count f)) in
      let e = placed_inside l.placed in
      let k : length (record_of flag 5 (directory_of f g)) ≡ least_length (8 + (24 + 4 * tile_count f)) = rw (← d) c in
      rw (standard_is, n) (sym (yes _ (omega arith, (omega arith, tt))))

  pub full_full : directory_full t ≡ true
  unfolding directory_full
  full_full = sym (yes _ (rows_are ∙ sym l.down, (columns_are ∙ sym l.across, tt)))
