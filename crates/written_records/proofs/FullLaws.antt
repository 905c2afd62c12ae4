-- Where the fields of a written directory of every tile stand. Assumes nothing.
use Prim.Native.Nat.{ℕ, zero, suc, ◌+◌, ◌*◌, ◌<◌}
use mathlib.Core.List.{List, [], ◌∷◌, ◌++◌}
use mathlib.Core.Path.{◌≡◌, ◌∙◌}
use mathlib.Core.Logic.{by_cases}
use native.Mathlib.Decide.{dec_le}
use native.Mathlib.Omega.{arith}
use lib.ListN.{length}
use Rattle.wire.specs.Bytes.{bytes_of, zeros}
use Rattle.wire.proofs.PlaceLaws.{Placed, placed_last, placed_before, placed_inner, placed_at, placed_first, placed_next}
use Rattle.geometry.specs.Tiles.{tiles_across, tiles_down, tile_count}
use Rattle.written_records.specs.Pieces.{record_of}
use Rattle.written_records.specs.Directory.{directory_form, references_of, directory_of}
use Rattle.written_records.proofs.PieceLaws.{record_body}
use Rattle.written_records.proofs.DirectoryLaws.{four_more, reserved_length, form_length, references_of_length}

-- one of the references
references_placed : (g : ℕ → ℕ) (n j : ℕ) → j < n → Placed (references_of g n) (4 * j) (bytes_of 4 (g j))
unfolding references_of
references_placed g zero j h = absurd (omega arith)
references_placed g (suc n) j h =
    by_cases (dec_le (j + 1) n) (λ i. placed_before (references_placed g n j (omega arith)) (bytes_of 4 (g n)))
    (λ i. let e : j ≡ n = omega arith in rw e (placed_last (references_of g n) (bytes_of 4 (g n)) (references_of_length g n)))

-- the directory's fields, by their offset, where its record stands in s from x on
pub record DirectoryPlaced (f : List ℕ) (g : ℕ → ℕ) (s : List ℕ) (x : ℕ) : Type 0 where
  pub form : Placed s (x + 8) (0 ∷ 0 ∷ [])
  pub row : Placed s (x + 16) (bytes_of 4 0)
  pub column : Placed s (x + 20) (bytes_of 4 0)
  pub rows : Placed s (x + 24) (bytes_of 4 (tiles_down f))
  pub columns : Placed s (x + 28) (bytes_of 4 (tiles_across f))
  pub reference : (j : ℕ) → j < tile_count f → Placed s (x + (32 + 4 * j)) (bytes_of 4 (g j))

module _ (f : List ℕ) (g : ℕ → ℕ) (flag kind : ℕ) {s : List ℕ} {x : ℕ} (p : Placed s x (record_of flag kind (directory_of f g))) where
  body_placed : Placed s (x + 8) (directory_form (tiles_down f) (tiles_across f) ++ references_of g (tile_count f))
  unfolding directory_of
  body_placed = placed_inner p (record_body flag kind (directory_of f g))

  form_placed : Placed s (x + 8) (directory_form (tiles_down f) (tiles_across f))
  form_placed = placed_first (directory_form (tiles_down f) (tiles_across f)) (references_of g (tile_count f)) body_placed

  reference_placed : (j : ℕ) → j < tile_count f → Placed s (x + (32 + 4 * j)) (bytes_of 4 (g j))
  reference_placed j h =
      let d = directory_form (tiles_down f) (tiles_across f) in
      placed_at
      (placed_inner (placed_next d (references_of g (tile_count f)) (form_length (tiles_down f) (tiles_across f)) body_placed)
      (references_placed g (tile_count f) j h))
      (omega arith)

  pub fields_placed : DirectoryPlaced f g s x
  unfolding directory_form
  fields_placed =
      let w : List ℕ = (0 ∷ 0 ∷ []) ++ zeros 6 in
      let z = bytes_of 4 0 in
      let d = bytes_of 4 (tiles_down f) in
      let a = bytes_of 4 (tiles_across f) in
      let n1 : length (w ++ z) ≡ 12 = four_more w 0 ∙ omega (arith, reserved_length) in
      let n2 : length (w ++ z ++ z) ≡ 16 = four_more (w ++ z) 0 ∙ omega arith in
      let n3 : length (w ++ z ++ z ++ d) ≡ 20 = four_more (w ++ z ++ z) (tiles_down f) ∙ omega arith in
      let q1 = placed_first (w ++ z ++ z ++ d) a form_placed in
      let q2 = placed_first (w ++ z ++ z) d q1 in
      let q3 = placed_first (w ++ z) z q2 in
      record {
        form = placed_first (0 ∷ 0 ∷ []) (zeros 6) (placed_first w z q3);
        row = placed_at (placed_next w z reserved_length q3) (omega arith);
        column = placed_at (placed_next (w ++ z) z n1 q2) (omega arith);
        rows = placed_at (placed_next (w ++ z ++ z) d n2 q1) (omega arith);
        columns = placed_at (placed_next (w ++ z ++ z ++ d) a n3 form_placed) (omega arith);
        reference = reference_placed;
      }
