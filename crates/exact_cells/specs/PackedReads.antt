-- How the page with compressed tiles reads: an answer of each kind that a cell may have, by every route.
use Rattle.std.specs.Prelude.{ℕ, ◌≡◌, List, [], ◌∷◌, map, Err, Ok, Result}
use Rattle.answer.specs.declared.Refusal.{Refusal}
use Rattle.answer.specs.declared.Refusal.TheVariants.{OutsideGrid, Compressed, Malformed}
use Rattle.answer.specs.declared.Cell.{Cell}
use Rattle.answer.specs.declared.Cell.TheVariants.{Stored, Fill, Unpacked}
use Rattle.answer.specs.Values.{value_of}
use Rattle.page_check.specs.Stages.{check}
use Rattle.cells.specs.Meaning.{meaning}
use Rattle.cells.specs.Reads.{read_by_directory, read_by_walk, read_by_records}
use Rattle.exact_cells.specs.PackedPage.{packed_file}

-- a cell that is asked for with a compressor index, and its answer
pub record Read : Type 0 where
  pub index : ℕ
  pub row : ℕ
  pub column : ℕ
  pub element : ℕ
  pub answer : Result Cell Refusal

abbrev pub ask : ℕ → ℕ → ℕ → ℕ → Result Cell Refusal → Read
ask ci row column e c = record { index = ci; row = row; column = column; element = e; answer = c }

abbrev pub reads : List Read
reads =
    -- tile 0: unpacked by its own index; 11 by another and by none; the Float with that index is 11
    ask 7 0 1 0 (Ok (Unpacked (value_of 3 2) 384 (record { tile = 0; inside = 1 })))
    ∷ ask 7 1 3 0 (Ok (Unpacked (value_of 3 65535) 384 (record { tile = 0; inside = 7 })))
    ∷ ask 9 0 1 0 (Err (Compressed 368))
    ∷ ask 256 0 1 0 (Err (Compressed 368))
    ∷ ask 7 0 1 1 (Err (Compressed 368))
    -- tile 1: packed with another index; the Float is stored, its first cell with the bits of the fill
    ∷ ask 7 0 5 0 (Err (Compressed 424))
    ∷ ask 9 0 5 0 (Ok (Unpacked (value_of 3 2) 440 (record { tile = 1; inside = 1 })))
    ∷ ask 7 0 4 1 (Ok (Stored (value_of 2 0) 460 (record { tile = 1; inside = 0 })))
    ∷ ask 7 0 5 1 (Ok (Stored (value_of 2 3) 464 (record { tile = 1; inside = 1 })))
    -- tile 2: malformed, which by another index is 11; the Float is 11 whatever its content is
    ∷ ask 7 1 9 0 (Err (Malformed 496))
    ∷ ask 9 1 9 0 (Err (Compressed 496))
    ∷ ask 7 1 9 1 (Err (Compressed 496))
    -- tile 3 is absent; the grid has two rows
    ∷ ask 7 0 15 0 (Ok (Fill (value_of 3 7) (record { tile = 3; inside = 3 })))
    ∷ ask 7 2 0 0 (Err OutsideGrid)
    ∷ []

abbrev pub answers : (ℕ → ℕ → ℕ → ℕ → Result Cell Refusal) → List (Result Cell Refusal)
answers f = map (λ (r : Read). f r.index r.row r.column r.element) reads

pub record PackedRead : Type 0 where
  pub accepted : check packed_file ≡ Ok tt
  pub by_meaning : answers (meaning packed_file) ≡ map (λ (r : Read). r.answer) reads
  pub by_directory : answers (read_by_directory packed_file) ≡ map (λ (r : Read). r.answer) reads
  pub by_walk : answers (read_by_walk packed_file) ≡ map (λ (r : Read). r.answer) reads
  pub by_records : answers (read_by_records packed_file) ≡ map (λ (r : Read). r.answer) reads
