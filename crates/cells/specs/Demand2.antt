-- Demand 2: a cell reads with the right bits, as they stand in the file. `s` is any file of bytes.
use Rattle.std.specs.Prelude.{ℕ, ◌<◌, ◌≡◌, List, get_or}
use Rattle.wire.specs.Bytes.{Bytes, number_at}
use Rattle.answer.specs.Answers.{cell_kind, cell_bits, cell_place}
use Rattle.header.specs.Element.{cell_size, short_kind, element}
use Rattle.geometry.specs.Tiles.{cell_inside}
use Rattle.unpack.specs.Unpack.{cells_in}
use Rattle.cells.specs.TileCells.{unpacked_at}
use Rattle.cells.specs.Meaning.{meaning}

pub record RightBits (s : List ℕ) (ci row column e : ℕ) : Type 0 where
  -- a stored cell's are the number that stands at its place, of 2 bytes where the element is a Short, else of 4
  pub stored :
      cell_kind (meaning s ci row column e) ≡ 32 →
      cell_bits (meaning s ci row column e) ≡ number_at (cell_size (element s e).kind) s (cell_place (meaning s ci row column e))
  -- a fill's are those of the element's fill value in the header
  pub fill : cell_kind (meaning s ci row column e) ≡ 33 → cell_bits (meaning s ci row column e) ≡ (element s e).fill
  -- an unpacked cell's are those that its content holds for it
  pub unpacked : cell_kind (meaning s ci row column e) ≡ 34 → cell_bits (meaning s ci row column e) ≡ get_or (cells_in (unpacked_at s e (cell_place (meaning s ci row column e)))) (cell_inside s row column) 0

abbrev pub Demand2Bits : Type 0
Demand2Bits = (s : List ℕ) → Bytes s → (ci row column e : ℕ) → RightBits s ci row column e

-- a Short's are 16, on any file
abbrev pub ShortBits : Type 0
ShortBits = (s : List ℕ) (ci row column e : ℕ) → (element s e).kind ≡ short_kind → cell_bits (meaning s ci row column e) < 65536
