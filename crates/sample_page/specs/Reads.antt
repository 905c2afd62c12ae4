-- The sample page is accepted; the cell (2, 1) is the second of tile 2, and the cell (0, 0) is fill, of tile 0, whatever
-- compressor index is named.
use Rattle.std.specs.Prelude.{ℕ, ◌≡◌, Ok}
use Rattle.answer.specs.declared.Cell.TheVariants as cell
use Rattle.answer.specs.Values.{value_of}
use Rattle.page_check.specs.Stages.{check}
use Rattle.cells.specs.Meaning.{meaning}
use Rattle.sample_page.specs.Page.{file}

pub record SampleRead : Type 0 where
  pub accepted : check file ≡ Ok tt
  pub stored : (ci : ℕ) → meaning file ci 2 1 0 ≡ Ok (cell.Stored (value_of 3 12) 354 (record { tile = 2; inside = 1 }))
  pub fill : (ci : ℕ) → meaning file ci 0 0 0 ≡ Ok (cell.Fill (value_of 3 7) (record { tile = 0; inside = 0 }))
