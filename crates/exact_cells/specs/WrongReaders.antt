-- The six facts of `CellIs` shut out wrong readers: on the page with compressed tiles no answer of one of these has all six.
use Rattle.std.specs.Prelude.{ℕ, Err, Ok}
use Rattle.answer.specs.declared.Refusal.TheVariants.{Compressed, Malformed}
use Rattle.answer.specs.declared.Value.{Value}
use Rattle.answer.specs.declared.Location.{Location}
use Rattle.answer.specs.declared.Cell.TheVariants.{Fill, Unpacked}
use Rattle.cells.specs.CellExactly.{CellIs}
use Rattle.exact_cells.specs.PackedPage.{packed_file}

pub record WrongReaders : Type 0 where
  -- fill everywhere, also where the cell's tile has a record
  pub fills : (v : Value) (w : Location) → CellIs packed_file 7 0 1 0 (Ok (Fill v w)) → ⊥
  -- never unpacked, also by the content's own index
  pub never_unpacks : (x : ℕ) → CellIs packed_file 7 0 1 0 (Err (Compressed x)) → ⊥
  -- the index ignored: content of index 9 unpacked for 7
  pub ignores_index : (v : Value) (place : ℕ) (w : Location) → CellIs packed_file 7 0 5 0 (Ok (Unpacked v place w)) → ⊥
  -- a Float unpacked
  pub unpacks_float : (v : Value) (place : ℕ) (w : Location) → CellIs packed_file 7 0 1 1 (Ok (Unpacked v place w)) → ⊥
  -- 14 placed at the content
  pub at_content : CellIs packed_file 7 1 9 0 (Err (Malformed 512)) → ⊥
