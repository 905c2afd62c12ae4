-- What a lay-down that is not refused was given, and the fields of its front that the file keeps. Assumes nothing.
use Rattle.std.specs.Prelude.{Err, Ok, Result, ⊤}
use Rattle.answer.specs.declared.Refusal.{Refusal}
use Prim.Native.Nat.{ℕ, ◌*◌, ◌%◌, ◌≤◌, ◌<◌}
use mathlib.Core.Path.{◌≡◌, refl}
use mathlib.Core.List.{List}
use mathlib.Core.Bool.{true}
use native.Mathlib.Omega.{arith}
use lib.ListN.{length}
use Rattle.wire.specs.Bytes.{Bytes}
use Rattle.wire.proofs.TestLaws.{means}
use Rattle.answer.specs.Refusals.{unless_refused}
use Rattle.header.specs.Fields.{grid_rows, grid_columns, tile_rows, tile_columns, checksum_enabled, element_count}
use Rattle.record.specs.Chain.{header_end}
use Rattle.header.specs.Element.{element}
use Rattle.geometry.specs.Tiles.{tiles_across, tiles_down, tile_count, cell_tile, cell_inside}
use Rattle.geometry.specs.Sizes.{tile_bytes, element_bytes}
use Rattle.check_header.specs.HeaderRecord.{length_right}
use Rattle.check_header.proofs.Judged.{header_lawful}
use Rattle.check_header.specs.Passed.{InRange, Headed}
use Rattle.cells.specs.Asked.{in_grid, in_tiles}
use Rattle.cells.specs.TileCells.{location_of, fill_of, offset_in}
use Rattle.lay_down.specs.Answer.{ascending, laid}
use Rattle.lay_down.specs.Page.{file_length}
use Rattle.lay_down.proofs.FrontLaws.{Front, front_of_lem, front_passed}
use Rattle.lay_down.proofs.JudgeLaws.{passed_of}

pub record Laying (f : List ℕ) (t : ℕ) (ix c : List ℕ) : Type 0 where
  pub headed : Headed f (length f)
  pub no_more_lem : header_end f ≡ length f
  pub front : Front f
  pub indexes : ascending (tile_count f) 0 ix ≡ true
  pub cells : length c ≡ length ix * tile_bytes f
  pub file : file_length f ix ≤ 16777216
  pub front_bytes : Bytes f
  pub cell_bytes : Bytes c

lengths_are : (v : Result ⊤ Refusal) (n m : ℕ) → unless_refused Err v (Ok n) ≡ Ok m → (v ≡ Ok tt) × (n ≡ m)
unfolding unless_refused
lengths_are (Ok accepted) n m e = (refl, cc)
lengths_are (Err r) n m e = let z : ◌≡◌ {A = ℕ} 0 1 = cc in absurd (omega arith)

pub laying_of : (f : List ℕ) (t : ℕ) (ix c : List ℕ) (room n : ℕ) → Bytes f → Bytes c → laid f t ix c room ≡ Ok n → Laying f t ix c × (file_length f ix ≡ n)
unfolding laid
laying_of f t ix c room n b d e =
    let a = lengths_are _ _ _ e in
    let p = passed_of f t ix c room a.0 in (
      record { headed = (front_passed f p.front).0; no_more_lem = (front_passed f p.front).1; front = front_of_lem f p.front; indexes = p.indexes; cells = p.cells; file = p.ceiling; front_bytes = b; cell_bytes = d },
      a.1,
    )

-- what its rules give besides
module _ {f : List ℕ} {t : ℕ} {ix c : List ℕ} (l : Laying f t ix c) where
  pub front_range : InRange f (length f)
  front_range = l.front

  pub front_eights : length f % 8 ≡ 0
  unfolding length_right header_end
  front_eights = let h = (means _ (header_lawful f (length f) l.headed.header)).0 in omega (arith, h, l.no_more_lem)

-- the file s has the fields of the front f that are judged and read
pub record Kept (f s : List ℕ) : Type 0 where
  pub ends : header_end s ≡ length f
  pub rows : grid_rows s ≡ grid_rows f
  pub columns : grid_columns s ≡ grid_columns f
  pub tile_rows_lem : tile_rows s ≡ tile_rows f
  pub tile_columns_lem : tile_columns s ≡ tile_columns f
  pub flag : checksum_enabled s ≡ checksum_enabled f
  pub count : element_count s ≡ element_count f
  pub elements : (e : ℕ) → e < element_count f → element s e ≡ element f e

module _ {f s : List ℕ} (k : Kept f s) where
  pub across_kept : tiles_across s ≡ tiles_across f
  unfolding tiles_across
  across_kept = rw (k.columns, k.tile_columns_lem)

  pub down_kept : tiles_down s ≡ tiles_down f
  unfolding tiles_down
  down_kept = rw (k.rows, k.tile_rows_lem)

  pub tiles_kept : tile_count s ≡ tile_count f
  unfolding tile_count
  tiles_kept = rw (k.rows, k.columns, k.tile_rows_lem, k.tile_columns_lem)

  pub tile_kept : (row column : ℕ) → cell_tile s row column ≡ cell_tile f row column
  unfolding cell_tile
  tile_kept row column = rw (k.columns, k.tile_rows_lem, k.tile_columns_lem)

  pub grid_kept : (row column e : ℕ) → in_grid s row column e ≡ in_grid f row column e
  unfolding in_grid
  grid_kept row column e = rw (k.rows, k.columns, k.count)

  pub asked_kept : (tile e : ℕ) → in_tiles s tile e ≡ in_tiles f tile e
  unfolding in_tiles
  asked_kept tile e = rw (tiles_kept, k.count)

  pub offset_kept : (row column e : ℕ) → e < element_count f → offset_in s row column e ≡ offset_in f row column e
  unfolding offset_in cell_inside
  offset_kept row column e h = rw (k.tile_rows_lem, k.tile_columns_lem, k.elements e h)

  pub location_kept : (row column : ℕ) → location_of s row column ≡ location_of f row column
  unfolding location_of cell_inside
  location_kept row column = rw (tile_kept row column, k.tile_rows_lem, k.tile_columns_lem)

  pub fill_kept : (row column e : ℕ) → e < element_count f → fill_of s (location_of s row column) e ≡ fill_of f (location_of f row column) e
  unfolding fill_of
  fill_kept row column e h = rw (location_kept row column, k.elements e h)

  pub size_kept : (e : ℕ) → e < element_count f → element_bytes s e ≡ element_bytes f e
  unfolding element_bytes
  size_kept e h = rw (k.tile_rows_lem, k.tile_columns_lem, k.elements e h)
