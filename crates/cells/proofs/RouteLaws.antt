-- Every way finds the record that is meant, so a cell and a content are by every way what they mean. Assumes nothing.
use Rattle.std.specs.Prelude.{Option}
use Prim.Native.Nat.{ℕ, ◌<◌}
use mathlib.Core.Path.{◌≡◌, refl}
use mathlib.Core.List.{List}
use mathlib.Core.Bool.{Bool, true, false}
use Rattle.header.specs.Fields.{tile_rows, tile_columns}
use Rattle.answer.specs.declared.Refusal.{Refusal}
use Rattle.geometry.specs.Tiles.{cell_tile, tile_count}
use Rattle.geometry.proofs.GridLaws.{tile_less}
use Rattle.cells.specs.Asked.{in_grid, in_tiles}
use Rattle.cells.specs.Routes.{cell_by, tile_by}
use Rattle.cells.proofs.CellLaws.{grid_means, tiles_mean}

-- two ways that find the same of each tile say the same of each cell and of each content

module _ (s : List ℕ) (way other : ℕ → Option ℕ) (same : (i : ℕ) → i < tile_count s → way i ≡ other i) where
  pub cell_same : (ci row column e : ℕ) → 0 < tile_rows s → 0 < tile_columns s → cell_by s ci way row column e ≡ cell_by s ci other row column e
  unfolding cell_by
  cell_same ci row column e h w = go (in_grid s row column e) refl
    where
      go :
          (b : Bool) → in_grid s row column e ≡ b →
          cell_by s ci way row column e ≡ cell_by s ci other row column e
      go true f =
          let g = grid_means s row column e f in
          rw (same (cell_tile s row column) (tile_less s row column h w g.0 g.1.0))
      go false f = rw f

  pub tile_same : {A : Type 0} (refused : Refusal → A) (said : Option ℕ → A) (tile e : ℕ) → tile_by refused said s way tile e ≡ tile_by refused said s other tile e
  unfolding tile_by
  tile_same refused said tile e = go (in_tiles s tile e) refl
    where
      go : (b : Bool) → in_tiles s tile e ≡ b → tile_by refused said s way tile e ≡ tile_by refused said s other tile e
      go true f = rw (same tile (tiles_mean s tile e f).0)
      go false f = rw f
