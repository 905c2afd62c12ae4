-- Many reads after one check: what the functions answer, and what a product needs of a rectangle and its tiles. Assumes nothing.
use Rattle.std.specs.Prelude.{Ok, Result}
use Rattle.answer.specs.declared.Refusal.{Refusal}
use Prim.Native.Nat.{ℕ, ◌+◌, ◌*◌, ◌/◌, ◌%◌, ◌≤◌, ◌<◌}
use mathlib.Core.Path.{◌≡◌, refl, sym, ap, ◌∙◌}
use mathlib.Core.List.{List, [], ◌∷◌}
use mathlib.Core.Bool.{Bool, true, false}
use native.Mathlib.Omega.{arith}
use native.Mathlib.Nat.{div-add-mod'}
use lib.ListN.{length}
use lib.Dec.{leb}
use borrow.Author.Tests.{leb-true, leb-false}
use Rattle.wire.specs.Tests.{Test, ◌≤?◌}
use Rattle.wire.specs.Bytes.{put}
use Rattle.wire.proofs.TestLaws.{means, yes, no, either_way}
use Rattle.answer.specs.declared.Held.{Held}
use Rattle.header.specs.Fields.{grid_rows, grid_columns, tile_rows, tile_columns, element_count}
use Rattle.geometry.specs.Tiles.{tile_of, inside_of, tile_in, tile_count, cell_tile, cell_inside}
use Rattle.geometry.proofs.GridLaws.{tile_less}
use Rattle.check_header.specs.Passed.{Sides}
use Rattle.bodies.specs.TileDirectory.{tile_directory_at}
use Rattle.page_check.specs.Stages.{check}
use Rattle.tile_routes.specs.declared.Route.TheVariants.{Directory}
use Rattle.cells.specs.Asked.{in_grid}
use Rattle.cells.specs.TileCells.{unpacked_bits, MemorySaid}
use Rattle.tile_routes.specs.Ways.{found_by}
use Rattle.cells.specs.inner.Lookups.{looked_up_room}
use Rattle.cells.specs.Many.{held_by_directory, Holds}
use Rattle.cells.proofs.CellLaws.{grid_means, sides_mean, inside_small}
use Rattle.cells.proofs.ReadLaws.{check_lawful}
use Rattle.cells.proofs.ManyLaws.{holds_accepted, holds_lent}
use Rattle.store.specs.Many.{rectangle_inside, cell_there, tile_holding, number_holding}

-- what is held

pub held_accepted :
    (s : List ℕ) (ci at tile e : ℕ) (x : Result Held Refusal) (m o : List ℕ) → x ≡ looked_up_room s ci (found_by s (Directory at)) tile e (length m) →
    o ≡ put m 0 (unpacked_bits s e x) → at ≡ tile_directory_at s →
    (x ≡ held_by_directory s ci tile e (length m))
    × ((o ≡ put m 0 (unpacked_bits s e x)) × (check s ≡ Ok tt → tile < tile_count s → e < element_count s → Holds s ci tile e x o))
unfolding held_by_directory found_by
held_accepted s ci at tile e x m o p q t =
    let h : x ≡ held_by_directory s ci tile e (length m) = p ∙ rw t in
    (h, (q, λ a k l. rw (q, h) (holds_accepted s a ci tile e m k l)))

pub held_lent :
    (s : List ℕ) (ci at tile e : ℕ) (x : Result Held Refusal) (m o : List ℕ) → x ≡ looked_up_room s ci (found_by s (Directory at)) tile e (length m) →
    (MemorySaid false x → o ≡ put m 0 (unpacked_bits s e x)) → at ≡ tile_directory_at s →
    (x ≡ held_by_directory s ci tile e (length m))
    × ((MemorySaid false x → o ≡ put m 0 (unpacked_bits s e x)) × (check s ≡ Ok tt → tile < tile_count s → e < element_count s → Holds s ci tile e x o))
held_lent s ci at tile e x m o p q t =
    let h = held_accepted s ci at tile e x m (put m 0 (unpacked_bits s e x)) p refl t in
    (h.0, (q, λ a k l. holds_lent s ci tile e x (put m 0 (unpacked_bits s e x)) o q (h.1.1 a k l)))

-- a rectangle

module _ (s : List ℕ) (e row column rows columns : ℕ) where
  pub means_inside : e < element_count s → row + rows ≤ grid_rows s → column + columns ≤ grid_columns s → true ≡ rectangle_inside s e row column rows columns
  unfolding rectangle_inside
  means_inside h k l = yes _ (omega arith, (k, (l, tt)))

  pub not_inside : (e < element_count s → row + rows ≤ grid_rows s → column + columns ≤ grid_columns s → ⊥) → false ≡ rectangle_inside s e row column rows columns
  unfolding rectangle_inside
  not_inside f = no _ (λ y. f (omega (arith, y.0)) y.1.0 y.1.1.0)

  pub lacks : (n : ℕ) → n ≡ element_count s → n ≤ e → false ≡ rectangle_inside s e row column rows columns
  unfolding rectangle_inside
  lacks n p h = no _ (λ y. omega (arith, y.0))

  module _ (n g : ℕ) (a : Bool) (p : n ≡ element_count s) (q : g ≡ grid_rows s) (u : a ≡ leb (row + rows) g) (h : e < n) where
    pub rows_past : a ≡ false → false ≡ rectangle_inside s e row column rows columns
    unfolding rectangle_inside
    rows_past f = no _ (λ y. omega (arith, y.1.0, leb-false (row + rows) g (sym u ∙ f)))

    pub rows_inside : (w : ℕ) (b : Bool) → a ≡ true → w ≡ grid_columns s → b ≡ leb (column + columns) w → b ≡ rectangle_inside s e row column rows columns
    unfolding rectangle_inside
    rows_inside w b f t v =
        let k = leb-true (row + rows) g (sym u ∙ f) in
        either_way _ b (λ z. let l = leb-true (column + columns) w (sym v ∙ z) in (omega arith, (omega arith, (omega arith, tt))))
        (λ z y. omega (arith, y.1.1.0, leb-false (column + columns) w (sym v ∙ z)))

  module _ (f : rectangle_inside s e row column rows columns ≡ true) where
    pub inside_means : (e < element_count s) × ((row + rows ≤ grid_rows s) × (column + columns ≤ grid_columns s))
    unfolding rectangle_inside
    inside_means = let y = means _ f in (omega (arith, y.0), (y.1.0, y.1.1.0))

    pub inside_cell : (r c : ℕ) → r < rows → c < columns → in_grid s (row + r) (column + c) e ≡ true
    unfolding in_grid
    inside_cell r c h k = let y = inside_means in sym (yes _ (omega (arith, y.1.0), (omega (arith, y.1.1), (omega (arith, y.0), tt))))

-- a cell's tile, and its number inside that

pub there_small :
    (row column n k : ℕ) (b d : Bool) → b ≡ leb (row + 1) n → b ≡ true → d ≡ leb (column + 1) k → n < 4294967296 → k < 4294967296 → d ≡ true →
    (row < 4294967296) × (column < 4294967296)
there_small row column n k b d t f u h l z = (omega (arith, leb-true (row + 1) n (sym t ∙ f)), omega (arith, leb-true (column + 1) k (sym u ∙ z)))

module _ (s : List ℕ) (row column : ℕ) where
  abbrev there : List Test
  there = (row + 1 ≤? grid_rows s) ∷ (column + 1 ≤? grid_columns s) ∷ []

  pub there_past : (n : ℕ) (b : Bool) → n ≡ grid_rows s → b ≡ leb (row + 1) n → b ≡ false → false ≡ cell_there s row column
  unfolding cell_there
  there_past n b p q f = no there (λ y. omega (arith, y.0, leb-false (row + 1) n (sym q ∙ f)))

  pub there_is :
      (n k : ℕ) (b d : Bool) → n ≡ grid_rows s → k ≡ grid_columns s → b ≡ leb (row + 1) n → b ≡ true → d ≡ leb (column + 1) k → d ≡ cell_there s row column
  unfolding cell_there
  there_is n k b d p q t f u =
      let h = leb-true (row + 1) n (sym t ∙ f) in
      either_way there d (λ z. let l = leb-true (column + 1) k (sym u ∙ z) in (omega arith, (omega arith, tt))) (λ z y. omega (arith, y.1.0, leb-false (column + 1) k (sym u ∙ z)))

  in_there : (e : ℕ) → in_grid s row column e ≡ true → cell_there s row column ≡ true
  unfolding cell_there
  in_there e f = let g = grid_means s row column e f in sym (yes there (omega (arith, g.0), (omega (arith, g.1.0), tt)))

  pub holding_is : (e : ℕ) → in_grid s row column e ≡ true → tile_holding s row column ≡ cell_tile s row column
  unfolding tile_holding
  holding_is e f = rw (in_there e f)

  pub number_is : (e : ℕ) → in_grid s row column e ≡ true → number_holding s row column ≡ cell_inside s row column
  unfolding number_holding
  number_is e f = rw (in_there e f)

  -- as the functions below give them
  module _ (b : Bool) (q : b ≡ cell_there s row column) where
    pub holds_tile : (t : ℕ) → b ≡ true → t ≡ cell_tile s row column → t ≡ tile_holding s row column
    unfolding tile_holding
    holds_tile t f e = rw (← q, f) e

    pub no_tile : b ≡ false → 0 ≡ tile_holding s row column
    unfolding tile_holding
    no_tile f = rw (← q, f)

    pub holds_number : (t : ℕ) → b ≡ true → t ≡ cell_inside s row column → t ≡ number_holding s row column
    unfolding number_holding
    holds_number t f e = rw (← q, f) e

    pub no_number : b ≡ false → 0 ≡ number_holding s row column
    unfolding number_holding
    no_number f = rw (← q, f)

  pub same_tile : (r c : ℕ) → row / tile_rows s ≡ r / tile_rows s → column / tile_columns s ≡ c / tile_columns s → cell_tile s row column ≡ cell_tile s r c
  unfolding cell_tile tile_in tile_of
  same_tile r c p q = rw (p, q)

pub sides_accepted : (s : List ℕ) → check s ≡ Ok tt → Sides s
sides_accepted s a = sides_mean s (check_lawful s a)

pub tile_there : (s : List ℕ) → check s ≡ Ok tt → (row column e : ℕ) → in_grid s row column e ≡ true → (cell_tile s row column < tile_count s) × (e < element_count s)
tile_there s a row column e f =
    let d = sides_accepted s a in
    let g = grid_means s row column e f in
    (tile_less s row column (omega (arith, d.tile_rows_lem.0)) (omega (arith, d.tile_columns_lem.0)) g.0 g.1.0, g.1.1)

-- numbers inside a tile: small, and rising from row to row by the tile's columns

pub inside_few : (s : List ℕ) → check s ≡ Ok tt → (row column : ℕ) → cell_inside s row column < 16777216
inside_few s a row column = inside_small s row column (check_lawful s a)

pub inside_down :
    (s : List ℕ) (row d column : ℕ) → (row + d) / tile_rows s ≡ row / tile_rows s → cell_inside s (row + d) column ≡ cell_inside s row column + d * tile_columns s
unfolding cell_inside inside_of
inside_down s row d column e =
    let h = tile_rows s in
    let m : (row + d) / h * h ≡ row / h * h = ap (λ (n : ℕ). n * h) e in
    let r : (row + d) % h ≡ row % h + d = omega (arith, m, div-add-mod' row h, div-add-mod' (row + d) h) in
    rw r (omega arith)
