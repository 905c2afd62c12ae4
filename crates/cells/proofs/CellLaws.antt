-- What is asked for, and what a tile record says of it, from what the functions below answer. Assumes nothing.
use Prim.Native.Nat.{ℕ, min, ◌+◌, ◌*◌, ◌%◌, ◌≤◌, ◌<◌}
use mathlib.Core.Path.{◌≡◌, refl, sym, ap, ◌∙◌}
use mathlib.Core.List.{List, [], ◌∷◌}
use Rattle.std.specs.Prelude.{Option, Some, None, Err, Ok, Result}
use mathlib.Core.Bool.{Bool, true, false}
use native.Mathlib.Omega.{arith}
use native.Mathlib.Nat.{mod-lt, mul-le-mul, mul-le-mul_left}
use lib.ListN.{length}
use lib.Dec.{leb, eqb}
use borrow.Author.Tests.{leb-true, eqb-true, eqb-false, ne_eqb}
use Rattle.wire.specs.Pick.{pick}
use Rattle.wire.specs.Tests.{◌≤?◌, passes}
use Rattle.wire.specs.Bytes.{byte_at, part, u32_at, number_at}
use Rattle.wire.proofs.TestLaws.{means, yes, no, fails, not_both, either_way}
use Rattle.answer.specs.declared.Value.{Value}
use Rattle.answer.specs.declared.Refusal.{Refusal}
use Rattle.answer.specs.declared.Refusal.TheVariants as refusal
use Rattle.answer.specs.declared.Location.{Location}
use Rattle.answer.specs.declared.Cell.{Cell}
use Rattle.answer.specs.declared.Cell.TheVariants as cell
use Rattle.answer.specs.declared.Held.TheVariants as held
use Rattle.answer.specs.Values.{value_of}
use Rattle.header.specs.declared.Element.{Element}
use Rattle.header.specs.Fields.{grid_rows, grid_columns, tile_rows, tile_columns, element_count}
use Rattle.header.specs.Element.{cell_size, element}
use Rattle.geometry.specs.Tiles.{tile_count, inside_of, cell_inside, tiles_in, cell_tile, tiles_along}
use Rattle.geometry.specs.Sizes.{cap, packing_of, element_packing, cell_offset, uncompressed, element_bytes}
use Rattle.geometry.specs.declared.Packing.TheVariants.{Uncompressed, Compressed, Fault}
use Rattle.geometry.proofs.SizeLaws.{size_range}
use Rattle.check_header.specs.HeaderRecord.{sides_right}
use Rattle.check_header.specs.Ceilings.{sides_within}
use Rattle.check_header.specs.Passed.{Sides}
use Rattle.check_header.proofs.PassedLaws.{sides_of}
use Rattle.check_records.specs.TileBody.{section_packing, not_fault, section_right}
use Rattle.bodies.specs.TileRecord.{section_at, section_length, element_content_at}
use Rattle.geometry.proofs.GridLaws.{grid_less, tile_less, along_most}
use Rattle.unpack.specs.Unpack.{unpacked, cell_at}
use Rattle.cells.specs.Asked.{in_grid, in_tiles}
use Rattle.cells.specs.inner.Lookups.{sides_lawful, reached_by, cell_reached, content_reached, room_reached}
use Rattle.cells.specs.TileCells.{location_of, offset_in, packed, place_in, stored_at, fill_of, unpackable, unpacked_in, packed_cell, cell_from, cell_in, content_in, cell_of, content_of, room_of}

-- what is asked for

module _ (s : List ℕ) (row column e : ℕ) where
  pub row_out : (n : ℕ) → n ≡ grid_rows s → n ≤ row → false ≡ in_grid s row column e
  unfolding in_grid
  row_out n p h = no _ (λ y. omega (arith, y.0))

  pub column_out : (n : ℕ) → n ≡ grid_columns s → n ≤ column → false ≡ in_grid s row column e
  unfolding in_grid
  column_out n p h = no _ (λ y. omega (arith, y.1.0))

  pub element_out : (n : ℕ) → n ≡ element_count s → n ≤ e → false ≡ in_grid s row column e
  unfolding in_grid
  element_out n p h = no _ (λ y. omega (arith, y.1.1.0))

  pub grid_in : (a b c : ℕ) → a ≡ grid_rows s → b ≡ grid_columns s → c ≡ element_count s → row < a → column < b → e < c → true ≡ in_grid s row column e
  unfolding in_grid
  grid_in a b c p q t h k l = yes _ (omega arith, (omega arith, (omega arith, tt)))

  pub grid_means : in_grid s row column e ≡ true → (row < grid_rows s) × ((column < grid_columns s) × (e < element_count s))
  unfolding in_grid
  grid_means f = let y = means _ f in (omega (arith, y.0), (omega (arith, y.1.0), omega (arith, y.1.1.0)))

module _ (s : List ℕ) (tile e : ℕ) where
  pub tile_out : (n : ℕ) → n ≡ tile_count s → n ≤ tile → false ≡ in_tiles s tile e
  unfolding in_tiles
  tile_out n p h = no _ (λ y. omega (arith, y.0))

  pub tile_element_out : (n : ℕ) → n ≡ element_count s → n ≤ e → false ≡ in_tiles s tile e
  unfolding in_tiles
  tile_element_out n p h = no _ (λ y. omega (arith, y.1.0))

  pub tiles_in_lem : (a c : ℕ) → a ≡ tile_count s → c ≡ element_count s → tile < a → e < c → true ≡ in_tiles s tile e
  unfolding in_tiles
  tiles_in_lem a c p q h k = yes _ (omega arith, (omega arith, tt))

  pub tiles_mean : in_tiles s tile e ≡ true → (tile < tile_count s) × (e < element_count s)
  unfolding in_tiles
  tiles_mean f = let y = means _ f in (omega (arith, y.0), omega (arith, y.1.0))

-- lawful sides

pub sides_is : (s : List ℕ) (a b : Bool) → a ≡ sides_right s → a ≡ true → b ≡ sides_within s → b ≡ sides_lawful s
unfolding sides_lawful
sides_is s a b p e q = either_way _ b (λ z. (sym p ∙ e, (sym q ∙ z, tt))) (λ z w. not_both w.1.0 (sym q ∙ z))

pub sides_not : (s : List ℕ) (a : Bool) → a ≡ sides_right s → a ≡ false → false ≡ sides_lawful s
unfolding sides_lawful
sides_not s a p e = no _ (λ y. not_both y.0 (sym p ∙ e))

pub sides_mean : (s : List ℕ) → sides_lawful s ≡ true → Sides s
unfolding sides_lawful
sides_mean s e = let y = means _ e in sides_of s y.0 y.1.0

-- numbers of tiles, numbers inside a tile and bytes of an element are small

pub count_small : (s : List ℕ) → Sides s → tile_count s ≤ 4294967296
unfolding tile_count tiles_in
count_small s d =
    let a : tiles_along (grid_rows s) (tile_rows s) ≤ 65536 = omega (arith, along_most (grid_rows s) (tile_rows s) (omega (arith, d.tile_rows_lem.0)), d.rows.1) in
    let b : tiles_along (grid_columns s) (tile_columns s) ≤ 65536 =
    omega (arith, along_most (grid_columns s) (tile_columns s) (omega (arith, d.tile_columns_lem.0)), d.columns.1) in
    let m : tiles_along (grid_rows s) (tile_rows s) * tiles_along (grid_columns s) (tile_columns s) ≤ 65536 * 65536 = mul-le-mul a b in
    omega arith

pub tile_small_lem : (s : List ℕ) (row column : ℕ) → Sides s → row < grid_rows s → column < grid_columns s → cell_tile s row column < 4294967296
tile_small_lem s row column d r c =
    omega (arith, count_small s d, tile_less s row column (omega (arith, d.tile_rows_lem.0)) (omega (arith, d.tile_columns_lem.0)) r c)

product_small : (h w : ℕ) → h ≤ 4096 → w ≤ 4096 → h * w ≤ 16777216
product_small h w p q = let m : h * w ≤ 4096 * 4096 = mul-le-mul p q in omega arith

pub inside_small : (s : List ℕ) (row column : ℕ) → sides_lawful s ≡ true → cell_inside s row column < 16777216
unfolding cell_inside inside_of
inside_small s row column e =
    let a = sides_mean s e in
    let b : row % tile_rows s < tile_rows s = mod-lt row (omega (arith, a.tile_rows_lem.0)) in
    let c : column % tile_columns s < tile_columns s = mod-lt column (omega (arith, a.tile_columns_lem.0)) in
    let g = grid_less (tile_columns s) (row % tile_rows s) (column % tile_columns s) c (tile_rows s) b in
    omega (arith, product_small (tile_rows s) (tile_columns s) a.tile_rows_lem.1 a.tile_columns_lem.1)

pub offset_few : (k i : ℕ) → cell_offset k i ≤ i * 4
unfolding cell_offset
offset_few k i = mul-le-mul_left i (size_range k).1

pub offset_is :
    (s : List ℕ) (row column e k i r : ℕ) → sides_lawful s ≡ true → k ≡ (element s e).kind → i ≡ cell_inside s row column → r ≡ cell_offset k i →
    (r ≡ offset_in s row column e) × (r ≤ 67108864)
unfolding offset_in
offset_is s row column e k i r l p q f =
    (f ∙ rw (p, q), omega (arith, offset_few k i, inside_small s row column l))

pub bytes_small : (s : List ℕ) (e n : ℕ) → sides_lawful s ≡ true → n ≡ min (element_bytes s e) cap → n ≡ element_bytes s e
unfolding element_bytes uncompressed
bytes_small s e n l p =
    let a = sides_mean s l in
    let m : tile_rows s * tile_columns s * cell_size (element s e).kind ≤ 16777216 * 4 =
    mul-le-mul (product_small (tile_rows s) (tile_columns s) a.tile_rows_lem.1 a.tile_columns_lem.1) (size_range (element s e).kind).1 in
    omega arith

module _ (s : List ℕ) (x e p l u : ℕ) (a : p ≡ section_at s x e) (b : l ≡ u32_at s p) (c : u ≡ min (element_bytes s e) cap) where
  length_is : l ≡ section_length s x e
  unfolding section_length
  length_is = b ∙ rw a

  pub packed_yes : l < u → true ≡ packed s x e
  unfolding packed
  packed_yes h = yes _ (omega (arith, length_is), tt)

  pub packed_no : l < cap → u ≤ l → false ≡ packed s x e
  unfolding packed
  packed_no h k = no _ (λ y. omega (arith, y.0, length_is))

-- where stage 8 passes a section, compressed is what its length is judged to be
pub packed_told : (s : List ℕ) (x e : ℕ) → section_right s x e ≡ true → (packed s x e ≡ true → section_packing s x e ≡ Compressed) × (packed s x e ≡ false → section_packing s x e ≡ Uncompressed)
unfolding section_right section_packing element_packing packing_of packed
packed_told s x e r = go (eqb (section_length s x e) 0) refl (eqb (section_length s x e) (element_bytes s e)) refl (leb (section_length s x e) (element_bytes s e)) refl r
  where
    go :
        (a : Bool) → eqb (section_length s x e) 0 ≡ a → (b : Bool) → eqb (section_length s x e) (element_bytes s e) ≡ b → (c : Bool) →
        leb (section_length s x e) (element_bytes s e) ≡ c → not_fault (pick a Fault (pick b Uncompressed (pick c Compressed Fault))) ≡ true →
        (passes ((section_length s x e + 1 ≤? element_bytes s e) ∷ []) ≡ true → pick a Fault (pick b Uncompressed (pick c Compressed Fault)) ≡ Compressed)
        × (passes ((section_length s x e + 1 ≤? element_bytes s e) ∷ []) ≡ false → pick a Fault (pick b Uncompressed (pick c Compressed Fault)) ≡ Uncompressed)
    go true f b g c h t = not_both t refl
    go false f true g c h t = let y = eqb-true (section_length s x e) (element_bytes s e) g in ((λ p. absurd (omega (arith, (means _ p).0))), (λ p. refl))
    go false f false g true h t =
        let y = eqb-false (section_length s x e) (element_bytes s e) g in
        let z = leb-true (section_length s x e) (element_bytes s e) h in
        ((λ p. refl), (λ p. absurd (fails _ p (omega arith, tt))))
    go false f false g false h t = not_both t refl

pub place_is : (s : List ℕ) (x row column e p o : ℕ) → p ≡ section_at s x e → o ≡ offset_in s row column e → p + 4 + o ≡ place_in s x row column e
unfolding place_in element_content_at
place_is s x row column e p o a b = rw (a, b)

-- values

pub bits_short : (s : List ℕ) (k at r : ℕ) → k ≡ 3 → r ≡ number_at 2 s at → r ≡ number_at (cell_size k) s at
unfolding cell_size
bits_short s k at r h e = rw h e

pub bits_other : (s : List ℕ) (k at r : ℕ) → (k ≡ 3 → ⊥) → r ≡ number_at 4 s at → r ≡ number_at (cell_size k) s at
unfolding cell_size
bits_other s k at r h e = rw (ne_eqb k 3 h) e

pub stored_is :
    (s : List ℕ) (w : Location) (e at k b : ℕ) (v : Value) → k ≡ (element s e).kind → b ≡ number_at (cell_size k) s (at + 0) → v ≡ value_of k b → Ok (cell.Stored v at w) ≡ stored_at s w e at
unfolding stored_at
stored_is s w e at k b v p q f = let z : at + 0 ≡ at = omega arith in ap (λ (x : Value). Ok (cell.Stored x at w)) (f ∙ rw (q, p, z))

pub location_is : (s : List ℕ) (row column t i : ℕ) → t ≡ cell_tile s row column → i ≡ cell_inside s row column → ◌≡◌ {A = Location} (record { tile = t; inside = i }) (location_of s row column)
unfolding location_of
location_is s row column t i p q = rw (p, q)

pub fill_is : (s : List ℕ) (w : Location) (e : ℕ) (x : Element) (v : Value) → x ≡ element s e → v ≡ value_of x.kind x.fill → Ok (cell.Fill v w) ≡ fill_of s w e
unfolding fill_of
fill_is s w e x v p f = ap (λ (y : Value). Ok (cell.Fill y w)) (f ∙ rw p)

-- a fill, by where the cell lies
pub fill_located : (s : List ℕ) (row column e : ℕ) (w : Location) (r : Result Cell Refusal) → w ≡ location_of s row column → r ≡ fill_of s w e → r ≡ fill_of s (location_of s row column) e
fill_located s row column e w r p q = rw p at q

-- a cell of compressed content

module _ (s : List ℕ) (ci x e : ℕ) where
  pub above_bytes : 255 < ci → false ≡ unpackable s ci x e
  unfolding unpackable
  above_bytes h = no _ (λ y. omega (arith, y.0))

  pub other_index_lem : (p b : ℕ) → p ≡ section_at s x e → b ≡ byte_at s (p + 4) → (b ≡ ci → ⊥) → false ≡ unpackable s ci x e
  unfolding unpackable element_content_at
  other_index_lem p b q t h = no _ (λ y. h (t ∙ rw q y.1.0))

  pub float_packed : (k : ℕ) → k ≡ (element s e).kind → k ≡ 2 → false ≡ unpackable s ci x e
  unfolding unpackable
  float_packed k q h = no _ (λ y. y.1.1.0 (sym q ∙ h))

  pub is_unpackable : (p b k : ℕ) → ci ≤ 255 → p ≡ section_at s x e → b ≡ byte_at s (p + 4) → b ≡ ci → k ≡ (element s e).kind → (k ≡ 2 → ⊥) → true ≡ unpackable s ci x e
  unfolding unpackable element_content_at
  is_unpackable p b k l q t h u m = yes _ (l, (ap (λ (y : ℕ). byte_at s (y + 4)) (sym q) ∙ sym t ∙ h, ((λ z. m (u ∙ z)), tt)))

pub content_taken : (s c : List ℕ) (x e p l : ℕ) → p ≡ section_at s x e → l ≡ u32_at s p → c ≡ part s (p + 4) l → c ≡ part s (element_content_at s x e) (section_length s x e)
unfolding element_content_at section_length
content_taken s c x e p l q t h = h ∙ rw (t, q)

pub cell_taken :
    (s c : List ℕ) (x row column e k i h w : ℕ) (b : Bool) (r : Option ℕ) → k ≡ (element s e).kind → i ≡ cell_inside s row column → h ≡ tile_rows s → w ≡ tile_columns s →
    b ≡ eqb k 3 → c ≡ part s (element_content_at s x e) (section_length s x e) → r ≡ cell_at (unpacked c h w b) i →
    r ≡ cell_at (unpacked_in s x e) (cell_inside s row column)
unfolding unpacked_in
cell_taken s c x row column e k i h w b r p q t u m n g = g ∙ rw (n, t, u, m, p, q)

module _ (s : List ℕ) (ci x row column e : ℕ) (b : Bool) (p : b ≡ unpackable s ci x e) where
  pub still_packed : b ≡ false → Err (refusal.Compressed x) ≡ packed_cell s ci x row column e
  unfolding packed_cell unpackable
  still_packed f = rw (← p, f)

  module _ (f : b ≡ true) (r : Option ℕ) (q : r ≡ cell_at (unpacked_in s x e) (cell_inside s row column)) where
    pub cell_malformed : r ≡ None → Err (refusal.Malformed x) ≡ packed_cell s ci x row column e
    unfolding packed_cell unpackable unpacked_in
    cell_malformed g = rw (← p, f, ← q, g)

    pub cell_unpacked :
        (v k at : ℕ) (y : Value) (w : Location) → r ≡ Some v → k ≡ (element s e).kind → y ≡ value_of k v → at ≡ section_at s x e → w ≡ location_of s row column →
        Ok (cell.Unpacked y (at + 4) w) ≡ packed_cell s ci x row column e
    unfolding packed_cell unpackable unpacked_in element_content_at
    cell_unpacked v k at y w g t m n z = rw (← p, f, ← q, g, m, t, n, z)

-- a cell and an element's content in a tile record

module _ (s : List ℕ) (x e : ℕ) (b : Bool) (p : b ≡ packed s x e) where
  pub cell_packed : (ci row column : ℕ) (r : Result Cell Refusal) → b ≡ true → r ≡ packed_cell s ci x row column e → r ≡ cell_in s ci x row column e
  unfolding cell_in cell_from packed packed_cell
  cell_packed ci row column r f q = rw (← p, f) q

  pub cell_whole : (ci row column at : ℕ) (w : Location) (r : Result Cell Refusal) → b ≡ false → w ≡ location_of s row column → at ≡ place_in s x row column e → r ≡ stored_at s w e at → r ≡ cell_in s ci x row column e
  unfolding cell_in cell_from packed stored_at place_in
  cell_whole ci row column at w r f z q t = rw (← p, f) (t ∙ rw (z, q))

  pub content_packed : b ≡ true → Err (refusal.Compressed x) ≡ content_in s x e
  unfolding content_in
  content_packed f = rw (← p, f)

  pub content_whole : (at n m : ℕ) → b ≡ false → at ≡ section_at s x e → n ≡ element_bytes s e → m ≡ n → Ok (Some (record { start = at + 4; length = m })) ≡ content_in s x e
  unfolding content_in element_content_at
  content_whole at n m f q t u = rw (← p, f, q, u, t)

-- by what was found for the tile

module _ {A : Type 0} (refused : Refusal → A) (said : Option ℕ → A) (s : List ℕ) (f : Option ℕ) where
  pub reached_none : (r : A) → f ≡ None → r ≡ said None → r ≡ reached_by refused said s f
  unfolding reached_by
  reached_none r p q = rw p q

  pub reached_at : (x : ℕ) (r : A) → f ≡ Some x → x < length s → r ≡ said (Some x) → r ≡ reached_by refused said s f
  unfolding reached_by
  reached_at x r p h q = rw (p, ← yes ((x + 1 ≤? length s) ∷ []) (omega arith, tt)) q

  reached_lost : (x : ℕ) → f ≡ Some x → length s ≤ x → refused refusal.Directory ≡ reached_by refused said s f
  unfolding reached_by
  reached_lost x p h = rw (p, ← no ((x + 1 ≤? length s) ∷ []) (λ y. omega (arith, y.0)))

module _ (s : List ℕ) (f : Option ℕ) (x : ℕ) (p : f ≡ Some x) (h : length s ≤ x) where
  pub cell_lost : (ci row column e : ℕ) → Err refusal.Directory ≡ cell_reached s ci row column e f
  cell_lost ci row column e = reached_lost Err (cell_of s ci row column e) s f x p h

  pub content_lost : (e : ℕ) → Err refusal.Directory ≡ content_reached s e f
  content_lost e = reached_lost Err (content_of s e) s f x p h

  pub held_lost : (ci e room : ℕ) → Err refusal.Directory ≡ room_reached s ci e room f
  held_lost ci e room = reached_lost Err (room_of s ci e room) s f x p h
