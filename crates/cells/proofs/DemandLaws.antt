-- Demand 3, and the bits of demand 2. Assumes nothing.
use Rattle.std.specs.Prelude.{Err, None, Ok, Option, Result, Some}
use borrow.Author.Tests.{eqb-true, eqb-false}
use Prim.Native.Nat.{ℕ, ◌+◌, ◌-◌, ◌*◌, ◌/◌, ◌%◌, ◌≤◌, ◌<◌}
use mathlib.Core.Path.{◌≡◌, refl, sym, ap, ◌∙◌}
use mathlib.Core.List.{List}
use Rattle.std.specs.Prelude.{Option, Some, None}
use mathlib.Core.Bool.{Bool, true, false}
use mathlib.Core.Logic.{◌⊎◌, ⊎_elim}
use native.Mathlib.Omega.{arith}
use lib.ListN.{length, get_or}
use lib.Dec.{eqb}
use Rattle.wire.specs.Pick.{pick}
use Rattle.wire.specs.Bytes.{Bytes, part, u32_at, number_at}
use Rattle.wire.proofs.ByteLaws.{number_small}
use Rattle.answer.specs.declared.Refusal.{Refusal}
use Rattle.answer.specs.declared.Extent.{Extent}
use Rattle.answer.specs.declared.Refusal.TheVariants.{Compressed, OutsideGrid}
use Rattle.answer.specs.declared.Value.{Value}
use Rattle.answer.specs.declared.Location.{Location}
use Rattle.answer.specs.declared.Cell.TheVariants as cell
use Rattle.answer.specs.Values.{value_bits, value_of}
use Rattle.answer.specs.Answers.{cell_kind, cell_bits, cell_place, cell_verdict, answer_tile, answer_inside, content_place, content_length}
use Rattle.answer.proofs.VerdictLaws.{refused_not}
use Rattle.answer.specs.Refusals.{unless_refused}
use Rattle.answer.proofs.ValueLaws.{short_bits_kept, short_small, bits_kept}
use Rattle.record.specs.Chain.{header_end, records}
use Rattle.record.proofs.ChainLaws.{whole_extent}
use Rattle.record.proofs.FindLaws.{of_type}
use Rattle.header.specs.Fields.{grid_rows, grid_columns, tile_rows, tile_columns, element_count}
use Rattle.geometry.proofs.GridLaws.{tile_less, inside_less, found_again}
use Rattle.check_header.specs.Passed.{Sides}
use Rattle.wire.proofs.TestLaws.{not_both}
use Rattle.geometry.specs.Tiles.{tiles_across, tile_count, cell_tile, cell_inside}
use Rattle.geometry.specs.Sizes.{element_bytes}
use Rattle.bodies.specs.TileRecord.{section_at, section_length, element_content_at}
use Rattle.unpack.specs.Unpack.{Cells, cells, malformed, unpacked, cell_at, cells_in, is_whole}
use Rattle.unpack.proofs.AnswerLaws.{bits_small, taken_cell, whole_long, whole_cell}
use Rattle.page_check.specs.Accepted.{Sound}
use Rattle.page_check.proofs.AcceptedLaws.{accepted_sound}
use Rattle.page_check.proofs.GivenLaws.{sound_tile}
use Rattle.header.specs.Element.{cell_size, element, entry_at, fill_bits}
use Rattle.cells.specs.Asked.{in_grid, in_tiles}
use Rattle.tile_routes.specs.Ways.{meant}
use Rattle.cells.specs.Routes.{tile_by, cell_by}
use Rattle.cells.specs.Demand3.{bytes_of_cell, InRecord, Demand3, ContentInside}
use Rattle.cells.specs.Meaning.{meaning, content_meaning, held_meaning}
use Rattle.cells.specs.TileCells.{location_of, content_in, packed, fill_of, unpackable, unpacked_in, unpacked_at, cell_from, cell_in, stored_at, offset_in, place_in, held_in, held_bits, held_count}
use Rattle.cells.specs.Reads.{read_by_directory, read_by_walk, read_by_records}
use Rattle.cells.specs.Demand2.{Demand2Bits, RightBits, ShortBits}
use Rattle.cells.specs.Compressor.{OldReads, ContentStays, OnlyPacked, UnpackedWhere, EachCell, HeldEach, HeldCounted}
use Rattle.cells.proofs.CellLaws.{grid_means, tiles_mean, tiles_in_lem, sides_mean, above_bytes}
use Rattle.cells.proofs.HeldLaws.{stored_cell, stored_long, in_at}
use Rattle.tile_routes.proofs.WayLaws.{meant_is}
use Rattle.cells.proofs.ApartLaws.{content_extent, stored_as, cell_extent, cells_apart, offset_within, whole_least}
use Rattle.cells.proofs.ReadLaws.{sound_lawful, sound_cells, passed_bodies}

-- what is stored lies in the file

pub stored_inside : (s : List ℕ) → Sound s → (ci row column e place : ℕ) (v : Value) (w : Location) → meaning s ci row column e ≡ Ok (cell.Stored v place w) → place + bytes_of_cell s e ≤ length s
stored_inside s o ci row column e place v w q =
    let c = stored_as s ci row column e place v w q in
    let x = cell_extent s o row column e place c in
    let w = whole_extent s (header_end s) (records s) o.chain (of_type s 2 c.among).0 in
    omega (arith, x.inside, w.inside)

present_in : (s : List ℕ) (x e at n : ℕ) → content_in s x e ≡ Ok (Some (record { start = at; length = n })) → (packed s x e ≡ false) × ((at ≡ element_content_at s x e) × (n ≡ element_bytes s e))
unfolding content_in
present_in s x e at n q = go (packed s x e) refl q
  where
    go :
        (b : Bool) → packed s x e ≡ b → pick {A = Result (Option Extent) Refusal} b (Err (Compressed x)) (Ok (Some (record { start = element_content_at s x e; length = element_bytes s e }))) ≡ Ok (Some (record { start = at; length = n })) →
        (packed s x e ≡ false) × ((at ≡ element_content_at s x e) × (n ≡ element_bytes s e))
    go true f g = let z : ◌≡◌ {A = ℕ} 0 1 = cc in absurd (omega arith)
    go false f g = (f, (sym (ap content_place g), sym (ap content_length g)))

pub sound_inside : (s : List ℕ) → Sound s → (tile e at n : ℕ) → content_meaning s tile e ≡ Ok (Some (record { start = at; length = n })) → at + n ≤ length s
unfolding content_meaning tile_by
sound_inside s o tile e at n q = go (in_tiles s tile e) refl (meant s tile) refl
  where
    go : (b : Bool) → in_tiles s tile e ≡ b → (f : Option ℕ) → meant s tile ≡ f → at + n ≤ length s
    go false i f j = let h : ◌≡◌ {A = Result (Option Extent) Refusal} (Err OutsideGrid) (Ok (Some (record { start = at; length = n }))) = rw i at q in let z : ◌≡◌ {A = ℕ} 0 1 = cc in absurd (omega arith)
    go true i None j = let h : ◌≡◌ {A = Result (Option Extent) Refusal} (Ok None) (Ok (Some (record { start = at; length = n }))) = rw (i, j) at q in let z : ◌≡◌ {A = ℕ} 0 1 = cc in absurd (omega arith)
    go true i (Some x) j =
        let t = meant_is s tile x j in
        let p = present_in s x e at n (rw (i, j) at q) in
        let c = content_extent s x e (sound_tile s o t.among) (tiles_mean s tile e i).1 in
        let w = whole_extent s (header_end s) (records s) o.chain (of_type s 2 t.among).0 in
        omega (arith, p.1.0, p.1.1, whole_least s x e p.0, c.next, c.inside, w.inside)

pub content_inside : ContentInside
content_inside s a = sound_inside s (accepted_sound s a)

-- where a cell lies
located :
    (s : List ℕ) (ci row column e : ℕ) → cell_verdict (meaning s ci row column e) ≡ Ok tt →
    (answer_tile (meaning s ci row column e) ≡ cell_tile s row column) × (answer_inside (meaning s ci row column e) ≡ cell_inside s row column)
unfolding meaning cell_by fill_of cell_in cell_from packed unpackable unpacked_in location_of
located s ci row column e h = go (in_grid s row column e) refl (meant s (cell_tile s row column)) refl
  where
    Said : Type 0
    Said = (answer_tile (meaning s ci row column e) ≡ cell_tile s row column) × (answer_inside (meaning s ci row column e) ≡ cell_inside s row column)

    go : (c : Bool) → in_grid s row column e ≡ c → (f : Option ℕ) → meant s (cell_tile s row column) ≡ f → Said
    go false i f j = refused_not (rw i at h)
    go true i None j = rw (i, j) (refl, refl)
    go true i (Some x) j = by (packed s x e) refl (unpackable s ci x e) refl (cell_at (unpacked_in s x e) (cell_inside s row column)) refl
      where
        by : (d : Bool) → packed s x e ≡ d → (g : Bool) → unpackable s ci x e ≡ g → (r : Option ℕ) → cell_at (unpacked_in s x e) (cell_inside s row column) ≡ r → Said
        by false k g l r m = rw (i, j, k) (refl, refl)
        by true k false l r m = refused_not (rw (i, j, k, l) at h)
        by true k true l None m = refused_not (rw (i, j, k, l, m) at h)
        by true k true l (Some v) m = rw (i, j, k, l, m) (refl, refl)

in_grid_lem : (s : List ℕ) (ci row column e : ℕ) → cell_verdict (meaning s ci row column e) ≡ Ok tt → in_grid s row column e ≡ true
unfolding meaning cell_by
in_grid_lem s ci row column e h = go (in_grid s row column e) refl
  where
    go : (c : Bool) → in_grid s row column e ≡ c → in_grid s row column e ≡ true
    go true i = i
    go false i = refused_not (rw i at h)

module _ (s : List ℕ) (o : Sound s) (ci row column e : ℕ) where
  module _ (h : cell_verdict (meaning s ci row column e) ≡ Ok tt) where
    asked : (row < grid_rows s) × ((column < grid_columns s) × (e < element_count s))
    asked = grid_means s row column e (in_grid_lem s ci row column e h)

    sides : Sides s
    sides = sides_mean s (sound_lawful s o)

    numbered : (answer_tile (meaning s ci row column e) < tile_count s) × (answer_inside (meaning s ci row column e) < tile_rows s * tile_columns s)
    unfolding cell_inside
    numbered =
        let l = located s ci row column e h in
        let a : 0 < tile_rows s = omega (arith, sides.tile_rows_lem.0) in
        let b : 0 < tile_columns s = omega (arith, sides.tile_columns_lem.0) in
        rw (l.0, l.1) (tile_less s row column a b asked.0 asked.1.0, inside_less (tile_rows s) (tile_columns s) row column a b)

    found :
        (row ≡ answer_tile (meaning s ci row column e) / tiles_across s * tile_rows s + answer_inside (meaning s ci row column e) / tile_columns s)
        × (column ≡ answer_tile (meaning s ci row column e) % tiles_across s * tile_columns s + answer_inside (meaning s ci row column e) % tile_columns s)
    unfolding cell_tile cell_inside tiles_across
    found =
        let l = located s ci row column e h in
        rw (l.0, l.1) (found_again (grid_columns s) (tile_rows s) (tile_columns s) row column (omega (arith, sides.tile_columns_lem.0)) asked.1.0)

  in_record :
      (cell_kind (meaning s ci row column e) ≡ 32) ⊎ (cell_kind (meaning s ci row column e) ≡ 34) →
      InRecord s (answer_tile (meaning s ci row column e)) (cell_place (meaning s ci row column e))
  unfolding meaning cell_by fill_of cell_in cell_from packed unpackable unpacked_in location_of place_in
  in_record h = go (in_grid s row column e) refl (meant s (cell_tile s row column)) refl
    where
      Said : Type 0
      Said = InRecord s (answer_tile (meaning s ci row column e)) (cell_place (meaning s ci row column e))

      neither : (m : ℕ) → (m ≡ 32 → ⊥) → (m ≡ 34 → ⊥) → (m ≡ 32) ⊎ (m ≡ 34) → Said
      neither m f k = ⊎_elim (λ x. absurd (f x)) (λ x. absurd (k x))

      go : (c : Bool) → in_grid s row column e ≡ c → (f : Option ℕ) → meant s (cell_tile s row column) ≡ f → Said
      go false i f j = neither 10 (λ x. omega arith) (λ x. omega arith) (rw i at h)
      go true i None j = neither 33 (λ x. omega arith) (λ x. omega arith) (rw (i, j) at h)
      go true i (Some x) j = by (packed s x e) refl (unpackable s ci x e) refl (cell_at (unpacked_in s x e) (cell_inside s row column)) refl
        where
          here : (at : ℕ) → element_content_at s x e ≤ at → at ≤ element_content_at s x e + section_length s x e → InRecord s (cell_tile s row column) at
          here at a b =
              let t = meant_is s (cell_tile s row column) x j in
              let c = content_extent s x e (sound_tile s o t.among) (grid_means s row column e i).1.1 in
              record { start = x; among = t.among; index = t.index; behind = omega (arith, c.behind); inside = omega (arith, c.next, c.inside) }

          by : (d : Bool) → packed s x e ≡ d → (g : Bool) → unpackable s ci x e ≡ g → (r : Option ℕ) → cell_at (unpacked_in s x e) (cell_inside s row column) ≡ r → Said
          by false k g l r m =
              let d = sides_mean s (sound_lawful s o) in
              let w = offset_within s row column e (omega (arith, d.tile_rows_lem.0)) (omega (arith, d.tile_columns_lem.0)) in
              rw (i, j, k) (here (place_in s x row column e) (omega arith) (omega (arith, whole_least s x e k)))
          by true k false l r m = neither 11 (λ x. omega arith) (λ x. omega arith) (rw (i, j, k, l) at h)
          by true k true l None m = neither 14 (λ x. omega arith) (λ x. omega arith) (rw (i, j, k, l, m) at h)
          by true k true l (Some v) m = rw (i, j, k, l, m) (here (element_content_at s x e) (omega arith) (omega arith))

-- demand 3

pub demand_3 : Demand3
unfolding read_by_directory read_by_walk read_by_records unless_refused
demand_3 s a ci =
    record {
      by_directory = λ row column e. rw a ((sound_cells s (accepted_sound s a) ci).through_directory_lem row column e);
      by_walk = λ row column e. rw a ((sound_cells s (accepted_sound s a) ci).along_records row column e);
      by_records = λ row column e. rw (passed_bodies s a) ((sound_cells s (accepted_sound s a) ci).along_records row column e);
      located = located s ci;
      numbered = numbered s (accepted_sound s a) ci;
      found_again = found s (accepted_sound s a) ci;
      in_record = in_record s (accepted_sound s a) ci;
      inside = stored_inside s (accepted_sound s a) ci;
      apart = cells_apart s (accepted_sound s a) ci;
    }

-- the bits: a value is made of a number of as many bytes as its type has, and gives it back

value_bits_lem : (s : List ℕ) → Bytes s → (kind at : ℕ) → value_bits (value_of kind (number_at (cell_size kind) s at)) ≡ number_at (cell_size kind) s at
unfolding cell_size
value_bits_lem s b kind at = go (eqb kind 3) refl
  where
    go : (c : Bool) → eqb kind 3 ≡ c → value_bits (value_of kind (number_at (pick (eqb kind 3) 2 4) s at)) ≡ number_at (pick (eqb kind 3) 2 4) s at
    go true f = rw f (short_bits_kept kind (number_at 2 s at) (eqb-true _ _ f) (number_small 2 s b at))
    go false f = rw f (bits_kept kind (number_at 4 s at) (eqb-false _ _ f) (number_small 4 s b at))

-- and of an unpacked cell, where it comes out

unpacked_bits_lem :
    (s : List ℕ) (x e i v : ℕ) → cell_at (unpacked_in s x e) i ≡ Some v → value_bits (value_of (element s e).kind v) ≡ get_or (cells_in (unpacked_at s e (element_content_at s x e))) i 0
unfolding unpacked_in element_content_at section_length
unpacked_bits_lem s x e i v q =
    let c = part s (section_at s x e + 4) (u32_at s (section_at s x e)) in
    let h = taken_cell (unpacked c (tile_rows s) (tile_columns s) (eqb (element s e).kind 3)) i v q in
    let k : section_at s x e + 4 - 4 ≡ section_at s x e = omega arith in
    rw k (ap (λ (n : ℕ). value_bits (value_of (element s e).kind n)) (sym h) ∙ kept (element s e).kind _ (bits_small c (tile_rows s) (tile_columns s) (eqb (element s e).kind 3) i))
  where
    kept : (kind n : ℕ) → n < pick (eqb kind 3) 65536 4294967296 → value_bits (value_of kind n) ≡ n
    kept kind n h = go (eqb kind 3) refl h
      where
        go : (b : Bool) → eqb kind 3 ≡ b → n < pick b 65536 4294967296 → value_bits (value_of kind n) ≡ n
        go true f l = short_bits_kept kind n (eqb-true _ _ f) l
        go false f l = bits_kept kind n (eqb-false _ _ f) l

pub demand_2_bits : Demand2Bits
unfolding meaning cell_by fill_of cell_in cell_from packed unpackable unpacked_in place_in element entry_at fill_bits
demand_2_bits s b ci row column e = go (in_grid s row column e) refl (meant s (cell_tile s row column)) refl
  where
    go : (c : Bool) → in_grid s row column e ≡ c → (f : Option ℕ) → meant s (cell_tile s row column) ≡ f → RightBits s ci row column e
    go false i f j =
        record { stored = λ h. absurd (omega (arith, rw i at h)); fill = λ h. absurd (omega (arith, rw i at h)); unpacked = λ h. absurd (omega (arith, rw i at h)) }
    go true i None j =
        record {
          stored = λ h. absurd (omega (arith, rw (i, j) at h));
          fill = λ h. rw (i, j) (value_bits_lem s b (element s e).kind _);
          unpacked = λ h. absurd (omega (arith, rw (i, j) at h));
        }
    go true i (Some x) j = by (packed s x e) refl (unpackable s ci x e) refl (cell_at (unpacked_in s x e) (cell_inside s row column)) refl
      where
        by :
            (d : Bool) → packed s x e ≡ d → (g : Bool) → unpackable s ci x e ≡ g → (r : Option ℕ) → cell_at (unpacked_in s x e) (cell_inside s row column) ≡ r →
            RightBits s ci row column e
        by false k g l r m =
            record {
              stored = λ h. rw (i, j, k) (value_bits_lem s b (element s e).kind (place_in s x row column e));
              fill = λ h. absurd (omega (arith, rw (i, j, k) at h));
              unpacked = λ h. absurd (omega (arith, rw (i, j, k) at h));
            }
        by true k false l r m =
            record {
              stored = λ h. absurd (omega (arith, rw (i, j, k, l) at h));
              fill = λ h. absurd (omega (arith, rw (i, j, k, l) at h));
              unpacked = λ h. absurd (omega (arith, rw (i, j, k, l) at h));
            }
        by true k true l None m =
            record {
              stored = λ h. absurd (omega (arith, rw (i, j, k, l, m) at h));
              fill = λ h. absurd (omega (arith, rw (i, j, k, l, m) at h));
              unpacked = λ h. absurd (omega (arith, rw (i, j, k, l, m) at h));
            }
        by true k true l (Some v) m =
            record {
              stored = λ h. absurd (omega (arith, rw (i, j, k, l, m) at h));
              fill = λ h. absurd (omega (arith, rw (i, j, k, l, m) at h));
              unpacked = λ h. rw (i, j, k, l, m) (unpacked_bits_lem s x e (cell_inside s row column) v m);
            }

pub short_bits : ShortBits
unfolding meaning cell_by fill_of cell_in cell_from packed unpackable unpacked_in
short_bits s ci row column e q = go (in_grid s row column e) refl (meant s (cell_tile s row column)) refl
  where
    go : (c : Bool) → in_grid s row column e ≡ c → (f : Option ℕ) → meant s (cell_tile s row column) ≡ f → cell_bits (meaning s ci row column e) < 65536
    go false i f j = rw i (omega arith)
    go true i None j = rw (i, j) (short_small _ _ q)
    go true i (Some x) j = by (packed s x e) refl (unpackable s ci x e) refl (cell_at (unpacked_in s x e) (cell_inside s row column)) refl
      where
        by :
            (d : Bool) → packed s x e ≡ d → (g : Bool) → unpackable s ci x e ≡ g → (r : Option ℕ) → cell_at (unpacked_in s x e) (cell_inside s row column) ≡ r →
            cell_bits (meaning s ci row column e) < 65536
        by false k g l r m = rw (i, j, k) (short_small _ _ q)
        by true k false l r m = rw (i, j, k, l) (omega arith)
        by true k true l None m = rw (i, j, k, l, m) (omega arith)
        by true k true l (Some v) m = rw (i, j, k, l, m) (short_small _ _ q)

-- what the compressor index changes

pub old_reads : OldReads
unfolding cell_in cell_from packed unpackable stored_at place_in
old_reads s ci x row column e h = rw (← above_bytes s ci x e h)

pub content_stays : ContentStays
unfolding content_in
content_stays s x e p = rw p

pub unpacked_where : UnpackedWhere
unfolding cell_in cell_from packed unpackable unpacked_in
unpacked_where s ci x row column e = go (packed s x e) refl (unpackable s ci x e) refl (cell_at (unpacked_in s x e) (cell_inside s row column)) refl
  where
    go :
        (d : Bool) → packed s x e ≡ d → (g : Bool) → unpackable s ci x e ≡ g → (r : Option ℕ) → cell_at (unpacked_in s x e) (cell_inside s row column) ≡ r →
        OnlyPacked s ci x row column e
    go false k g l r m =
        record {
          unpacked = λ v place y h. absurd (omega (arith, ap cell_kind (rw k at h)));
          malformed = λ y h. absurd (omega (arith, ap cell_kind (rw k at h)));
        }
    go true k false l r m =
        record {
          unpacked = λ v place y h. absurd (omega (arith, ap cell_kind (rw (k, l) at h)));
          malformed = λ y h. absurd (omega (arith, ap cell_kind (rw (k, l) at h)));
        }
    go true k true l None m =
        record {
          unpacked = λ v place y h. absurd (omega (arith, ap cell_kind (rw (k, l, m) at h)));
          malformed = λ y h. (k, sym (ap cell_place (rw (k, l, m) at h)));
        }
    go true k true l (Some v) m =
        record {
          unpacked = λ w place y h. (k, sym (ap cell_place (rw (k, l, m) at h)));
          malformed = λ y h. absurd (omega (arith, ap cell_kind (rw (k, l, m) at h)));
        }

-- what is said of all cells of an element in a tile

pub not_whole_cell : (x : Cells) (i : ℕ) → is_whole x ≡ false → cell_at x i ≡ None
unfolding is_whole cell_at
not_whole_cell (cells vs) i e = not_both refl e
not_whole_cell malformed i e = refl

pub content_long : (s : List ℕ) (x e : ℕ) → is_whole (unpacked_in s x e) ≡ true → length (cells_in (unpacked_at s e (element_content_at s x e))) ≡ tile_rows s * tile_columns s
content_long s x e w = whole_long _ (tile_rows s) (tile_columns s) _ (ap is_whole (sym (in_at s x e)) ∙ w)

pub sound_each :
    (s : List ℕ) → Sound s → (ci row column e : ℕ) → in_grid s row column e ≡ true → EachCell s ci row column e (held_meaning s ci (cell_tile s row column) e)
unfolding meaning cell_by held_meaning tile_by fill_of cell_in cell_from packed unpackable unpacked_in held_in place_in offset_in cell_inside
sound_each s o ci row column e g = go (meant s (cell_tile s row column)) refl
  where
    d : Sides s
    d = sides_mean s (sound_lawful s o)

    k : (row < grid_rows s) × ((column < grid_columns s) × (e < element_count s))
    k = grid_means s row column e g

    i : in_tiles s (cell_tile s row column) e ≡ true
    i = sym (tiles_in_lem s (cell_tile s row column) e _ _ refl refl (tile_less s row column (omega (arith, d.tile_rows_lem.0)) (omega (arith, d.tile_columns_lem.0)) k.0 k.1.0) k.1.1)

    n : ℕ
    n = cell_inside s row column

    few : n < tile_rows s * tile_columns s
    few = inside_less (tile_rows s) (tile_columns s) row column (omega (arith, d.tile_rows_lem.0)) (omega (arith, d.tile_columns_lem.0))

    neither : (m : ℕ) {C : Type 0} → (m ≡ 32 → ⊥) → (m ≡ 34 → ⊥) → (m ≡ 32) ⊎ (m ≡ 34) → C
    neither m f h = ⊎_elim (λ x. absurd (f x)) (λ x. absurd (h x))

    by :
        (x : ℕ) → (p : Bool) → packed s x e ≡ p → (q : Bool) → unpackable s ci x e ≡ q → (w : Bool) → is_whole (unpacked_in s x e) ≡ w →
        meant s (cell_tile s row column) ≡ Some x → EachCell s ci row column e (held_meaning s ci (cell_tile s row column) e)
    by x false ep q eq w ew j =
        record {
          kind = rw (g, i, j, ep);
          verdict = rw (g, i, j, ep);
          bits = λ b h. rw (g, i, j, ep) (value_bits_lem s b (element s e).kind _ ∙ sym (stored_cell s (element s e).kind (element_content_at s x e) (tile_rows s * tile_columns s) n few));
        }
    by x true ep false eq w ew j = record { kind = rw (g, i, j, ep, eq); verdict = rw (g, i, j, ep, eq); bits = λ b h. neither 11 (λ y. omega arith) (λ y. omega arith) (rw (i, j, ep, eq) at h) }
    by x true ep true eq false ew j =
        let m = not_whole_cell (unpacked_in s x e) n ew in
        record { kind = rw (g, i, j, ep, eq, ew, m); verdict = rw (g, i, j, ep, eq, ew, m); bits = λ b h. neither 14 (λ y. omega arith) (λ y. omega arith) (rw (i, j, ep, eq, ew) at h) }
    by x true ep true eq true ew j =
        let m = whole_cell (unpacked_in s x e) n ew in
        record { kind = rw (g, i, j, ep, eq, ew, m); verdict = rw (g, i, j, ep, eq, ew, m); bits = λ b h. rw (g, i, j, ep, eq, ew, m) (unpacked_bits_lem s x e n _ m) }

    go : (f : Option ℕ) → meant s (cell_tile s row column) ≡ f → EachCell s ci row column e (held_meaning s ci (cell_tile s row column) e)
    go None j = record { kind = rw (g, i, j); verdict = rw (g, i, j); bits = λ b h. neither 33 (λ y. omega arith) (λ y. omega arith) (rw (i, j) at h) }
    go (Some x) j = by x (packed s x e) refl (unpackable s ci x e) refl (is_whole (unpacked_in s x e)) refl j

pub held_each : HeldEach
held_each s a = sound_each s (accepted_sound s a)

pub held_counted : HeldCounted
unfolding held_meaning tile_by held_in
held_counted s ci tile e = go (in_tiles s tile e) refl (meant s tile) refl
  where
    by :
        (x : ℕ) → (p : Bool) → packed s x e ≡ p → (q : Bool) → unpackable s ci x e ≡ q → (w : Bool) → is_whole (unpacked_in s x e) ≡ w →
        in_tiles s tile e ≡ true → meant s tile ≡ Some x → length (held_bits s e (held_meaning s ci tile e)) ≡ held_count s (held_meaning s ci tile e)
    by x false ep q eq w ew i j = rw (i, j, ep) (stored_long s (element s e).kind (element_content_at s x e) (tile_rows s * tile_columns s))
    by x true ep false eq w ew i j = rw (i, j, ep, eq)
    by x true ep true eq false ew i j = rw (i, j, ep, eq, ew)
    by x true ep true eq true ew i j = rw (i, j, ep, eq, ew) (content_long s x e ew)

    go : (b : Bool) → in_tiles s tile e ≡ b → (f : Option ℕ) → meant s tile ≡ f → length (held_bits s e (held_meaning s ci tile e)) ≡ held_count s (held_meaning s ci tile e)
    go false i f j = rw i
    go true i None j = rw (i, j)
    go true i (Some x) j = by x (packed s x e) refl (unpackable s ci x e) refl (is_whole (unpacked_in s x e)) refl i j
