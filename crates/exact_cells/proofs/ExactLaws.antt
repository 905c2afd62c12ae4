-- What a cell is, exactly: each case of the meaning, from what the record that decides holds, and back. Assumes nothing.
use Rattle.std.specs.Prelude.{Err, None, Ok, Option, Result, Some}
use Prim.Native.Nat.{ℕ, ◌+◌, ◌*◌, ◌≤◌, ◌<◌}
use mathlib.Core.Path.{◌≡◌, refl, sym, ap, subst, ◌∙◌}
use mathlib.Core.List.Memᴰ
use mathlib.Core.List.{List, [], ◌∷◌, Memᴰ}
use mathlib.Core.Bool.{Bool, true, false}
use mathlib.Core.Logic.{◌⊎◌, inl, inr, ⊎_elim}
use native.Mathlib.Omega.{arith}
use lib.ListN.{length, get_or}
use lib.Dec.{leb, eqb}
use borrow.Author.Tests.{leb-true, eqb-true, eqb-false}
use Rattle.wire.specs.Pick.{pick}
use Rattle.wire.specs.Bytes.{Bytes, byte_at, number_at}
use Rattle.wire.proofs.TestLaws.{means, yes, no, not_both, below_each}
use Rattle.wire.proofs.ListLaws.{member_select}
use Rattle.answer.specs.declared.Refusal.{Refusal}
use Rattle.answer.specs.declared.Refusal.TheVariants as refusal
use Rattle.answer.specs.declared.Value.{Value}
use Rattle.answer.specs.declared.Location.{Location}
use Rattle.answer.specs.declared.Cell.{Cell}
use Rattle.answer.specs.declared.Cell.TheVariants as cell
use Rattle.answer.specs.Values.{value_of}
use Rattle.answer.specs.Answers.{cell_kind}
use Rattle.header.specs.Fields.{tile_rows, tile_columns, element_count}
use Rattle.header.specs.Element.{float_kind, cell_size, element}
use Rattle.record.specs.Chain.{records}
use Rattle.record.proofs.FindLaws.{found_not, of_type, type_of}
use Rattle.geometry.specs.Tiles.{cell_tile, cell_inside}
use Rattle.geometry.specs.Sizes.{element_bytes, element_packing, packing_of, cell_offset}
use Rattle.geometry.specs.declared.Packing.TheVariants.{Uncompressed, Compressed, Fault}
use Rattle.geometry.proofs.GridLaws.{inside_less}
use Rattle.check_records.specs.TileBody.{not_fault, section_packing, section_right, tile_right}
use Rattle.bodies.specs.TileRecord.{section_length, element_content_at}
use Rattle.unpack.specs.Unpack.{Cells, cells, malformed, cell_at, cells_in, is_whole}
use Rattle.unpack.proofs.AnswerLaws.{whole_long}
use Rattle.page_check.specs.Accepted.{Sound}
use Rattle.page_check.proofs.AcceptedLaws.{accepted_sound}
use Rattle.page_check.proofs.GivenLaws.{sound_tile, sound_one}
use Rattle.cells.specs.Asked.{in_grid}
use Rattle.tile_routes.specs.Ways.{carries, records_with, meant}
use Rattle.cells.specs.Routes.{cell_by}
use Rattle.cells.specs.TileCells.{location_of, fill_of, packed, unpackable, cell_from, cell_in, offset_in}
use Rattle.cells.specs.Meaning.{meaning}
use Rattle.cells.specs.CellExactly.{OfGrid, TileRecordAt, Decided, Named, content_holds, IsFill, IsStored, IsUnpacked, IsMalformed, IsCompressed, CellIs, CellExactly, ReadExactly, FiveKinds}
use Rattle.cells.proofs.CellLaws.{grid_in, grid_means, sides_mean}
use Rattle.tile_routes.proofs.WayLaws.{meant_is}
use Rattle.cells.proofs.ApartLaws.{whole_least}
use Rattle.cells.proofs.ReadLaws.{sound_lawful}
use Rattle.cells.proofs.DemandLaws.{demand_3}

-- what is asked for

in_grid_lem : (s : List ℕ) (row column e : ℕ) → OfGrid s row column e → in_grid s row column e ≡ true
in_grid_lem s row column e g = sym (grid_in s row column e _ _ _ refl refl refl g.row_in g.column_in g.element_in)

of_grid : (s : List ℕ) (row column e : ℕ) → in_grid s row column e ≡ true → OfGrid s row column e
of_grid s row column e i = let g = grid_means s row column e i in record { row_in = g.0; column_in = g.1.0; element_in = g.1.1 }

-- the record that is meant

module _ (s : List ℕ) (row column x : ℕ) where
  is_meant : meant s (cell_tile s row column) ≡ Some x → TileRecordAt s row column x
  is_meant j =
      let t = meant_is s (cell_tile s row column) x j in
      let h = of_type s 2 t.among in
      record { among = h.0; type = h.1; index = t.index }

  among_with : TileRecordAt s row column x → Memᴰ x (records_with s (cell_tile s row column))
  unfolding records_with carries
  among_with t = member_select _ (records s) t.among (sym (yes _ (t.type, (t.index, tt))))

none_meant : (s : List ℕ) (row column : ℕ) → meant s (cell_tile s row column) ≡ None → (x : ℕ) → TileRecordAt s row column x → ⊥
unfolding meant
none_meant s row column j x t = go (records_with s (cell_tile s row column)) refl
  where
    go : (l : List ℕ) → records_with s (cell_tile s row column) ≡ l → ⊥
    go [] f = Memᴰ.not-nil (rw f at (among_with s row column x t))
    go (y ∷ ys) f = found_not {x = y} refl (rw f at j)

-- no record is one; a record is one, and of a sound page no other is

meant_none : (s : List ℕ) (row column : ℕ) → ((x : ℕ) → TileRecordAt s row column x → ⊥) → meant s (cell_tile s row column) ≡ None
meant_none s row column f = go (meant s (cell_tile s row column)) refl
  where
    go : (r : Option ℕ) → meant s (cell_tile s row column) ≡ r → meant s (cell_tile s row column) ≡ None
    go None j = j
    go (Some x) j = absurd (f x (is_meant s row column x j))

meant_at : (s : List ℕ) → Sound s → (row column x : ℕ) → TileRecordAt s row column x → meant s (cell_tile s row column) ≡ Some x
meant_at s o row column x t = go (meant s (cell_tile s row column)) refl
  where
    go : (r : Option ℕ) → meant s (cell_tile s row column) ≡ r → meant s (cell_tile s row column) ≡ Some x
    go None j = absurd (none_meant s row column j x t)
    go (Some y) j =
        let u = is_meant s row column y j in
        let q : y ≡ x = (sound_one s (records s) o).one_record (type_of s 2 u.among u.type) (type_of s 2 t.among t.type) (u.index ∙ sym t.index) in
        j ∙ ap Some q

-- L and U, and the index that is named

module _ (s : List ℕ) (x e : ℕ) where
  length_most : section_right s x e ≡ true → section_length s x e ≤ element_bytes s e
  unfolding section_right section_packing element_packing packing_of
  length_most r = go (eqb (section_length s x e) 0) (eqb (section_length s x e) (element_bytes s e)) refl (leb (section_length s x e) (element_bytes s e)) refl r
    where
      go :
          (a b : Bool) → eqb (section_length s x e) (element_bytes s e) ≡ b → (c : Bool) → leb (section_length s x e) (element_bytes s e) ≡ c →
          not_fault (pick a Fault (pick b Uncompressed (pick c Compressed Fault))) ≡ true → section_length s x e ≤ element_bytes s e
      go true b f c g t = not_both t refl
      go false true f c g t = omega (arith, eqb-true (section_length s x e) (element_bytes s e) f)
      go false false f true g t = leb-true _ _ g
      go false false f false g t = not_both t refl

  whole_is : tile_right s x ≡ true → e < element_count s → packed s x e ≡ false → section_length s x e ≡ element_bytes s e
  unfolding tile_right
  whole_is t h p =
      let a = length_most (below_each (element_count s) (section_right s x) (means _ t).1.1.0 e h) in
      let b = whole_least s x e p in
      omega arith

  is_whole_lem : section_length s x e ≡ element_bytes s e → packed s x e ≡ false
  unfolding packed
  is_whole_lem q = sym (no _ (λ y. omega (arith, y.0)))

  packed_below : packed s x e ≡ true → section_length s x e < element_bytes s e
  unfolding packed
  packed_below p = omega (arith, (means _ p).0)

  below_packed : section_length s x e < element_bytes s e → packed s x e ≡ true
  unfolding packed
  below_packed h = sym (yes _ (omega arith, tt))

module _ (s : List ℕ) (ci x e : ℕ) where
  abbrev Other : Type 0
  Other = (byte_at s (element_content_at s x e) ≡ ci → ⊥) ⊎ ((element s e).kind ≡ float_kind)

  is_named_lem : unpackable s ci x e ≡ true → Named s ci e x
  unfolding unpackable
  is_named_lem p = let y = means _ p in record { index = y.1.0; no_float = y.1.1.0 }

  other_is : Other → unpackable s ci x e ≡ false
  unfolding unpackable
  other_is q = sym (no _ (λ y. ⊎_elim (λ f. f y.1.0) (λ f. y.1.1.0 f) q))

  module _ (b : Bytes s) where
    named_is : Named s ci e x → unpackable s ci x e ≡ true
    unfolding unpackable byte_at
    named_is n = let h = b.small (element_content_at s x e) in sym (yes _ (omega (arith, n.index), (n.index, (n.no_float, tt))))

    is_other : unpackable s ci x e ≡ false → Other
    is_other p = go (eqb (element s e).kind float_kind) refl
      where
        go : (c : Bool) → eqb (element s e).kind float_kind ≡ c → Other
        go true f = inr (eqb-true _ _ f)
        go false f = inl (λ q. not_both (named_is (record { index = q; no_float = eqb-false _ _ f })) p)

-- the meaning in each case

module _ (s : List ℕ) (ci row column e : ℕ) where
  abbrev said : Result Cell Refusal
  said = meaning s ci row column e

  abbrev here : Location
  here = record { tile = cell_tile s row column; inside = cell_inside s row column }

  said_outside : in_grid s row column e ≡ false → said ≡ Err refusal.OutsideGrid
  unfolding meaning cell_by
  said_outside i = rw i

  module _ (i : in_grid s row column e ≡ true) where
    said_fill : meant s (cell_tile s row column) ≡ None → said ≡ Ok (cell.Fill (value_of (element s e).kind (element s e).fill) here)
    unfolding meaning cell_by fill_of location_of
    said_fill j = rw (i, j)

    module _ (x : ℕ) (j : meant s (cell_tile s row column) ≡ Some x) where
      abbrev place : ℕ
      place = element_content_at s x e + cell_inside s row column * cell_size (element s e).kind

      said_stored : packed s x e ≡ false → said ≡ Ok (cell.Stored (value_of (element s e).kind (number_at (cell_size (element s e).kind) s place)) place here)
      unfolding meaning cell_by cell_in cell_from packed location_of offset_in cell_offset
      said_stored k = rw (i, j, k)

      module _ (k : packed s x e ≡ true) where
        said_compressed : unpackable s ci x e ≡ false → said ≡ Err (refusal.Compressed x)
        unfolding meaning cell_by cell_in cell_from packed unpackable
        said_compressed l = rw (i, j, k, l)

        said_malformed : unpackable s ci x e ≡ true → content_holds s e x ≡ malformed → said ≡ Err (refusal.Malformed x)
        unfolding meaning cell_by cell_in cell_from packed unpackable cell_at
        said_malformed l m = rw (i, j, k, l, m)

        said_unpacked :
            (bits : List ℕ) → unpackable s ci x e ≡ true → content_holds s e x ≡ cells bits →
            said ≡ Ok (cell.Unpacked (value_of (element s e).kind (get_or bits (cell_inside s row column) 0)) (element_content_at s x e) here)
        unfolding meaning cell_by cell_in cell_from packed unpackable cell_at location_of
        said_unpacked bits l m = rw (i, j, k, l, m)

-- a whole content holds the cell

holds_cell : (s : List ℕ) → Sound s → (row column e x : ℕ) (bits : List ℕ) → content_holds s e x ≡ cells bits → cell_inside s row column < length bits
unfolding cell_inside is_whole cells_in
holds_cell s o row column e x bits m =
    let d = sides_mean s (sound_lawful s o) in
    let n : length bits ≡ tile_rows s * tile_columns s = ap (λ (y : Cells). length (cells_in y)) (sym m) ∙ whole_long _ (tile_rows s) (tile_columns s) _ (ap is_whole m) in
    omega (arith, inside_less (tile_rows s) (tile_columns s) row column (omega (arith, d.tile_rows_lem.0)) (omega (arith, d.tile_columns_lem.0)))

-- what an answer says is so

module _ (s : List ℕ) (b : Bytes s) (o : Sound s) (ci row column e : ℕ) where
  abbrev RefusedSo : Refusal → Type 0
  RefusedSo refusal.Identification = ⊥
  RefusedSo refusal.Version = ⊥
  RefusedSo refusal.Header = ⊥
  RefusedSo refusal.Ceiling = ⊥
  RefusedSo refusal.Opened = ⊥
  RefusedSo (refusal.Chain at) = ⊥
  RefusedSo (refusal.Checksum at) = ⊥
  RefusedSo (refusal.Body at) = ⊥
  RefusedSo refusal.Directory = ⊥
  RefusedSo refusal.OutsideGrid = OfGrid s row column e → ⊥
  RefusedSo (refusal.Compressed x) = IsCompressed s ci row column e x
  RefusedSo refusal.Input = ⊥
  RefusedSo refusal.Room = ⊥
  RefusedSo (refusal.Malformed x) = IsMalformed s ci row column e x
  RefusedSo refusal.NotOpen = ⊥
  RefusedSo refusal.Incomplete = ⊥

  abbrev So : Result Cell Refusal → Type 0
  So (Ok (cell.Stored v at w)) = IsStored s row column e v at w
  So (Ok (cell.Fill v w)) = IsFill s row column e v w
  So (Ok (cell.Unpacked v at w)) = IsUnpacked s ci row column e v at w
  So (Err r) = RefusedSo r

  meaning_so : So (meaning s ci row column e)
  meaning_so = go (in_grid s row column e) refl (meant s (cell_tile s row column)) refl
    where
      go : (c : Bool) → in_grid s row column e ≡ c → (f : Option ℕ) → meant s (cell_tile s row column) ≡ f → So (meaning s ci row column e)
      go false i f j = subst So (sym (said_outside s ci row column e i)) (λ g. not_both (in_grid_lem s row column e g) i)
      go true i None j =
          subst So (sym (said_fill s ci row column e i j))
          (record { asked = of_grid s row column e i; none = none_meant s row column j; value = refl; lies = refl })
      go true i (Some x) j = by (packed s x e) refl (unpackable s ci x e) refl (content_holds s e x) refl
        where
          g : OfGrid s row column e
          g = of_grid s row column e i

          t : TileRecordAt s row column x
          t = is_meant s row column x j

          d : Decided s row column e x
          d = record { asked = g; record_at = t }

          by :
              (p : Bool) → packed s x e ≡ p → (u : Bool) → unpackable s ci x e ≡ u → (h : Cells) → content_holds s e x ≡ h →
              So (meaning s ci row column e)
          by false k u l h m =
              subst So (sym (said_stored s ci row column e i x j k))
              (record {
                start = x;
                decided = d;
                whole = whole_is s x e (sound_tile s o (type_of s 2 t.among t.type)) g.element_in k;
                here = refl;
                value = refl;
                lies = refl;
              })
          by true k false l h m =
              subst So (sym (said_compressed s ci row column e i x j k l))
              (record { packed = record { decided = d; below = packed_below s x e k }; other = is_other s ci x e b l })
          by true k true l malformed m =
              subst So (sym (said_malformed s ci row column e i x j k l m))
              (record { packed = record { decided = d; below = packed_below s x e k }; named = is_named_lem s ci x e l; holds = m })
          by true k true l (cells bits) m =
              subst So (sym (said_unpacked s ci row column e i x j k bits l m))
              (record {
                start = x;
                packed = record { decided = d; below = packed_below s x e k };
                named = is_named_lem s ci x e l;
                bits = bits;
                holds = m;
                among = holds_cell s o row column e x bits m;
                here = refl;
                value = refl;
                lies = refl;
              })

  -- and is meant where it is so

  module _ (x : ℕ) (d : Decided s row column e x) where
    asked_in : in_grid s row column e ≡ true
    asked_in = in_grid_lem s row column e d.asked

    decided_at : meant s (cell_tile s row column) ≡ Some x
    decided_at = meant_at s o row column x d.record_at

  fill_meant : (v : Value) (w : Location) → IsFill s row column e v w → meaning s ci row column e ≡ Ok (cell.Fill v w)
  fill_meant v w h = said_fill s ci row column e (in_grid_lem s row column e h.asked) (meant_none s row column h.none) ∙ rw (h.value, h.lies)

  stored_meant : (v : Value) (at : ℕ) (w : Location) → IsStored s row column e v at w → meaning s ci row column e ≡ Ok (cell.Stored v at w)
  stored_meant v at w h =
      said_stored s ci row column e (asked_in h.start h.decided) h.start (decided_at h.start h.decided) (is_whole_lem s h.start e h.whole)
      ∙ rw (h.value, h.lies, h.here)

  unpacked_meant : (v : Value) (at : ℕ) (w : Location) → IsUnpacked s ci row column e v at w → meaning s ci row column e ≡ Ok (cell.Unpacked v at w)
  unpacked_meant v at w h =
      let x = h.start in
      let d = h.packed.decided in
      said_unpacked s ci row column e (asked_in x d) x (decided_at x d) (below_packed s x e h.packed.below) h.bits (named_is s ci x e b h.named) h.holds
      ∙ rw (h.value, h.lies, h.here)

  malformed_meant : (x : ℕ) → IsMalformed s ci row column e x → meaning s ci row column e ≡ Err (refusal.Malformed x)
  malformed_meant x h =
      let d = h.packed.decided in
      said_malformed s ci row column e (asked_in x d) x (decided_at x d) (below_packed s x e h.packed.below) (named_is s ci x e b h.named) h.holds

  compressed_meant : (x : ℕ) → IsCompressed s ci row column e x → meaning s ci row column e ≡ Err (refusal.Compressed x)
  compressed_meant x h =
      let d = h.packed.decided in
      said_compressed s ci row column e (asked_in x d) x (decided_at x d) (below_packed s x e h.packed.below) (other_is s ci x e h.other)

  outside_meant : (OfGrid s row column e → ⊥) → meaning s ci row column e ≡ Err refusal.OutsideGrid
  outside_meant f = go (in_grid s row column e) refl
    where
      go : (c : Bool) → in_grid s row column e ≡ c → meaning s ci row column e ≡ Err refusal.OutsideGrid
      go true i = absurd (f (of_grid s row column e i))
      go false i = said_outside s ci row column e i

  meaning_is : CellIs s ci row column e (meaning s ci row column e)
  meaning_is =
      record {
        outside = ((λ p. subst So p meaning_so), outside_meant);
        fill = λ v w. ((λ p. subst So p meaning_so), fill_meant v w);
        stored = λ v at w. ((λ p. subst So p meaning_so), stored_meant v at w);
        unpacked = λ v at w. ((λ p. subst So p meaning_so), unpacked_meant v at w);
        malformed = λ x. ((λ p. subst So p meaning_so), malformed_meant x);
        compressed = λ x. ((λ p. subst So p meaning_so), compressed_meant x);
      }

  -- what has the six facts is whatever is so, and thus the meaning

  module _ (c : Result Cell Refusal) (k : CellIs s ci row column e c) where
    is_refused_lem : (r : Refusal) → RefusedSo r → c ≡ Err r
    is_refused_lem refusal.Identification h = absurd h
    is_refused_lem refusal.Version h = absurd h
    is_refused_lem refusal.Header h = absurd h
    is_refused_lem refusal.Ceiling h = absurd h
    is_refused_lem refusal.Opened h = absurd h
    is_refused_lem (refusal.Chain at) h = absurd h
    is_refused_lem (refusal.Checksum at) h = absurd h
    is_refused_lem (refusal.Body at) h = absurd h
    is_refused_lem refusal.Directory h = absurd h
    is_refused_lem refusal.OutsideGrid h = k.outside.1 h
    is_refused_lem (refusal.Compressed x) h = (k.compressed x).1 h
    is_refused_lem refusal.Input h = absurd h
    is_refused_lem refusal.Room h = absurd h
    is_refused_lem (refusal.Malformed x) h = (k.malformed x).1 h
    is_refused_lem refusal.NotOpen h = absurd h
    is_refused_lem refusal.Incomplete h = absurd h

    is_so : (d : Result Cell Refusal) → So d → c ≡ d
    is_so (Ok (cell.Stored v at w)) h = (k.stored v at w).1 h
    is_so (Ok (cell.Fill v w)) h = (k.fill v w).1 h
    is_so (Ok (cell.Unpacked v at w)) h = (k.unpacked v at w).1 h
    is_so (Err r) h = is_refused_lem r h

pub cell_exactly : CellExactly
cell_exactly s b o ci row column e c =
    ((λ p. subst (CellIs s ci row column e) (sym p) (meaning_is s b o ci row column e)), (λ k. is_so s b o ci row column e c k _ (meaning_so s b o ci row column e)))

pub read_exactly : ReadExactly
read_exactly s b a ci row column e =
    let m = meaning_is s b (accepted_sound s a) ci row column e in
    let d = demand_3 s a ci in
    record {
      by_meaning = m;
      by_directory = subst (CellIs s ci row column e) (sym (d.by_directory row column e)) m;
      by_walk = subst (CellIs s ci row column e) (sym (d.by_walk row column e)) m;
      by_records = subst (CellIs s ci row column e) (sym (d.by_records row column e)) m;
    }

-- the kinds of a cell of the grid

pub five_kinds : FiveKinds
five_kinds s ci row column e g = go (meant s (cell_tile s row column)) refl
  where
    OneOf : Result Cell Refusal → Type 0
    OneOf c = Memᴰ (cell_kind c) (32 ∷ 33 ∷ 34 ∷ 11 ∷ 14 ∷ [])

    i : in_grid s row column e ≡ true
    i = in_grid_lem s row column e g

    by :
        (x : ℕ) → meant s (cell_tile s row column) ≡ Some x → (p : Bool) → packed s x e ≡ p → (u : Bool) → unpackable s ci x e ≡ u → (h : Cells) →
        content_holds s e x ≡ h → OneOf (meaning s ci row column e)
    by x j false k u l h m = subst OneOf (sym (said_stored s ci row column e i x j k)) (Memᴰ.head refl)
    by x j true k false l h m = subst OneOf (sym (said_compressed s ci row column e i x j k l)) (Memᴰ.tail (Memᴰ.tail (Memᴰ.tail (Memᴰ.head refl))))
    by x j true k true l malformed m =
        subst OneOf (sym (said_malformed s ci row column e i x j k l m)) (Memᴰ.tail (Memᴰ.tail (Memᴰ.tail (Memᴰ.tail (Memᴰ.head refl)))))
    by x j true k true l (cells bits) m = subst OneOf (sym (said_unpacked s ci row column e i x j k bits l m)) (Memᴰ.tail (Memᴰ.tail (Memᴰ.head refl)))

    go : (f : Option ℕ) → meant s (cell_tile s row column) ≡ f → OneOf (meaning s ci row column e)
    go None j = subst OneOf (sym (said_fill s ci row column e i j)) (Memᴰ.tail (Memᴰ.head refl))
    go (Some x) j = by x j (packed s x e) refl (unpackable s ci x e) refl (content_holds s e x) refl
