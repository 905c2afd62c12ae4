-- A tile stored over its plain record: the page stays open for writing, and its tiles are those of the map. Assumes nothing.
use Rattle.std.specs.Prelude.{None, Option, Some}
use Prim.Native.Nat.{ℕ, ◌+◌, ◌-◌, ◌≤◌, ◌<◌}
use mathlib.Core.Path.{◌≡◌, refl, sym, ap, subst, ◌∙◌}
use mathlib.Core.List.{List, [], ◌∷◌, ◌++◌, map, Memᴰ}
use mathlib.Core.Logic.{⊎_elim, inl, inr}
use mathlib.Core.Bool.{Bool, true, false}
use native.Mathlib.Omega.{arith}
use lib.ListN.{length, length-append}
use lib.Dec.{eqb}
use borrow.Author.Tests.{eqb-true, eqb-false, eq-eqb, ne_eqb}
use Rattle.wire.specs.Pick.{pick}
use Rattle.wire.specs.Tests.{all_below}
use Rattle.wire.specs.Bytes.{Bytes, byte_at}
use Rattle.wire.proofs.TestLaws.{means, yes, no, not_both, below_each, below_same}
use Rattle.wire.proofs.PlaceLaws.{placed_self, placed_last}
use Rattle.record.specs.Record.{length_at, type_at, record_limit}
use Rattle.record.specs.Chain.{records, records_of, joined, WellFormed}
use Rattle.header.specs.Fields.{checksum_enabled, element_count}
use Rattle.header.specs.Element.{entries_read}
use Rattle.geometry.specs.Sizes.{element_packing, element_bytes, tile_bytes}
use Rattle.bodies.specs.TileRecord.{tile_index, section_at, section_length, tile_end}
use Rattle.bodies.proofs.SectionLaws.{section_mono}
use Rattle.check_records.specs.declared.Rule.{Rule}
use Rattle.check_records.specs.declared.Rule.TheVariants.{Checksum, Body}
use Rattle.check_records.specs.Frame.{end_right}
use Rattle.check_records.specs.TileBody.{section_packing, section_right, index_right, tile_right}
use Rattle.check_records.specs.Faults.{body_right, right_of, body_fault}
use Rattle.check_records.proofs.SectionLaws.{sections_end}
use Rattle.check_lists.specs.Metadata.{metadata_directory_right}
use Rattle.page_check.proofs.GivenLaws.{sound_range, sound_tile, sound_one}
use Rattle.tile_routes.specs.Ways.{carries}
use Rattle.tile_routes.proofs.WayLaws.{walk_finds, IsMeant, meant_is}
use Rattle.pieces.specs.Pieces.{pieces, nothing_to_join}
use Rattle.pieces.specs.Edits.{resealed}
use Rattle.pieces.specs.Standing.{AllOf, standing}
use Rattle.alone.specs.Alone.{SameRecord, SameTile, SameHeader, Front, alone}
use Rattle.alone.specs.Edited.{Piece, Touches, touched}
use Rattle.alone.proofs.HeaderLaws.{header_sym, header_trans, front_header}
use Rattle.alone.proofs.MovedLaws.{offset_far, length_same, type_same, limit_first}
use Rattle.alone.proofs.TileLaws.{index_same, sections_moved, section_length_same, tile_alone}
use Rattle.alone.proofs.PieceLaws.{placed_same}
use Rattle.alone.proofs.StandLaws.{stands, member_place, all_member}
use Rattle.alone.proofs.TouchLaws.{piece_alike, sealed_checksum}
use Rattle.alone.proofs.EditedLaws.{well_formed, mapped_pieces, mapped_alone, mapped_standing, mapped_own, mapped_none, mapped_length, body_to, checksum_to, metadata_to}
use Rattle.writable.specs.Writable.{Open}
use Rattle.writable.proofs.PartLaws.{front_begins}
use Rattle.correct.specs.Storing.{tile_at, tile_referred, is_plain, plain_in, stored_over, cells_put, overwritten, stored_pieces, stored_page, plain_contents}
use Rattle.correct.proofs.ReferredLaws.{referred_is}
use Rattle.page_laws.specs.Tiles.{tiles_of, of_tile}
use Rattle.page_laws.specs.TileMap.{contents_alone, held_in}
use Rattle.page_laws.proofs.TileMapLaws.{below_map}
use Rattle.page_laws.proofs.MapLaws.{held_carries}
use Rattle.page_laws.proofs.PageLaws.{parted_alone}
use Rattle.page_laws.proofs.KeptLaws.{KeptBy, kept_places, kept_follows}
use Rattle.kept_open.specs.KeptOpen.{Stores, Beside, StoredKeeps, StoredOpen}
use Rattle.kept_open.proofs.EntryLaws.{carried, place_member}
use Rattle.kept_open.proofs.HeldLaws.{Turned, of_others, held_over}
use Rattle.kept_open.proofs.AgainLaws.{front_of, parted, records_first, indexed_first, tiles_first, open_again, kept_again, tiles_again, directory_stays}
use Rattle.kept_open.proofs.BesideLaws.{Stays, page_byte}
use Rattle.kept_open.proofs.StoredLaws.{stored_new}
use Rattle.kept_open.proofs.CellLaws.{cells_piece, cells_type, over_alike, Plain, over_byte, over_index, over_section, over_length, over_content}

-- pieces of which two things hold
all_both : (P Q R : List ℕ → Type 0) → ((r : List ℕ) → P r → Q r → R r) → (rs : List (List ℕ)) → AllOf P rs → AllOf Q rs → AllOf R rs
all_both P Q R f [] a b = _
all_both P Q R f (r ∷ rs) a b = (f r a.0 b.0, all_both P Q R f rs a.1 b.1)

-- what holds of those that stand holds of each of their type
each_standing :
    (P : List ℕ → Type 0) (kind at : ℕ) (rs : List (List ℕ)) → ((q : ℕ × List ℕ) → Memᴰ q (standing kind at rs) → P q.1) →
    AllOf (λ r. type_at r 0 ≡ kind → P r) rs
unfolding standing
each_standing P kind at [] h = _
each_standing P kind at (r ∷ rs) h = go (eqb (type_at r 0) kind) refl h (λ k. each_standing P kind (at + length r) rs k)
  where
    go :
        (b : Bool) → eqb (type_at r 0) kind ≡ b →
        ((q : ℕ × List ℕ) → Memᴰ q (pick b ((at, r) ∷ standing kind (at + length r) rs) (standing kind (at + length r) rs)) → P q.1) →
        (((q : ℕ × List ℕ) → Memᴰ q (standing kind (at + length r) rs) → P q.1) → AllOf (λ r. type_at r 0 ≡ kind → P r) rs) →
        (type_at r 0 ≡ kind → P r) × AllOf (λ r. type_at r 0 ≡ kind → P r) rs
    go true e k f = (λ x. k (at, r) (Memᴰ.head refl), f (λ q m. k q (Memᴰ.tail m)))
    go false e k f = (λ x. absurd (eqb-false _ _ e x), f k)

-- the tile's record, and that it is plain
record PlainAt (s : List ℕ) (i : ℕ) : Type 0 where
  start : ℕ
  meant : IsMeant s i start
  plain : (e : ℕ) → e < element_count s → section_length s start e ≡ element_bytes s e

plain_here : (s : List ℕ) (i x : ℕ) → tile_at s i ≡ Some x → is_plain s x ≡ true → PlainAt s i
unfolding is_plain tile_at
plain_here s i x e z =
    record { start = x; meant = meant_is s i x (sym (walk_finds s i) ∙ e); plain = λ d h. eqb-true _ _ (below_each (element_count s) _ z d h) }

over_is : (s : List ℕ) (i : ℕ) → tile_referred s i ≡ tile_at s i → stored_over s i ≡ true → plain_in s (tile_at s i) ≡ true
unfolding stored_over
over_is s i r over = sym (ap (plain_in s) r) ∙ over

over_plain : (s : List ℕ) (i x : ℕ) → plain_in s (tile_at s i) ≡ true → tile_at s i ≡ Some x → is_plain s x ≡ true
over_plain s i x over e = sym (ap (plain_in s) e) ∙ over

plain_at : (s : List ℕ) (i : ℕ) → plain_in s (tile_at s i) ≡ true → PlainAt s i
plain_at s i over = go (tile_at s i) refl over
  where
    go : (f : Option ℕ) → tile_at s i ≡ f → plain_in s f ≡ true → PlainAt s i
    go None e z = not_both z refl
    go (Some x) e z = plain_here s i x e z

-- a piece; where it carries the tile's index, each L is U
record Fit (s : List ℕ) (i : ℕ) (r : List ℕ) : Type 0 where
  piece : Piece r
  plain : carries r i 0 ≡ true → (e : ℕ) → e < element_count s → section_length r 0 e ≡ element_bytes s e

module _ (s : List ℕ) (i : ℕ) (c : List ℕ) (o : Open s) (b : Bytes c) (long : length c ≡ tile_bytes s) where
  abbrev f : List ℕ
  f = front_of s

  abbrev over : List ℕ → List ℕ
  over r = resealed (checksum_enabled s) (cells_put s c (element_count s) r)

  all : entries_read s ≡ element_count s
  all = (sound_range s (records s) o.sound).all

  front : Front f
  front = (parted s o).front

  there : (r : List ℕ) → Piece r → SameRecord (f ++ r) (length f) r 0
  there r p = placed_same (placed_last f r refl) (placed_self r) p.ok p.stated

  count_is : (r : List ℕ) → element_count (f ++ r) ≡ element_count s
  count_is r = sym (front_header front r).count ∙ sym (parted s o).header.count

  -- a tile record that stage 8 passes

  tile_passes : (r : List ℕ) → Piece r → type_at r 0 ≡ 2 → alone f Body r ≡ true → tile_right (f ++ r) (length f) ≡ true
  unfolding alone right_of body_right
  tile_passes r p k a = let t : type_at (f ++ r) (length f) ≡ 2 = type_same (there r p) ∙ k in rw t at a

  passes_tile : (r : List ℕ) → Piece r → type_at r 0 ≡ 2 → tile_right (f ++ r) (length f) ≡ true → alone f Body r ≡ true
  unfolding alone right_of body_right
  passes_tile r p k a = let t : type_at (f ++ r) (length f) ≡ 2 = type_same (there r p) ∙ k in rw t a

  far : (r : List ℕ) → Piece r → (e : ℕ) → length f + section_at r 0 e ≡ section_at (f ++ r) (length f) e
  far r p e = let x = offset_far (sections_moved (there r p) e) in omega arith

  limit_is : (r : List ℕ) → Piece r → record_limit (f ++ r) (length f) ≡ length f + (length r - 4)
  limit_is r p = limit_first (there r p) ∙ ap (λ (n : ℕ). length f + (n - 4)) (length_same (there r p) ∙ p.stated)

  ends_of : (r : List ℕ) → Piece r → type_at r 0 ≡ 2 → alone f Body r ≡ true → section_at r 0 (element_count s) + 4 ≤ length r
  ends_of r p k a =
      let x : section_at (f ++ r) (length f) (element_count s) ≤ record_limit (f ++ r) (length f) = rw (count_is r) at (sections_end (f ++ r) (length f) (tile_passes r p k a)) in
      let y = far r p (element_count s) in
      let z = limit_is r p in
      let l = (there r p).long in
      let m = length_same (there r p) ∙ p.stated in
      omega arith

  plain_of : (r : List ℕ) → Fit s i r → carries r i 0 ≡ true → alone f Body r ≡ true → Plain s r
  plain_of r p e a = record { stated = p.piece.stated; ends = ends_of r p.piece (carried r i e).0 a; plain = p.plain e }

  -- its cells put over
  module _ (r : List ℕ) (p : Piece r) (k : type_at r 0 ≡ 2) (o' : Plain s r) where
    over_piece : Piece (over r)
    over_piece = piece_alike (over r) r (over_alike (checksum_enabled s) s c r b p (element_count s)) p

    over_type : type_at (over r) 0 ≡ 2
    over_type = (over_alike (checksum_enabled s) s c r b p (element_count s)).type ∙ k

    index_stays : tile_index (f ++ r) (length f) ≡ tile_index (f ++ over r) (length f)
    index_stays = index_same (there r p) ∙ sym (over_index s c r o' all long (checksum_enabled s)) ∙ sym (index_same (there (over r) over_piece))

    length_stays : length_at (f ++ r) (length f) ≡ length_at (f ++ over r) (length f)
    length_stays =
        let x = (over_alike (checksum_enabled s) s c r b p (element_count s)).stated in
        length_same (there r p) ∙ sym x ∙ sym (length_same (there (over r) over_piece))

    limit_stays : record_limit (f ++ r) (length f) ≡ record_limit (f ++ over r) (length f)
    limit_stays =
        let x = (over_alike (checksum_enabled s) s c r b p (element_count s)).long in
        limit_is r p ∙ ap (λ (n : ℕ). length f + (n - 4)) (sym x) ∙ sym (limit_is (over r) over_piece)

    section_stays : (e : ℕ) → e ≤ element_count s → section_at (f ++ r) (length f) e ≡ section_at (f ++ over r) (length f) e
    section_stays e h =
        sym (far r p e) ∙ ap (λ (n : ℕ). length f + n) (sym (over_section s c r o' all long (checksum_enabled s) e h)) ∙ far (over r) over_piece e

    within : (e : ℕ) → e ≤ element_count s → section_at (f ++ r) (length f) e ≤ record_limit (f ++ r) (length f)
    within e h =
        let x = section_mono r 0 e (element_count s) h in
        let y = far r p e in
        let z = limit_is r p in
        omega (arith, o'.ends)

    lengths_stay : (e : ℕ) → e < element_count s → section_length (f ++ r) (length f) e ≡ section_length (f ++ over r) (length f) e
    lengths_stay e h =
        let x : section_at (f ++ over r) (length f) e ≤ record_limit (f ++ over r) (length f) =
        rw (← section_stays e (omega arith), ← limit_stays) (within e (omega arith)) in
        section_length_same (there r p) e (within e (omega arith))
        ∙ sym (over_length s c r o' all long (checksum_enabled s) e h)
        ∙ sym (section_length_same (there (over r) over_piece) e x)

    header_stays : SameHeader (f ++ r) (f ++ over r)
    header_stays = header_trans (header_sym (front_header front r)) (front_header front (over r))

    index_right_lem : index_right (f ++ r) (length f) ≡ index_right (f ++ over r) (length f)
    unfolding index_right
    index_right_lem = rw (index_stays, header_stays.tiles)

    end_right_lem : end_right (f ++ r) (length f) (tile_end (f ++ r) (length f)) ≡ end_right (f ++ over r) (length f) (tile_end (f ++ over r) (length f))
    unfolding end_right tile_end
    end_right_lem = rw (count_is r, count_is (over r), section_stays (element_count s) (omega arith), limit_stays, length_stays)

    section_right_lem : (e : ℕ) → e < element_count (f ++ r) → section_right (f ++ r) (length f) e ≡ section_right (f ++ over r) (length f) e
    unfolding section_right section_packing element_packing
    section_right_lem e h = rw (lengths_stay e (rw (← count_is r) h), header_stays.sizes e h)

    over_body : alone f Body r ≡ true → alone f Body (over r) ≡ true
    unfolding tile_right
    over_body a =
        let x = means _ (tile_passes r p k a) in
        let y : all_below (element_count (f ++ r)) (section_right (f ++ r) (length f)) ≡ all_below (element_count (f ++ over r)) (section_right (f ++ over r) (length f)) =
        below_same (element_count (f ++ r)) (section_right (f ++ r) (length f)) (section_right (f ++ over r) (length f)) section_right_lem
        ∙ ap (λ (n : ℕ). all_below n (section_right (f ++ over r) (length f))) header_stays.count in
        passes_tile (over r) over_piece over_type (sym (yes _ (sym index_right_lem ∙ x.0, (sym end_right_lem ∙ x.1.0, (sym y ∙ x.1.1.0, tt)))))

    over_holds : contents_alone (element_count s) (over r) ≡ plain_contents s c
    unfolding contents_alone plain_contents
    over_holds = below_map (element_count s) _ _ (over_content s c r o' all long (checksum_enabled s))

  -- done to all pieces

  not_carried : (r : List ℕ) → carries r i 0 ≡ false → overwritten s i c r ≡ r
  unfolding overwritten
  not_carried r e = rw e

  is_carried : (r : List ℕ) → carries r i 0 ≡ true → overwritten s i c r ≡ over r
  unfolding overwritten
  is_carried r e = rw e

  other_type : (r : List ℕ) → (type_at r 0 ≡ 2 → ⊥) → carries r i 0 ≡ false
  unfolding carries
  other_type r z = sym (no _ (λ y. z y.0))

  over_checksum : (r : List ℕ) → Piece r → type_at r 0 ≡ 2 → alone f Checksum (over r) ≡ true
  over_checksum r p k =
      sealed_checksum (checksum_enabled s) (cells_put s c (element_count s) r) (cells_piece s c r b p (element_count s)) f front (parted s o).header.flag
      (λ z. omega (arith, cells_type s c r b p (element_count s)))

  -- what holds of it as it was, and put over where it carries the index
  either : (r : List ℕ) (P : List ℕ → Type 0) → (carries r i 0 ≡ true → P (over r)) → P r → P (overwritten s i c r)
  either r P h k = go (carries r i 0) refl
    where
      go : (d : Bool) → carries r i 0 ≡ d → P (overwritten s i c r)
      go true e = rw (is_carried r e) (h e)
      go false e = rw (not_carried r e) k

  over_rules : (r : List ℕ) → Fit s i r → carries r i 0 ≡ true → (rule : Rule) → alone f rule r ≡ true → alone f rule (over r) ≡ true
  over_rules r p e Checksum a = over_checksum r p.piece (carried r i e).0
  over_rules r p e Body a = over_body r p.piece (carried r i e).0 (plain_of r p e a) a

  over_touches : Touches f (Fit s i) 2 (overwritten s i c)
  over_touches =
      record {
        others = λ r z. not_carried r (other_type r z);
        long = λ r p. either r (λ q. length q ≡ length r) (λ e. (over_alike (checksum_enabled s) s c r b p.piece (element_count s)).long) refl;
        type = λ r p. either r (λ q. type_at q 0 ≡ type_at r 0) (λ e. (over_alike (checksum_enabled s) s c r b p.piece (element_count s)).type) refl;
        piece = λ r p. either r Piece (λ e. piece_alike (over r) r (over_alike (checksum_enabled s) s c r b p.piece (element_count s)) p.piece) p.piece;
        rules = λ r p rule a. either r (λ q. alone f rule q ≡ true) (λ e. over_rules r p e rule a) a;
      }

  -- in the page

  module _ (bytes : Bytes s) (x : PlainAt s i) where
    abbrev l : List (ℕ × List ℕ)
    l = standing 2 (length f) (pieces s)

    -- the tile's record is the only one that carries its index
    place_of : (q : ℕ × List ℕ) → Memᴰ q l → Memᴰ q.0 (records_of s 2)
    place_of q m = rw (records_first s o 2) (place_member l m)

    start_is : (q : ℕ × List ℕ) → Memᴰ q l → carries q.1 i 0 ≡ true → q.0 ≡ x.start
    start_is q m k =
        (sound_one s (records s) o.sound).one_record (place_of q m) x.meant.among
        ((indexed_first s o).index m ∙ (carried q.1 i k).1 ∙ sym x.meant.index)

    -- a tile record by itself says what it says where it stands
    itself : (q : ℕ × List ℕ) → Memᴰ q l → SameRecord s q.0 q.1 0
    itself q m =
        let a = stands s f (pieces s) (parted s o).whole (parted s o).formed 2 m in
        placed_same a.placed (placed_self q.1) a.ok a.stated

    says : (q : ℕ × List ℕ) → Memᴰ q l → SameTile s q.0 q.1 0
    says q m = tile_alone s q.0 q.1 0 (itself q m) (sound_tile s o.sound (place_of q m))

    fit_at :
        (q : ℕ × List ℕ) → Memᴰ q l → carries q.1 i 0 ≡ true → (e : ℕ) → e < element_count s → section_length q.1 0 e ≡ element_bytes s e
    fit_at q m k e h = sym ((says q m).lengths e h) ∙ ap (λ (y : ℕ). section_length s y e) (start_is q m k) ∙ x.plain e h

    abbrev Whole : List ℕ → Type 0
    Whole r = carries r i 0 ≡ true → (e : ℕ) → e < element_count s → section_length r 0 e ≡ element_bytes s e

    all_fit : AllOf (Fit s i) (pieces s)
    all_fit =
        all_both Piece (λ r. type_at r 0 ≡ 2 → Whole r) (Fit s i) (λ r p q. record { piece = p; plain = λ k. q (carried r i k).0 k }) (pieces s)
        ((parted s o).each bytes) (each_standing Whole 2 (length f) (pieces s) fit_at)

    abbrev qs : List (List ℕ)
    qs = map (overwritten s i c) (pieces s)

    well : WellFormed qs
    well = well_formed qs (mapped_pieces f (Fit s i) 2 (overwritten s i c) over_touches (pieces s) all_fit)

    stays : (kind : ℕ) → (kind ≡ 2 → ⊥) → standing kind (length f) (pieces s) ≡ standing kind (length f) qs
    stays kind z = sym (mapped_standing f (Fit s i) 2 (overwritten s i c) over_touches kind z (length f) (pieces s) all_fit)

    turned_are : standing 2 (length f) qs ≡ map (touched (overwritten s i c)) l
    turned_are = mapped_own f (Fit s i) 2 (overwritten s i c) over_touches (length f) (pieces s) all_fit

    turned_at : (q : ℕ × List ℕ) → Memᴰ q l → Turned (element_count f) i (plain_contents s c) (overwritten s i c) q.1
    turned_at q m =
        let a = stands s f (pieces s) (parted s o).whole (parted s o).formed 2 m in
        let p : Fit s i q.1 = all_member (Fit s i) (pieces s) all_fit a.among in
        let d : alone f Body q.1 ≡ true = all_member (λ r. alone f Body r ≡ true) (pieces s) (parted_alone (parted s o) Body) a.among in
        let n : element_count s ≡ element_count f = (parted s o).header.count in
        let k : carries q.1 i 0 ≡ eqb (tile_index q.1 0) i = held_carries q.1 i a.type in
        record {
          index = either q.1 (λ r. tile_index r 0 ≡ tile_index q.1 0) (λ e. over_index s c q.1 (plain_of q.1 p e d) all long (checksum_enabled s)) refl;
          other = λ z. not_carried q.1 (k ∙ ne_eqb (tile_index q.1 0) i z);
          own =
              λ z.
              let e : carries q.1 i 0 ≡ true = k ∙ eq-eqb (tile_index q.1 0) i z in
              ap (contents_alone (element_count f)) (is_carried q.1 e)
              ∙ ap (λ (y : ℕ). contents_alone y (over q.1)) (sym n)
              ∙ over_holds q.1 p.piece a.type (plain_of q.1 p e d);
        }

    held : (j : ℕ) → held_in (element_count f) j (standing 2 (length f) qs) ≡ pick (eqb j i) (plain_contents s c) (tiles_of s j)
    held j =
        ap (held_in (element_count f) j) turned_are
        ∙ member_place l (rw (records_first s o 2) at x.meant.among)
        (λ r m. held_over (element_count f) i (plain_contents s c) (overwritten s i c) l turned_at m (sym ((indexed_first s o).index m) ∙ x.meant.index) j)
        ∙ ap (λ (a : List (List ℕ)). pick (eqb j i) (plain_contents s c) a) (sym (tiles_first s o j))

    -- the bytes beside its cells and its checksum

    byte_stays : (k : ℕ) → Beside s x.start k → (q : ℕ × List ℕ) → Memᴰ q l → Stays over_touches k q
    byte_stays k z q m u v =
        let a = stands s f (pieces s) (parted s o).whole (parted s o).formed 2 m in
        let p : Fit s i q.1 = all_member (Fit s i) (pieces s) all_fit a.among in
        let d : alone f Body q.1 ≡ true = all_member (λ r. alone f Body r ≡ true) (pieces s) (parted_alone (parted s o) Body) a.among in
        let n : length_at s q.0 ≡ length q.1 = length_same (itself q m) ∙ a.stated in
        let t : 16 ≤ length_at s q.0 = (itself q m).long in
        either q.1 (λ r. byte_at r (k - q.0) ≡ byte_at q.1 (k - q.0))
        (λ e.
        let y : Beside s q.0 k = subst (λ (w : ℕ). Beside s w k) (sym (start_is q m e)) z in
        over_byte s c q.1 (plain_of q.1 p e d) all long (checksum_enabled s) (k - q.0) (⊎_elim (λ w. omega arith) (λ w. absurd (omega arith)) y.checksum)
        (λ e h. let w = (says q m).places e in ⊎_elim (λ j. inl (omega arith)) (λ j. inr (omega arith)) (y.cells e h)))
        refl

    over_bytes : (k : ℕ) → Beside s x.start k → byte_at (f ++ joined qs) k ≡ byte_at s k
    over_bytes k z =
        page_byte over_touches k (pieces s) all_fit (byte_stays k z) ∙ ap (λ (w : List ℕ). byte_at w k) (sym (parted s o).whole)

    over_length_same : length (f ++ joined qs) ≡ length s
    over_length_same =
        length-append f (joined qs) ∙ ap (λ (n : ℕ). length f + n) (mapped_length f (Fit s i) 2 (overwritten s i c) over_touches (pieces s) all_fit)
        ∙ sym (length-append f (joined (pieces s))) ∙ ap length (sym (parted s o).whole)

    bodies : body_fault (f ++ joined qs) ≡ None
    bodies =
        body_to f front (pieces s) qs (parted s o).formed well (mapped_alone f (Fit s i) 2 (overwritten s i c) over_touches Body (pieces s) all_fit) (parted s o).bodies

    none_adjoin : nothing_to_join qs ≡ true
    unfolding pieces
    none_adjoin = mapped_none f (Fit s i) 2 (overwritten s i c) over_touches (pieces s) all_fit ∙ o.none_adjoin

    over_open : length (f ++ joined qs) ≤ 16777216 → Open (f ++ joined qs)
    over_open room =
        let p = parted s o in
        let d = directory_stays s o qs well room (overwritten s i c) (stays 5 (λ e. omega arith)) turned_are (λ q m. (turned_at q m).index) in
        open_again s o qs
        (record {
          formed = well;
          room = room;
          checksums =
              checksum_to f front (pieces s) qs p.formed well (mapped_alone f (Fit s i) 2 (overwritten s i c) over_touches Checksum (pieces s) all_fit)
              p.checksums;
          bodies = bodies;
          metadata =
              sym (metadata_to f front (pieces s) qs p.formed well (stays 1 (λ e. omega arith)) (stays 4 (λ e. omega arith)) p.bodies)
              ∙ ap metadata_directory_right (sym p.whole)
              ∙ o.sound.metadata_directory_lem;
          tiles = d.0;
          full = d.1;
          spaceless = stays 3 (λ e. omega arith);
          none = none_adjoin;
        })

    over_kept : KeptBy s f f qs (λ j. eqb j i)
    over_kept =
        kept_again s o qs well (stays 1 (λ e. omega arith)) (stays 4 (λ e. omega arith))
        (λ j n. ap (of_tile j) turned_are ∙ of_others (element_count f) i (plain_contents s c) (overwritten s i c) l turned_at j (eqb-false j i n))

    over_tiles : (j : ℕ) → tiles_of (f ++ joined qs) j ≡ pick (eqb j i) (plain_contents s c) (tiles_of s j)
    over_tiles j = tiles_again s o qs well bodies j ∙ held j

module _ (s : List ℕ) (i : ℕ) (c : List ℕ) (h : Stores s i c) (e : stored_over s i ≡ true) where
  page_is : stored_page s i c ≡ front_of s ++ joined (map (overwritten s i c) (pieces s))
  unfolding stored_page stored_pieces
  page_is = rw e

  pub stored_over_lem : StoredKeeps s i c
  unfolding plain_here
  stored_over_lem =
      let l : length (front_of s ++ joined (map (overwritten s i c) (pieces s))) ≤ 16777216 = rw page_is at h.room in
      let r = referred_is s h.open_page_lem.sound i h.below in
      let x = plain_at s i (over_is s i r e) in
      record {
        open_page_lem = rw page_is (over_open s i c h.open_page_lem h.cells h.long h.bytes x l);
        follows = rw page_is (kept_follows (over_kept s i c h.open_page_lem h.cells h.long h.bytes x) (over_tiles s i c h.open_page_lem h.cells h.long h.bytes x));
        places = rw page_is (kept_places (over_kept s i c h.open_page_lem h.cells h.long h.bytes x));
        front = rw page_is (front_begins s (joined (map (overwritten s i c) (pieces s))) h.open_page_lem.sound);
        over_long = λ y. rw page_is (over_length_same s i c h.open_page_lem h.cells h.long h.bytes x);
        over_beside =
            λ y a b k z.
            rw page_is (over_bytes s i c h.open_page_lem h.cells h.long h.bytes (plain_here s i a b (over_plain s i a (over_is s i r y) b)) k z);
      }

pub stored_open : StoredOpen
stored_open s i c h = go (stored_over s i) refl
  where
    go : (b : Bool) → stored_over s i ≡ b → StoredKeeps s i c
    go true e = stored_over_lem s i c h e
    go false e = stored_new s i c h e
