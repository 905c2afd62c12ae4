-- The byte stores of storing and removing a tile make the page that they are to make. Assumes nothing.
use Rattle.std.specs.Prelude.{None, Ok, Option, Some}
use Prim.Native.Nat.{ℕ, ◌+◌, ◌-◌, ◌≤◌, ◌<◌, max}
use mathlib.Core.Path.{◌≡◌, refl, sym, ap, ◌∙◌}
use mathlib.Core.List.{List, [], ◌∷◌, ◌++◌, map, append_assoc}
use mathlib.Core.Bool.{Bool, true, false}
use native.Mathlib.Omega.{arith}
use lib.ListN.{length, take, drop, length-append}
use borrow.Author.Tests.{eqb-true}
use Rattle.wire.specs.Pick.{pick}
use Rattle.wire.specs.Bytes.{bytes_of}
use Rattle.wire.proofs.TestLaws.{no, not_both}
use Rattle.wire.proofs.PlaceLaws.{placed_self}
use Rattle.record.specs.Record.{length_at, type_at, content_at, record_ok}
use Rattle.record.specs.Chain.{header_end, records, joined, WellFormed}
use Rattle.record.proofs.ChainLaws.{ok_means}
use Rattle.header.specs.Fields.{checksum_enabled, element_count}
use Rattle.header.specs.Element.{entries_read}
use Rattle.geometry.specs.Tiles.{tile_count}
use Rattle.geometry.specs.Sizes.{element_bytes, tile_bytes, plain_tile_length}
use Rattle.bodies.specs.TileDirectory.{tile_directory_at}
use Rattle.check_header.specs.Passed.{InRange}
use Rattle.page_check.specs.Accepted.{Sound}
use Rattle.page_check.proofs.GivenLaws.{sound_range}
use Rattle.tile_routes.specs.Ways.{carries}
use Rattle.written_records.specs.Tile.{plain_record, sections_of, tile_record}
use Rattle.written_records.proofs.PieceLaws.{placed_kind}
use Rattle.written_records.proofs.TileLaws.{tile_length_lem, tile_well}
use Rattle.stores.specs.Stores.{Write, run}
use Rattle.stores.specs.Writes.{whole_write}
use Rattle.stores.proofs.StoreLaws.{length_run}
use Rattle.pieces.specs.Pieces.{piece_at, pieces}
use Rattle.pieces.specs.Edits.{place_for, room_for, placed, with_reference}
use Rattle.pieces.specs.Standing.{standing, without}
use Rattle.pieces.proofs.SplitLaws.{piece_long}
use Rattle.pieces.proofs.FreeingLaws.{freeing_well, freeing_standing}
use Rattle.pieces.proofs.PlacedLaws.{placed_length, placed_others}
use Rattle.writable.specs.Writable.{open_for_writing, Open}
use Rattle.writable.specs.Parts.{Parted}
use Rattle.writable.proofs.OpenLaws.{open_means, open_sound}
use Rattle.writable.proofs.PartLaws.{sound_parted}
use Rattle.correct.specs.Front.{page_in}
use Rattle.correct.specs.Storing.{tile_at, tile_referred, stored_over, plain_in, overwritten, freed_of, stored_at, newly_stored, stored_pieces, stored_page, stored_length}
use Rattle.correct.specs.Removing.{is_there, removed_pieces, removed_page}
use Rattle.correct.specs.Answers.{room_left}
use Rattle.correct.specs.RecordWrites.{rest_writes}
use Rattle.correct.specs.Writes.{freeing_writes, then_refer, new_writes, over_found, store_writes, remove_writes}
use Rattle.correct.proofs.ReferredLaws.{referred_is}
use Rattle.correct.specs.Calls.{Call, line_of}
use Rattle.effects.specs.Effects.{CallMakes}
use Rattle.effects.proofs.MadeLaws.{made_long, made_more, made_makes, MadeBehind, behind_then}
use Rattle.effects.proofs.LieLaws.{lie_more}
use Rattle.effects.proofs.FreeingEffects.{freeing_run, freeing_lies, records_few}
use Rattle.effects.proofs.BufferEffects.{page_long, buffer_split, pieces_long}
use Rattle.effects.proofs.OnlyLaws.{standing_only}
use Rattle.effects.proofs.PlaceEffects.{place_made}
use Rattle.effects.proofs.DirectoryStands.{directory_stands, directory_ok, directory_behind, reference_inside}
use Rattle.effects.proofs.RecordEffects.{carried, tile_inside, over_made, refer_made}
use Rattle.effects.proofs.PassedLaws.{room_passed, tile_passed, cells_passed}

-- the one that stands does not go
without_one : (p : List ℕ → Bool) (x : ℕ) (r : List ℕ) → p r ≡ false → without p ((x, r) ∷ []) ≡ (x, r) ∷ []
unfolding without
without_one p x r e = rw e

directory_no_tile : (r : List ℕ) (i : ℕ) → type_at r 0 ≡ 5 → carries r i 0 ≡ false
unfolding carries
directory_no_tile r i e = sym (no _ (λ h. omega (arith, h.0)))

-- tile i of a page open for writing in a buffer
module _ (b : List ℕ) (n i : ℕ) (inside : n ≤ length b) (writable : open_for_writing (page_in b n) ≡ true) (below : i < tile_count (page_in b n)) where
  abbrev s : List ℕ
  s = page_in b n

  abbrev f : List ℕ
  f = take (header_end s) s

  abbrev directory : List (ℕ × List ℕ)
  directory = (tile_directory_at s, piece_at s (tile_directory_at s)) ∷ []

  is_open : Open s
  is_open = open_means s writable

  sound : Sound s
  sound = is_open.sound

  parted : Parted s f (pieces s)
  parted = sound_parted s sound

  range : InRange s (length s)
  range = sound_range s (records s) sound

  long : length s ≡ n
  long = page_long b n inside

  whole_long : n ≡ length (f ++ joined (pieces s))
  whole_long = sym (length-append f (joined (pieces s)) ∙ pieces_long b n inside sound)

  split : b ≡ f ++ joined (pieces s) ++ drop n b
  split = buffer_split b n inside sound ∙ sym (append_assoc f (joined (pieces s)) (drop n b))

  -- its record freed
  freed_made : MadeBehind (header_end s) b (freeing_writes (length b) s (carries s i)) (f ++ joined (freed_of s i)) n 1048577
  unfolding freed_of
  freed_made =
      let l = long in
      let a = freeing_lies s (length b) (carries s i) sound.chain in
      let k = records_few s (header_end s) (records s) sound.chain in
      let e = lie_more a n 1048577 (omega arith) (omega (arith, range.file)) in
      let q =
      ap (run (freeing_writes (length b) s (carries s i))) split
      ∙ freeing_run s f (drop n b) (length b) (carries s i) (λ r. carries r i 0) sound.chain parted.ends (omega arith) (carried s sound i) in
      record { made = record { holds = q; inside = inside; fits = e.fits; few = e.few }; apart = e.apart }

  freed_stands : standing 5 (header_end s) (freed_of s i) ≡ directory
  unfolding freed_of
  freed_stands =
      let d = directory_stands s sound.chain sound.tile_directory in
      let t = eqb-true _ _ (standing_only 5 (header_end s) (pieces s) d).holds in
      freeing_standing (checksum_enabled s) (λ r. carries r i 0) (pieces s) parted.formed 5 (λ z. omega arith) (header_end s)
      ∙ ap (without (λ r. carries r i 0)) d ∙ without_one (λ r. carries r i 0) (tile_directory_at s) (piece_at s (tile_directory_at s)) (directory_no_tile _ i t)

  -- behind writes that leave the directory where it is, the reference to the tile
  then_refer_lem :
      {xs : List Write} {m k : ℕ} (qs : List (List ℕ)) (content : ℕ) → MadeBehind (header_end s) b xs (f ++ joined qs) m k → n ≤ m →
      standing 5 (header_end s) qs ≡ directory → MadeBehind (header_end s) b (then_refer s i content xs b) (f ++ joined (map (with_reference s i content) qs)) m (k + 2)
  unfolding then_refer
  then_refer_lem {xs} {m} qs content a h d =
      let at = tile_directory_at s in
      let o = directory_ok s sound.chain sound.tile_directory in
      let r = ok_means s at o in
      let l = long in
      let e : standing 5 (length f) qs ≡ directory = rw parted.ends d in
      behind_then a
      (rw a.made.holds
      (refer_made s i content (header_end s) f (drop m b) qs (directory_behind s sound.chain sound.tile_directory) e (length_at s at) m (sym (piece_long s at o))
      (reference_inside s sound.chain sound.tile_directory is_open.full i below) (omega (arith, r.inside)) (sym (made_long a.made))))
      (omega arith)

  -- removing
  there_removed : MadeBehind (header_end s) b (then_refer s i 0 (freeing_writes (length b) s (carries s i)) b) (f ++ joined (map (with_reference s i 0) (freed_of s i))) n 1048579
  there_removed = then_refer_lem (freed_of s i) 0 freed_made (omega arith) freed_stands

  nothing_made : MadeBehind (header_end s) b [] (f ++ joined (pieces s)) n 1048579
  unfolding run
  nothing_made = record { made = record { holds = split; inside = inside; fits = _; few = omega arith }; apart = _ }

  pub removed_made : MadeBehind (header_end s) b (remove_writes b s i) (removed_page s i) n 1048579
  unfolding remove_writes removed_page removed_pieces
  removed_made = go (is_there s i)
    where
      go :
          (c : Bool) →
          MadeBehind (header_end s) b (pick c (then_refer s i 0 (freeing_writes (length b) s (carries s i)) b) [])
          (f ++ joined (pick c (map (with_reference s i 0) (freed_of s i)) (pieces s))) n 1048579
      go true = there_removed
      go false = nothing_made

  -- the record that is stored over
  over_plain : stored_over s i ≡ true → plain_in s (tile_referred s i) ≡ true
  unfolding stored_over
  over_plain e = e

  -- storing, where the bytes are those of a tile and the new page has room
  module _ (c : List ℕ) (cells : length c ≡ tile_bytes s) where
    abbrev flag : ℕ
    flag = checksum_enabled s

    abbrev v : List ℕ
    v = tile_record s i c

    new_long : length v ≡ plain_tile_length s
    new_long = tile_length_lem s range.all i c cells

    new_is : plain_record flag i (element_bytes s) (entries_read s) c ≡ v
    unfolding tile_record
    new_is = ap (λ (k : ℕ). plain_record flag i (element_bytes s) k c) range.all

    new_type : type_at v 0 ≡ 2
    unfolding tile_record plain_record
    new_type = placed_kind flag 2 (bytes_of 4 i ++ sections_of (element_bytes s) (element_count s) c) (placed_self _)

    new_well : plain_tile_length s ≤ 16777216 → (record_ok v 0 ≡ true) × (length_at v 0 ≡ length v)
    new_well h = tile_well s range.all (omega arith) i c cells

    freed_well : WellFormed (freed_of s i)
    unfolding freed_of
    freed_well = freeing_well flag (λ r. carries r i 0) (pieces s) parted.formed parted.room

    module _ (room : stored_at s i + plain_tile_length s ≤ length b) (within : stored_at s i + plain_tile_length s ≤ 16777216) where
      abbrev most : ℕ
      most = max (length s) (stored_at s i + plain_tile_length s)

      placed_most : length (f ++ joined (placed flag v (freed_of s i))) ≡ most
      unfolding stored_at
      placed_most =
          let w = new_well (omega arith) in
          let a = placed_length flag v w.0 w.1 (header_end s) (freed_of s i) freed_well in
          let l = new_long in
          let e : place_for (header_end s) (length v) (freed_of s i) ≡ place_for (header_end s) (plain_tile_length s) (freed_of s i) =
          ap (λ (k : ℕ). place_for (header_end s) k (freed_of s i)) l in
          let d = made_long freed_made.made in
          let g = length-append f (joined (freed_of s i)) in
          let h = length-append f (joined (placed flag v (freed_of s i))) in
          omega (arith, parted.ends, long)

      -- the new record where it goes
      new_made : MadeBehind (header_end s) b (new_writes (length b) s i c) (f ++ joined (placed flag v (freed_of s i))) most 1048579
      unfolding new_writes stored_at
      new_made =
          let xs = freeing_writes (length b) s (carries s i) in
          let at = place_for (header_end s) (plain_tile_length s) (freed_of s i) in
          let ys = whole_write (length b) at v in
          let zs = rest_writes (length b) flag (at + plain_tile_length s) (room_for (plain_tile_length s) (freed_of s i) - plain_tile_length s) in
          let e = freed_made.made.holds in
          let k : length b ≡ length (f ++ joined (freed_of s i) ++ drop n b) = sym (length_run xs b) ∙ ap length e in
          let l = new_long in
          let g = parted.ends in
          let p : MadeBehind (header_end s) (run xs b) (ys ++ zs) (f ++ joined (placed flag v (freed_of s i))) most 2 =
          rw e (rw (placed_most, g, l) at (place_made (header_end s) flag (length b) v f (drop n b) (freed_of s i) (omega arith) k (rw (g, l) room))) in
          rw (new_is, append_assoc xs ys zs) (behind_then freed_made p (omega (arith, long)))

      placed_stands : standing 5 (header_end s) (placed flag v (freed_of s i)) ≡ directory
      placed_stands =
          let w = new_well (omega arith) in
          placed_others flag v w.0 w.1 5 (λ z. omega arith) (λ z. omega (arith, new_type)) (header_end s) (freed_of s i) freed_well ∙ freed_stands

      newly_made :
          MadeBehind (header_end s) b (then_refer s i (content_at (stored_at s i)) (new_writes (length b) s i c) b) (f ++ joined (newly_stored s i c)) most 1048581
      unfolding newly_stored
      newly_made = then_refer_lem (placed flag v (freed_of s i)) (content_at (stored_at s i)) new_made (omega (arith, long)) placed_stands

    -- over its plain record
    over_stored : (r : Option ℕ) → tile_at s i ≡ r → plain_in s r ≡ true → MadeBehind (header_end s) b (over_found b s c r) (f ++ joined (map (overwritten s i c) (pieces s))) n 17
    over_stored None e p = not_both p refl
    over_stored (Some x) e p =
        let l = long in
        let h : x + length_at s x ≤ n = omega (arith, tile_inside s sound i e) in
        over_made s sound i e p c cells b f (drop n b) n split parted.ends whole_long h

    pub stored_made :
        room_left b (stored_length s i) ≡ Ok tt → MadeBehind (header_end s) b (store_writes b s i c) (stored_page s i c) (stored_length s i) 1048581
    unfolding store_writes stored_page stored_pieces stored_length
    stored_made room = go (stored_over s i) refl (room_passed b (stored_length s i) room)
      where
        go :
            (o : Bool) → stored_over s i ≡ o →
            (pick o (length s) (max (length s) (stored_at s i + plain_tile_length s)) ≤ length b)
            × (pick o (length s) (max (length s) (stored_at s i + plain_tile_length s)) ≤ 16777216) →
            MadeBehind (header_end s) b (pick o (over_found b s c (tile_referred s i)) (then_refer s i (content_at (stored_at s i)) (new_writes (length b) s i c) b))
            (f ++ joined (pick o (map (overwritten s i c) (pieces s)) (newly_stored s i c))) (pick o (length s) (max (length s) (stored_at s i + plain_tile_length s))) 1048581
        go true e g =
            let r = referred_is s sound i below in
            let q = over_stored (tile_referred s i) (sym r) (over_plain e) in
            rw long (record { made = made_more q.made 1048581 (omega arith); apart = q.apart })
        go false e g = newly_made (omega (arith, g.0)) (omega (arith, g.1))

pub remove_makes : (i : ℕ) → CallMakes (Call.Removing i)
unfolding line_of
remove_makes i b n w inside o e =
    let s = page_in b n in
    let t = tile_passed s i _ e in
    let r = sound_range s (records s) (open_sound s o) in
    rw (page_long b n inside) (made_makes (removed_made b n i inside o t.0).made (omega (arith, r.file, page_long b n inside)) (omega arith))

pub store_makes : (i : ℕ) (c : List ℕ) → CallMakes (Call.Storing i c)
unfolding line_of
store_makes i c b n w inside o e =
    let t = tile_passed (page_in b n) i _ e in
    let d = cells_passed (page_in b n) c _ t.1 in
    made_makes (stored_made b n i inside o t.0 c d.0 d.1).made (room_passed b _ d.1).1 (omega arith)
