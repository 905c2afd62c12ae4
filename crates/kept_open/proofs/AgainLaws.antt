-- A page that is open for writing with other pieces behind its front: what makes it open again. Assumes nothing.
use Rattle.std.specs.Prelude.{None}
use Prim.Native.Nat.{ℕ, ◌+◌, ◌-◌, ◌%◌, ◌≤◌, ◌<◌}
use mathlib.Core.Path.{◌≡◌, refl, sym, ap, ◌∙◌}
use mathlib.Core.List.{List, [], ◌∷◌, ◌++◌, map, Memᴰ}
use mathlib.Core.Logic.{⊎_elim}
use mathlib.Core.Bool.{Bool, true, false}
use native.Mathlib.Omega.{arith}
use lib.ListN.{length, take}
use lib.Dec.{eqb}
use borrow.Author.Tests.{eqb-true, eqb-false}
use Rattle.wire.proofs.TestLaws.{means}
use Rattle.wire.proofs.ByteLaws.{same_part}
use Rattle.wire.proofs.ListLaws.{some_member}
use Rattle.wire.proofs.PlaceLaws.{Placed, placed_inside, placed_number}
use Rattle.record.specs.Record.{length_at, type_at, content_at}
use Rattle.record.specs.Chain.{header_end, records, records_of, joined, WellFormed}
use Rattle.record.proofs.ChainLaws.{ok_means}
use Rattle.header.specs.Fields.{tile_directory_reference, element_count}
use Rattle.geometry.specs.Tiles.{tile_count}
use Rattle.bodies.specs.TileRecord.{tile_index}
use Rattle.bodies.specs.TileDirectory.{tile_directory_at}
use Rattle.check_header.specs.HeaderRecord.{length_right}
use Rattle.check_header.specs.Judged.{SameJudged}
use Rattle.check_header.proofs.Judged.{header_lawful}
use Rattle.check_records.specs.declared.Rule.TheVariants.{Body}
use Rattle.check_records.specs.Faults.{checksum_fault, body_fault}
use Rattle.check_directory.specs.References.{refers_to}
use Rattle.check_directory.specs.TileRules.{tile_directory_right}
use Rattle.check_lists.specs.Metadata.{metadata_directory_right}
use Rattle.check_lists.proofs.FirstLaws.{record_placed}
use Rattle.page_check.specs.Stages.{unless, check_records}
use Rattle.page_check.specs.Accepted.{Sound}
use Rattle.page_check.proofs.AcceptedLaws.{sound_of}
use Rattle.page_check.proofs.GivenLaws.{sound_range}
use Rattle.pieces.specs.Pieces.{pieces, nothing_to_join}
use Rattle.pieces.specs.Edits.{with_reference}
use Rattle.pieces.specs.Standing.{standing, place_of}
use Rattle.alone.specs.Alone.{SameRecord}
use Rattle.alone.specs.Edited.{touched}
use Rattle.alone.proofs.HeaderLaws.{front_judged}
use Rattle.alone.proofs.PieceLaws.{placed_same, wrong_none}
use Rattle.alone.proofs.EditedLaws.{chain_none}
use Rattle.alone.proofs.StandLaws.{stands, records_are, member_place}
use Rattle.writable.specs.Writable.{directory_full, Open}
use Rattle.writable.specs.Parts.{Parted, SameFront}
use Rattle.writable.proofs.PartLaws.{sound_parted, front_begins, front_kept}
use Rattle.page_laws.proofs.FrontLaws.{judged_trans, same_unset}
use Rattle.page_laws.specs.Tiles.{tiles_of, of_tile}
use Rattle.page_laws.specs.TileMap.{held_in}
use Rattle.page_laws.proofs.TileMapLaws.{tiles_stand, pieces_are}
use Rattle.page_laws.proofs.PageLaws.{parted_alone}
use Rattle.page_laws.proofs.KeptLaws.{KeptBy}
use Rattle.page_laws.proofs.TilesKeptLaws.{tiles_kept}
use Rattle.page_laws.proofs.FormLaws.{directory_room, SameForm, form_one, form_kept, full_same, count_same}
use Rattle.kept_open.proofs.EntryLaws.{place_member, Stored, Entered, Indexed, indexed_of, entered_listed, entered_only}
use Rattle.kept_open.proofs.ReferenceLaws.{set_long, head_kept, reference_after}

-- pieces of a type, changed where they stand

touched_places : (g : List ℕ → List ℕ) (l : List (ℕ × List ℕ)) → map place_of (map (touched g) l) ≡ map place_of l
touched_places g [] = refl
touched_places g (q ∷ l) = ap (λ (x : List ℕ). q.0 ∷ x) (touched_places g l)

touched_member : (g : List ℕ → List ℕ) (l : List (ℕ × List ℕ)) {q : ℕ × List ℕ} → Memᴰ q l → Memᴰ (touched g q) (map (touched g) l)
touched_member g [] m = absurd (mathlib.Core.List.Memᴰ.not-nil m)
touched_member g (p ∷ l) m =
    ⊎_elim (λ e. mathlib.Core.List.Memᴰ.head (ap (touched g) e)) (λ n. mathlib.Core.List.Memᴰ.tail (touched_member g l n)) (mathlib.Core.List.Memᴰ.cases_cons m)

-- a page that is open, its front, and other pieces behind it

abbrev pub front_of : List ℕ → List ℕ
front_of s = take (header_end s) s

pub record Again (s : List ℕ) (qs : List (List ℕ)) : Type 0 where
  pub formed : WellFormed qs
  pub room : length (front_of s ++ joined qs) ≤ 16777216
  pub checksums : checksum_fault (front_of s ++ joined qs) ≡ None
  pub bodies : body_fault (front_of s ++ joined qs) ≡ None
  pub metadata : metadata_directory_right (front_of s ++ joined qs) ≡ true
  pub tiles : tile_directory_right (front_of s ++ joined qs) ≡ true
  pub full : directory_full (front_of s ++ joined qs) ≡ true
  pub spaceless : standing 3 (length (front_of s)) (pieces s) ≡ standing 3 (length (front_of s)) qs
  pub none : nothing_to_join qs ≡ true

module _ (s : List ℕ) (o : Open s) where
  pub parted : Parted s (front_of s) (pieces s)
  parted = sound_parted s o.sound

  -- its records of a type, and what its tiles hold

  pub records_first : (kind : ℕ) → records_of s kind ≡ map place_of (standing kind (length (front_of s)) (pieces s))
  records_first kind = ap (λ (l : List ℕ). records_of l kind) parted.whole ∙ records_are (front_of s) parted.front (pieces s) parted.formed kind

  pub indexed_first : Indexed s (standing 2 (length (front_of s)) (pieces s))
  indexed_first = indexed_of s (front_of s) parted.front (pieces s) parted.whole parted.formed

  pub tiles_first : (j : ℕ) → tiles_of s j ≡ held_in (element_count (front_of s)) j (standing 2 (length (front_of s)) (pieces s))
  tiles_first j =
      ap (λ (l : List ℕ). tiles_of l j) parted.whole ∙ tiles_stand (front_of s) parted.front (pieces s) parted.formed (parted_alone parted Body) j

module _ (s : List ℕ) (o : Open s) (qs : List (List ℕ)) where
  abbrev t : List ℕ
  t = front_of s ++ joined qs

  judged_again : SameJudged s t
  judged_again = judged_trans (parted s o).judged (front_judged (parted s o).front (joined qs))

  same_front : length t ≤ 16777216 → SameFront s t
  same_front h = front_kept s t o.sound (front_begins s (joined qs) o.sound) h

  sound_again : Again s qs → Sound t
  unfolding check_records unless
  sound_again a =
      sound_of t (same_front a.room).headed (rw (chain_none (front_of s) (parted s o).front qs a.formed, a.checksums, a.bodies)) a.tiles a.metadata

  pub open_again : Again s qs → Open t
  unfolding pieces
  open_again a =
      record {
        sound = sound_again a;
        opened = sym (same_front a.room).open_same ∙ o.opened;
        full = a.full;
        no_reference = sym (same_front a.room).space ∙ o.no_reference;
        no_directory =
            records_are (front_of s) (parted s o).front qs a.formed 3 ∙ ap (map place_of) (sym a.spaceless) ∙ sym (records_first s o 3) ∙ o.no_directory;
        none_adjoin = ap nothing_to_join (pieces_are (front_of s) (parted s o).front qs a.formed) ∙ a.none;
      }

  -- what it keeps, and its tiles
  pub kept_again :
      WellFormed qs → standing 1 (length (front_of s)) (pieces s) ≡ standing 1 (length (front_of s)) qs →
      standing 4 (length (front_of s)) (pieces s) ≡ standing 4 (length (front_of s)) qs → {named : ℕ → Bool} →
      ((j : ℕ) → named j ≡ false → of_tile j (standing 2 (length (front_of s)) qs) ≡ of_tile j (standing 2 (length (front_of s)) (pieces s))) →
      KeptBy s (front_of s) (front_of s) qs named
  kept_again v c d k =
      let h = (sound_range s (records s) o.sound).header_least in
      let f = front_begins s (joined qs) o.sound in
      record {
        parted = parted s o;
        front = (parted s o).front;
        formed = v;
        header = same_unset f h;
        reference = same_part f 64 72 (omega arith) (omega arith);
        metadata = c;
        directory = d;
        records = k;
      }

  pub tiles_again : WellFormed qs → body_fault t ≡ None → (j : ℕ) → tiles_of t j ≡ held_in (element_count (front_of s)) j (standing 2 (length (front_of s)) qs)
  unfolding body_fault
  tiles_again v b j = tiles_stand (front_of s) (parted s o).front qs v (wrong_none (front_of s) (parted s o).front qs v Body b) j

  -- the tile directory with reference number i set to `content`
  module _
      (v : WellFormed qs) (room : length t ≤ 16777216) (i content : ℕ) (below : i < tile_count s)
      (own : standing 5 (length (front_of s)) qs ≡ map (touched (with_reference s i content)) (standing 5 (length (front_of s)) (pieces s)))
      (n : Entered (standing 2 (length (front_of s)) (pieces s)) (standing 2 (length (front_of s)) qs) i content)
    where
      second : Indexed t (standing 2 (length (front_of s)) qs)
      second = indexed_of t (front_of s) (parted s o).front qs refl v

      -- records start at multiples of 8
      content_fits : (content < 4294967296) × (content % 8 ≡ 0)
      unfolding length_right header_end
      content_fits = go (eqb content 0) refl
        where
          there : Stored (standing 2 (length (front_of s)) qs) i content → (content < 4294967296) × (content % 8 ≡ 0)
          there p =
              let x = p.starts in
              let m : Memᴰ p.place (records_of t 2) = rw second.records (place_member (standing 2 (length (front_of s)) qs) p.among) in
              let q = record_placed t 2 m in
              let h = (means _ (header_lawful t (length t) (same_front room).headed.header)).0 in
              (omega (arith, q.inside), omega (arith, q.eights, q.behind))

          go : (b : Bool) → eqb content 0 ≡ b → (content < 4294967296) × (content % 8 ≡ 0)
          go true e = let z : content ≡ 0 = eqb-true _ _ e in (omega arith, omega arith)
          go false e = there (n.given (eqb-false _ _ e))

      right : tile_directory_right s ≡ true
      right = o.sound.tile_directory

      abbrev Kept : Type 0
      Kept = (tile_directory_right t ≡ true) × (directory_full t ≡ true)

      -- the directory r, which starts at d
      module _ (d : ℕ) (r : List ℕ) (m : Memᴰ (d, r) (standing 5 (length (front_of s)) (pieces s))) (e : content_at d ≡ tile_directory_reference s) where
        there_first : Placed s d r
        there_first = (stands s (front_of s) (pieces s) (parted s o).whole (parted s o).formed 5 m).placed

        there_second : Placed t d (with_reference s i content r)
        there_second =
            let k : Memᴰ (d, with_reference s i content r) (standing 5 (length (front_of s)) qs) =
            rw own (touched_member (with_reference s i content) (standing 5 (length (front_of s)) (pieces s)) m) in
            (stands t (front_of s) qs refl v 5 k).placed

        long : length_at s d ≡ length r
        long =
            let a = stands s (front_of s) (pieces s) (parted s o).whole (parted s o).formed 5 m in
            let z : d + 0 ≡ d = omega arith in
            let l = ok_means r 0 a.ok in
            (rw z at (placed_number there_first 4 0 (omega (arith, l.long, l.inside)))) ∙ a.stated

        type : type_at r 0 ≡ 5
        type = (stands s (front_of s) (pieces s) (parted s o).whole (parted s o).formed 5 m).type

        least : 36 ≤ length r
        unfolding tile_directory_at
        least = let z : tile_directory_reference s - 8 ≡ d = omega (arith, e) in rw (z, long) at (directory_room s right)

        form : SameForm s t d
        form =
            record {
              judged = judged_again;
              reference = (same_front room).tiles;
              directories =
                  records_first s o 5
                  ∙ sym (touched_places (with_reference s i content) (standing 5 (length (front_of s)) (pieces s)))
                  ∙ ap (map place_of) (sym own)
                  ∙ sym (records_are (front_of s) (parted s o).front qs v 5);
              own = e;
              head = head_kept s t r d i content there_first there_second type least;
              in_first = rw long (placed_inside there_first);
              in_second = rw (long, ← set_long s t r d i content there_first there_second type least) (placed_inside there_second);
            }

        all : Kept
        all =
            let f = content_fits in
            let one = form_one form right in
            let q = reference_after s t r d i content there_first there_second type least form right o.full long below f.0 f.1 in
            (form_kept form right (entered_listed (indexed_first s o) second n q one (count_same form)) (entered_only (indexed_first s o) second n q one (count_same form)), sym (full_same form) ∙ o.full)

      pub directory_again : Kept
      unfolding tile_directory_right refers_to
      directory_again =
          some_member Kept (λ x. eqb (content_at x) (tile_directory_reference s)) (records_of s 5) (means _ right).0
          (λ d m h. member_place (standing 5 (length (front_of s)) (pieces s)) (rw (records_first s o 5) at m) (λ r k. all d r k (eqb-true _ _ h)))

  -- the tile records changed where they stand by what keeps their indexes, the tile directory as it was
  module _
      (v : WellFormed qs) (room : length t ≤ 16777216) (g : List ℕ → List ℕ)
      (own : standing 5 (length (front_of s)) (pieces s) ≡ standing 5 (length (front_of s)) qs)
      (turned : standing 2 (length (front_of s)) qs ≡ map (touched g) (standing 2 (length (front_of s)) (pieces s)))
      (same : (q : ℕ × List ℕ) → Memᴰ q (standing 2 (length (front_of s)) (pieces s)) → tile_index (g q.1) 0 ≡ tile_index q.1 0)
    where
      index_at : (x : ℕ) (r : List ℕ) → Memᴰ (x, r) (standing 2 (length (front_of s)) (pieces s)) → tile_index s x ≡ tile_index t x
      index_at x r m =
          let k : Memᴰ (x, g r) (standing 2 (length (front_of s)) qs) = rw turned (touched_member g (standing 2 (length (front_of s)) (pieces s)) m) in
          (indexed_first s o).index m ∙ sym (same (x, r) m) ∙ sym ((indexed_of t (front_of s) (parted s o).front qs refl v).index k)

      directory_at : (x : ℕ) (r : List ℕ) → Memᴰ (x, r) (standing 5 (length (front_of s)) (pieces s)) → SameRecord s x t x
      directory_at x r m =
          let a = stands s (front_of s) (pieces s) (parted s o).whole (parted s o).formed 5 m in
          let k : Memᴰ (x, r) (standing 5 (length (front_of s)) qs) = rw (← own) m in
          placed_same a.placed (stands t (front_of s) qs refl v 5 k).placed a.ok a.stated

      pub directory_stays : (tile_directory_right t ≡ true) × (directory_full t ≡ true)
      directory_stays =
          tiles_kept s t
          (record {
            judged = judged_again;
            reference = (same_front room).tiles;
            records =
                records_first s o 2
                ∙ sym (touched_places g (standing 2 (length (front_of s)) (pieces s)))
                ∙ ap (map place_of) (sym turned)
                ∙ sym (records_are (front_of s) (parted s o).front qs v 2);
            directories = records_first s o 5 ∙ ap (map place_of) own ∙ sym (records_are (front_of s) (parted s o).front qs v 5);
            index = λ x m. member_place (standing 2 (length (front_of s)) (pieces s)) (rw (records_first s o 2) at m) (λ r k. index_at x r k);
            directory_same = λ x m. member_place (standing 5 (length (front_of s)) (pieces s)) (rw (records_first s o 5) at m) (λ r k. directory_at x r k);
          })
          o.sound.tile_directory o.full
