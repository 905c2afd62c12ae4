-- A page that is open for writing is so after it was squeezed. Assumes nothing.
use Prim.Native.Nat.{ℕ, suc, ◌+◌, ◌-◌, ◌%◌, ◌≤◌, ◌<◌}
use mathlib.Core.Path.{◌≡◌, refl, sym, ap, ap₂, ◌∙◌}
use mathlib.Core.Logic.{inl, ⊎_elim}
use mathlib.Core.List.{List, [], ◌∷◌, ◌++◌, map, Memᴰ}
use mathlib.Core.Bool.{Bool, true, false, not, ◌||◌}
use native.Mathlib.Omega.{arith}
use lib.ListN.{length, length-append}
use lib.Dec.{eqb, leb}
use borrow.Author.Tests.{eqb-true, eqb-false, eq-eqb, ne_eqb, le-leb, lt-leb, leb-true, leb-false}
use Rattle.wire.specs.Pick.{pick}
use Rattle.wire.specs.Bytes.{Bytes, number_at, bytes_of}
use Rattle.wire.specs.Lists.{select, every, some, below}
use Rattle.wire.proofs.TestLaws.{means, yes}
use Rattle.wire.proofs.ByteLaws.{number_before, bytes_length}
use Rattle.wire.proofs.PutLaws.{length_put, put_aside, put_number}
use Rattle.wire.proofs.PlaceLaws.{Placed}
use Rattle.wire.proofs.ListLaws.{select_member, member_select, every_member, member_every, some_member, member_some}
use Rattle.record.specs.Record.{length_at, type_at, content_at, record_ok}
use Rattle.record.specs.Chain.{Stand, header_end, records, records_of, joined, WellFormed}
use Rattle.record.proofs.ChainLaws.{ok_means, starts_ok}
use Rattle.record.proofs.FindLaws.{of_type}
use Rattle.header.specs.Fields.{checksum_enabled, element_count, time_modified, time_opened, metadata_reference, tile_directory_reference}
use Rattle.check_header.specs.Stages.{closed}
use Rattle.check_header.specs.Judged.{SameJudged}
use Rattle.check_records.specs.declared.Rule.{Rule}
use Rattle.check_records.specs.declared.Rule.TheVariants.{Body}
use Rattle.check_records.specs.MetadataBody.{metadata_right}
use Rattle.check_directory.specs.References.{refers_to, refers_or_zero, no_other}
use Rattle.check_directory.specs.TileRules.{tile_directory_right}
use Rattle.check_directory.specs.Correspondence.{OneToOne}
use Rattle.check_directory.proofs.CorrespondLaws.{one_to_one}
use Rattle.check_lists.specs.Metadata.{metadata_fits, metadata_directory_right}
use Rattle.check_lists.specs.Rearranged.{metadata_entries}
use Rattle.bodies.specs.ListDirectories.{entry_count, metadata_count}
use Rattle.page_check.specs.Accepted.{Sound}
use Rattle.page_check.proofs.GivenLaws.{sound_range}
use Rattle.check_records.specs.Faults.{body_right}
use Rattle.pieces.specs.Pieces.{piece_at, pieces_of, pieces, nothing_to_join}
use Rattle.pieces.specs.Edits.{left_over}
use Rattle.pieces.proofs.FreeingLaws.{standing_other}
use Rattle.pieces.specs.Standing.{AllOf, standing, place_of}
use Rattle.pieces.proofs.SplitLaws.{piece_long, piece_length, piece_type, piece_ok, piece_placed}
use Rattle.alone.specs.Alone.{Front, SameRecord, alone, AllAlone}
use Rattle.alone.specs.Edited.{Piece}
use Rattle.alone.specs.Moves.{renamed}
use Rattle.alone.proofs.HeaderLaws.{front_long, front_end, front_judged}
use Rattle.alone.proofs.PieceLaws.{placed_same}
use Rattle.alone.proofs.StandLaws.{stands, records_are}
use Rattle.alone.proofs.TileLaws.{index_same}
use Rattle.alone.proofs.EditedLaws.{well_formed}
use Rattle.alone.proofs.MovesLaws.{moves_keep}
use Rattle.writable.specs.Writable.{Open, directory_full}
use Rattle.writable.proofs.PartLaws.{judged_headed}
use Rattle.page_laws.proofs.FrontLaws.{judged_trans, parted_number, seal_number, seal_judged, seal_checksum, page_unset}
use Rattle.page_laws.proofs.PageLaws.{parted_alone, made_sound}
use Rattle.page_laws.proofs.TileMapLaws.{tiles_stand, pieces_are}
use Rattle.page_laws.specs.Tiles.{tiles_of, standing_of, bytes_in, bytes_standing, of_tile, record_of_tile, bytes_of_tile, SameUnset, Follows}
use Rattle.bodies.specs.TileRecord.{tile_index}
use Rattle.page_laws.specs.TileMap.{held_in}
use Rattle.page_laws.proofs.ListedLaws.{judged_count}
use Rattle.correct.specs.Plan.{is_kept, kept_starts, plan_from, plan_right, end_from, planned_end, end_of, tight_from, tight_plan}
use Rattle.correct.specs.Renamed.{named_by, tiles_renamed, metadata_renamed, renamed_in}
use Rattle.correct.specs.Squeezing.{moved_to, squeezed_from, squeezed_pieces, squeezed_fields, squeezed_page}
use Rattle.squeezed.specs.Squeezed.{SqueezedKeeps, SqueezedOpen, kept_standing, kept_standing_of, moved_records, SqueezedStands, first_before, stands_before, SqueezedOrder, plan_gaps, zeroed_gap, SqueezedFree, TightFree}
use Rattle.squeezed.proofs.PlanLaws.{header_eights, kept_long, tight_accepted}
use Rattle.squeezed.proofs.TileMoves.{member_map, map_member, tiles_moved}
use Rattle.squeezed.proofs.NamedLaws.{step, Asc, stand_asc, select_kept, named_zero, named_range, named_found, named_first, named_rest, named_up, last_end}
use Rattle.squeezed.proofs.PieceMoves.{KeptAt, Agree, all_of, none_adjoin, ends_at, stand_at, free_at, starts_at, gap_piece, gap_rules}
use Rattle.squeezed.proofs.KeptMoves.{f, parts, f_long, named, G, held, G-bytes, g, ends, g_front, g_long, g_header, g_flag, kept_at, as_tiles, as_metadata, as_it_was}
use Rattle.squeezed.proofs.FormMoves.{FormMoves, form_moved, full_same, reference_same}
use Rattle.squeezed.proofs.EntryMoves.{DirectoryMoves, entries_moved, fits_moved}

map_pair : (to : ℕ → ℕ) (piece : ℕ → List ℕ) (l : List ℕ) → map place_of (map (λ x. (to x, piece x)) l) ≡ map to l
map_pair to piece [] = refl
map_pair to piece (x ∷ l) = ap (λ (k : List ℕ). to x ∷ k) (map_pair to piece l)

abbrev pair : (ℕ → ℕ) → (ℕ → List ℕ) → ℕ → ℕ × List ℕ
pair to piece x = (to x, piece x)

pair_member : (to : ℕ → ℕ) (piece : ℕ → List ℕ) (l : List ℕ) {x : ℕ} → Memᴰ x l → Memᴰ (pair to piece x) (map (pair to piece) l)
pair_member to piece [] m = absurd (mathlib.Core.List.Memᴰ.not-nil m)
pair_member to piece (y ∷ l) m =
    ⊎_elim (λ e. mathlib.Core.List.Memᴰ.head (ap (pair to piece) e)) (λ n. mathlib.Core.List.Memᴰ.tail (pair_member to piece l n)) (mathlib.Core.List.Memᴰ.cases_cons m)

not_true : (b : Bool) → not b ≡ true → b ≡ false
not_true true e = sym e
not_true false e = refl

-- the records of a type in the page itself
stand_old :
    (s : List ℕ) (kind at : ℕ) (ys : List ℕ) (end : ℕ) → Stand s at ys end →
    standing kind at (pieces_of s ys) ≡ map (pair (λ x. x) (piece_at s)) (select (λ x. eqb (type_at s x) kind) ys)
unfolding pieces_of standing select
stand_old s kind at [] end w = refl
stand_old s kind at (x ∷ ys) end w =
    let q : at + length (piece_at s x) ≡ x + length_at s x = omega (arith, w.0, piece_long s x w.1.0) in
    go (eqb (type_at s x) kind) refl (ap (λ (n : ℕ). standing kind n (pieces_of s ys)) q ∙ stand_old s kind (x + length_at s x) ys end w.1.1)
  where
    go :
        (b : Bool) → eqb (type_at s x) kind ≡ b →
        standing kind (at + length (piece_at s x)) (pieces_of s ys) ≡ map (pair (λ z. z) (piece_at s)) (select (λ z. eqb (type_at s z) kind) ys) →
        pick (eqb (type_at (piece_at s x) 0) kind) ((at, piece_at s x) ∷ standing kind (at + length (piece_at s x)) (pieces_of s ys)) (standing kind (at + length (piece_at s x)) (pieces_of s ys))
        ≡ map (pair (λ z. z) (piece_at s)) (pick (eqb (type_at s x) kind) (x ∷ select (λ z. eqb (type_at s z) kind) ys) (select (λ z. eqb (type_at s z) kind) ys))
    go true i r = rw (piece_type s x w.1.0, i, r, w.0)
    go false i r = rw (piece_type s x w.1.0, i, r)

-- the records of a tile, by their bytes alone
unfoldable of_bytes : ℕ → List (List ℕ) → List (List ℕ)
of_bytes j [] = []
of_bytes j (r ∷ rs) = pick (eqb (tile_index r 0) j) (r ∷ of_bytes j rs) (of_bytes j rs)

bytes_of_tile_lem : (j : ℕ) (l : List (ℕ × List ℕ)) → map bytes_in (of_tile j l) ≡ of_bytes j (map bytes_in l)
unfolding of_tile of_bytes
bytes_of_tile_lem j [] = refl
bytes_of_tile_lem j (p ∷ l) = go (eqb (tile_index p.1 0) j) (bytes_of_tile_lem j l)
  where
    go :
        (c : Bool) → map bytes_in (of_tile j l) ≡ of_bytes j (map bytes_in l) →
        map bytes_in (pick c (p ∷ of_tile j l) (of_tile j l)) ≡ pick c (p.1 ∷ of_bytes j (map bytes_in l)) (of_bytes j (map bytes_in l))
    go true e = ap (λ (k : List (List ℕ)). p.1 ∷ k) e
    go false e = e

tile_alike : (s t : List ℕ) → bytes_standing 2 t ≡ bytes_standing 2 s → (j : ℕ) → bytes_of_tile t j ≡ bytes_of_tile s j
unfolding bytes_of_tile record_of_tile bytes_standing
tile_alike s t e j = bytes_of_tile_lem j (standing_of 2 t) ∙ ap (of_bytes j) e ∙ sym (bytes_of_tile_lem j (standing_of 2 s))

-- what tiles hold does not depend on places
held_places :
    (n j : ℕ) (to : ℕ → ℕ) (piece old : ℕ → List ℕ) (l : List ℕ) → ((x : ℕ) → Memᴰ x l → piece x ≡ old x) →
    held_in n j (map (pair to piece) l) ≡ held_in n j (map (pair (λ x. x) old) l)
unfolding held_in
held_places n j to piece old [] h = refl
held_places n j to piece old (x ∷ l) h = rw (h x (mathlib.Core.List.Memᴰ.head refl), held_places n j to piece old l (λ y m. h y (mathlib.Core.List.Memᴰ.tail m)))

same_bytes_lem :
    (to : ℕ → ℕ) (piece old : ℕ → List ℕ) (l : List ℕ) → ((x : ℕ) → Memᴰ x l → piece x ≡ old x) →
    map bytes_in (map (pair to piece) l) ≡ map bytes_in (map (pair (λ x. x) old) l)
same_bytes_lem to piece old [] h = refl
same_bytes_lem to piece old (x ∷ l) h = rw (h x (mathlib.Core.List.Memᴰ.head refl), same_bytes_lem to piece old l (λ y m. h y (mathlib.Core.List.Memᴰ.tail m)))

-- the records of a tile, where they stand now and where they stood
of_tile_pairs :
    (j : ℕ) (to : ℕ → ℕ) (piece old : ℕ → List ℕ) (l : List ℕ) → ((x : ℕ) → Memᴰ x l → piece x ≡ old x) →
    of_tile j (map (pair to piece) l) ≡ map (pair to old) (select (λ x. eqb (tile_index (old x) 0) j) l)
unfolding of_tile select
of_tile_pairs j to piece old [] h = refl
of_tile_pairs j to piece old (x ∷ l) h =
    rw (h x (mathlib.Core.List.Memᴰ.head refl)) (go (eqb (tile_index (old x) 0) j) (of_tile_pairs j to piece old l (λ y m. h y (mathlib.Core.List.Memᴰ.tail m))))
  where
    go :
        (c : Bool) → of_tile j (map (pair to piece) l) ≡ map (pair to old) (select (λ y. eqb (tile_index (old y) 0) j) l) →
        pick c ((to x, old x) ∷ of_tile j (map (pair to piece) l)) (of_tile j (map (pair to piece) l))
        ≡ map (pair to old) (pick c (x ∷ select (λ y. eqb (tile_index (old y) 0) j) l) (select (λ y. eqb (tile_index (old y) 0) j) l))
    go true e = ap (λ (k : List (ℕ × List ℕ)). (to x, old x) ∷ k) e
    go false e = e

same_order : (a b c d : ℕ) → (a < b → c < d) → (b < a → d < c) → (a ≡ b → c ≡ d) → leb (suc c) d ≡ leb (suc a) b
same_order a b c d up down level = go (leb (suc a) b) refl
  where
    go : (v : Bool) → leb (suc a) b ≡ v → leb (suc c) d ≡ v
    go true i = le-leb (suc c) d (up (leb-true (suc a) b i))
    go false i = lt-leb (suc c) d (at_most (leb (suc b) a) refl (leb-false (suc a) b i))
      where
        at_most : (v : Bool) → leb (suc b) a ≡ v → b < suc a → d < suc c
        at_most true k h = omega (arith, down (leb-true (suc b) a k))
        at_most false k h = let q : a ≡ b = omega (arith, leb-false (suc b) a k) in omega (arith, level q)

before_same :
    (to : ℕ → ℕ) (old : ℕ → List ℕ) (l m : List ℕ) → ((x y : ℕ) → Memᴰ x l → Memᴰ y m → (x < y → to x < to y) × (y < x → to y < to x)) →
    first_before (map (pair to old) l) (map (pair to old) m) ≡ first_before (map (pair (λ x. x) old) l) (map (pair (λ x. x) old) m)
before_same to old [] m h = refl
before_same to old (x ∷ l) [] h = refl
before_same to old (x ∷ l) (y ∷ m) h =
    let k = h x y (mathlib.Core.List.Memᴰ.head refl) (mathlib.Core.List.Memᴰ.head refl) in same_order x y (to x) (to y) k.0 k.1 (ap to)

-- new starts
agree_of :
    (s g : List ℕ) (named : ℕ → ℕ) (w : Front g) (flag : ℕ) (u : flag ≡ checksum_enabled g) (xs ps : List ℕ) → Asc xs → (to : ℕ → ℕ) →
    ((y : ℕ) → Memᴰ y xs → to y ≡ named_by xs ps (content_at y) - 8) → Agree s g named w flag u to xs ps
agree_of s g named w flag u [] ps a to k = _
agree_of s g named w flag u (x ∷ xs) [] a to k = _
agree_of s g named w flag u (x ∷ xs) (p ∷ ps) a to k = (
  k x (mathlib.Core.List.Memᴰ.head refl) ∙ omega (arith, named_first x p xs ps),
  agree_of s g named w flag u xs ps a.1 to (λ y m. k y (mathlib.Core.List.Memᴰ.tail m) ∙ ap (λ (n : ℕ). n - 8) (named_rest x p xs ps y (a.0 y m))),
)

module _ (s : List ℕ) (b : Bytes s) (o : Open s) (ps : List ℕ) (right : plan_right s ps ≡ true) where
  abbrev xs : List ℕ
  xs = kept_starts s

  abbrev e : ℕ
  e = header_end s

  abbrev nm : ℕ → ℕ
  nm = moved_to s ps

  abbrev fr : List ℕ
  fr = g s b o ps

  abbrev flag : ℕ
  flag = checksum_enabled s

  abbrev qs : List (List ℕ)
  qs = squeezed_pieces s ps

  abbrev t : List ℕ
  t = fr ++ joined qs

  wf : Front fr
  wf = g_front s b o ps

  uf : flag ≡ checksum_enabled fr
  uf = g_flag s b o ps

  eights : e % 8 ≡ 0
  eights = header_eights s (length s) o.sound.headed.header

  -- kept records

  kept_member : (x : ℕ) → Memᴰ x xs → Memᴰ x (records s) × (type_at s x ≡ 0 → ⊥)
  unfolding kept_starts is_kept
  kept_member x m = let h = select_member (is_kept s) (records s) m in (h.0, eqb-false _ _ (not_true _ h.1))

  all_kept : (x : ℕ) → Memᴰ x xs → KeptAt s fr nm x
  all_kept x m = let h = kept_member x m in kept_at s b o ps x h.0 h.1

  plan : plan_from s e xs ps ≡ true
  unfolding plan_right
  plan = right

  all_pieces : AllOf Piece qs
  unfolding squeezed_pieces
  all_pieces = all_of s fr nm wf flag uf Piece (λ x k. k.piece) (λ v x p a i n z. gap_piece s fr nm wf flag uf v x p a i n z) e xs ps all_kept plan eights

  formed : WellFormed qs
  formed = well_formed qs all_pieces

  all_rules : (rule : Rule) → AllAlone fr rule qs
  unfolding squeezed_pieces
  all_rules rule =
      all_of s fr nm wf flag uf (λ r. alone fr rule r ≡ true) (λ x k. k.rules rule) (λ v x p a i n z. gap_rules s fr nm wf flag uf v x p a i n z rule) e xs ps
      all_kept plan eights

  nothing_adjoins : nothing_to_join qs ≡ true
  unfolding squeezed_pieces
  nothing_adjoins = none_adjoin s fr nm wf flag uf e xs ps all_kept plan

  -- where they stand

  abbrev to : ℕ → ℕ
  to x = nm (content_at x) - 8

  abbrev piece : ℕ → List ℕ
  piece x = renamed_in s nm (piece_at s x)

  asc : Asc xs
  unfolding kept_starts
  asc = stand_asc s (is_kept s) e (records s) (length s) o.sound.chain

  agree : Agree s fr nm wf flag uf to xs ps
  unfolding moved_to
  agree = agree_of s fr nm wf flag uf xs ps asc to (λ y m. refl)

  range : (c : ℕ) → (nm c % 8 ≡ 0) × (nm c ≤ 16777224)
  unfolding moved_to
  range c = named_range s e xs ps plan (λ x m. (all_kept x m).near) c

  zero_named : nm 0 ≡ 0
  unfolding moved_to
  zero_named = named_zero xs ps

  named_to : (x : ℕ) → Memᴰ x xs → nm (content_at x) ≡ content_at (to x)
  unfolding moved_to
  named_to x m = omega (arith, named_found s e xs ps plan x m)

  stand : (kind : ℕ) → (kind ≡ 0 → ⊥) → standing kind (length fr) qs ≡ map (pair to piece) (records_of s kind)
  unfolding squeezed_pieces records_of kept_starts
  stand kind z =
      ap (λ (n : ℕ). standing kind n qs) (g_long s b o ps) ∙ stand_at s fr nm wf flag uf kind z to e xs ps all_kept plan agree
      ∙ ap (map (pair to piece)) (select_kept s kind z (records s))

  records_moved : (kind : ℕ) → (kind ≡ 0 → ⊥) → records_of t kind ≡ map to (records_of s kind)
  records_moved kind z = records_are fr wf qs formed kind ∙ ap (map place_of) (stand kind z) ∙ map_pair to piece (records_of s kind)

  of_kept : (kind : ℕ) → (kind ≡ 0 → ⊥) → (x : ℕ) → Memᴰ x (records_of s kind) → Memᴰ x xs
  unfolding kept_starts is_kept
  of_kept kind z x m =
      let h = of_type s kind m in
      member_select (is_kept s) (records s) h.0 (ap not (ne_eqb (type_at s x) 0 (λ y. z (sym h.1 ∙ y))))

  ok_at : (kind x : ℕ) → Memᴰ x (records_of s kind) → record_ok s x ≡ true
  unfolding records
  ok_at kind x m = starts_ok s x (header_end s) (of_type s kind m).0

  placed_at : (kind : ℕ) → (kind ≡ 0 → ⊥) → (x : ℕ) → Memᴰ x (records_of s kind) → Placed t (to x) (piece x)
  placed_at kind z x m =
      let n : Memᴰ (pair to piece x) (standing kind (length fr) qs) = rw (stand kind z) (pair_member to piece (records_of s kind) m) in
      (stands t fr qs refl formed kind {p = pair to piece x} n).placed

  type_at_lem : (kind x : ℕ) → Memᴰ x (records_of s kind) → type_at (piece_at s x) 0 ≡ kind
  type_at_lem kind x m = piece_type s x (ok_at kind x m) ∙ (of_type s kind m).1

  same_kept : (kind : ℕ) → (kind ≡ 0 → ⊥) → (kind ≡ 5 → ⊥) → (kind ≡ 4 → ⊥) → (x : ℕ) → Memᴰ x (records_of s kind) → SameRecord s x t (to x)
  same_kept kind z y w x m =
      let i = ok_at kind x m in
      let h = of_type s kind m in
      let k = type_at_lem kind x m in
      let q : piece x ≡ piece_at s x =
      as_it_was s b o ps x h.0 (λ n. z (sym h.1 ∙ n)) (ne_eqb _ 5 (λ n. y (sym k ∙ n))) (ne_eqb _ 4 (λ n. w (sym k ∙ n))) in
      placed_same (piece_placed s x i) (rw q at (placed_at kind z x m)) (piece_ok s x i) (piece_length s x i ∙ sym (piece_long s x i))

  -- the header

  long : 288 ≤ length fr
  long = front_long wf []

  field : (w at : ℕ) → at + w ≤ 284 → number_at w t at ≡ number_at w (G s b o ps) at
  field w at h =
      let l = long in
      number_before w fr (joined qs) at (omega arith)
      ∙ seal_number s (f s b o ps) (G s b o ps) (parts s b o ps).front (ends s b o ps) (held s b o ps) w at (omega (arith, f_long s b o ps))

  field_64 : number_at 8 (G s b o ps) 64 ≡ nm (metadata_reference s)
  unfolding squeezed_fields
  field_64 =
      let n = bytes_length 8 (nm (metadata_reference s)) in
      put_aside _ 80 (bytes_of 8 (nm (tile_directory_reference s))) 8 64 (inl (omega arith))
      ∙ put_number 8 (nm (metadata_reference s)) (f s b o ps) 64 (omega (arith, f_long s b o ps)) (omega (arith, (range (metadata_reference s)).1))

  field_80 : number_at 8 (G s b o ps) 80 ≡ nm (tile_directory_reference s)
  unfolding squeezed_fields
  field_80 = put_number 8 (nm (tile_directory_reference s)) _ 80 (omega (arith, f_long s b o ps, length_put (f s b o ps) 64 (bytes_of 8 (nm (metadata_reference s))))) (omega (arith, (range (tile_directory_reference s)).1))

  field_low : (at : ℕ) → at + 8 ≤ 64 → number_at 8 t at ≡ number_at 8 s at
  unfolding squeezed_fields
  field_low at h =
      field 8 at (omega arith) ∙ put_aside _ 80 (bytes_of 8 (nm (tile_directory_reference s))) 8 at (inl (omega arith))
      ∙ put_aside (f s b o ps) 64 (bytes_of 8 (nm (metadata_reference s))) 8 at (inl (omega arith)) ∙ parted_number (parts s b o ps) 8 at (omega arith)

  refers_tiles : tile_directory_reference t ≡ nm (tile_directory_reference s)
  refers_tiles = field 8 80 (omega arith) ∙ field_80

  refers_metadata : metadata_reference t ≡ nm (metadata_reference s)
  refers_metadata = field 8 64 (omega arith) ∙ field_64

  judged : SameJudged s t
  judged =
      judged_trans (parts s b o ps).judged
      (judged_trans (seal_judged s (f s b o ps) (G s b o ps) (parts s b o ps).front (ends s b o ps) (held s b o ps)) (front_judged wf (joined qs)))

  -- the tile directory

  tile_right_lem : tile_directory_right s ≡ true
  tile_right_lem = o.sound.tile_directory

  one : OneToOne s
  unfolding tile_directory_right
  one = let a = means _ tile_right_lem in one_to_one s a.1.1.1.1.1.0 a.1.1.1.1.1.1.0 a.1.1.1.0

  abbrev Tiles : Type 0
  Tiles = (tile_directory_right t ≡ true) × (directory_full t ≡ true)

  tiles_at_lem : (d : ℕ) → Memᴰ d (records_of s 5) → content_at d ≡ tile_directory_reference s → Tiles
  tiles_at_lem d m h =
      let i = ok_at 5 d m in
      let y = of_type s 5 m in
      let x = of_kept 5 (λ z. omega arith) d m in
      let l = ok_means s d i in
      let q : piece d ≡ tiles_renamed s nm (piece_at s d) = as_tiles s b o ps d y.0 (λ n. omega (arith, y.1)) (eq-eqb _ 5 (type_at_lem 5 d m)) in
      let k : FormMoves s t (piece_at s d) d (to d) to nm = record {
        judged = judged;
        first = piece_placed s d i;
        second = rw q at (placed_at 5 (λ z. omega arith) d m);
        refers = sym h;
        refers_too = refers_tiles ∙ ap nm (sym h) ∙ named_to d x;
        there = refl;
        directories = records_moved 5 (λ z. omega arith);
        stated = piece_length s d i ∙ sym (piece_long s d i);
        least = omega (arith, l.long, piece_long s d i);
        eights = λ c. (range c).0;
        small = λ c. omega (arith, (range c).1);
        right = tile_right_lem;
        full = o.full;
      } in
      let v = tiles_moved s t to nm (record {
        count = judged_count s t judged;
        records = records_moved 2 (λ z. omega arith);
        index = λ z n. sym (index_same (same_kept 2 (λ j. omega arith) (λ j. omega arith) (λ j. omega arith) z n));
        reference = reference_same k;
        agree = λ z n. named_to z (of_kept 2 (λ j. omega arith) z n);
        zero = zero_named;
      }) one in
      (form_moved k v.0 v.1, full_same k)

  tiles_right : Tiles
  unfolding tile_directory_right refers_to
  tiles_right =
      some_member Tiles (λ x. eqb (content_at x) (tile_directory_reference s)) (records_of s 5) (means _ tile_right_lem).0 (λ d m h. tiles_at_lem d m (eqb-true _ _ h))

  -- the metadata directory

  metadata_right_s : metadata_directory_right s ≡ true
  metadata_right_s = o.sound.metadata_directory_lem

  record_right : (x : ℕ) → Memᴰ x (records_of s 1) → metadata_right s x ≡ true
  unfolding body_right
  record_right x m = let h = of_type s 1 m in rw h.1 at (o.sound.bodies h.0)

  -- entries that are the old ones with new positions, and a directory that fits
  record Entries : Type 0 where
    entries : metadata_entries t ≡ map (renamed nm) (metadata_entries s)
    fits : metadata_fits t ≡ true
    refers : refers_or_zero t 4 (metadata_reference t) ≡ true
    others : no_other t 4 (metadata_reference t) ≡ true

  none_listed : (l : List ℕ) → every (λ x. eqb (content_at x) 0) l ≡ true → l ≡ []
  unfolding every
  none_listed [] h = refl
  none_listed (x ∷ l) h = let z = eqb-true (content_at x) 0 (means _ h).0 in absurd (omega arith)

  zero_entries : metadata_reference s ≡ 0 → Entries
  unfolding metadata_entries metadata_count entry_count metadata_fits refers_or_zero no_other metadata_directory_right below every
  zero_entries z =
      let w : metadata_reference t ≡ 0 = refers_metadata ∙ ap nm z ∙ zero_named in
      let n : records_of s 4 ≡ [] = none_listed (records_of s 4) (rw z at (means _ metadata_right_s).1.0) in
      record {
        entries = rw (z, w);
        fits = rw w;
        refers = rw w;
        others = rw (records_moved 4 (λ y. omega arith), n);
      }

  or_second : (a c : Bool) → c ≡ true → (a || c) ≡ true
  or_second true c h = refl
  or_second false c h = h

  refers_here : (d : ℕ) → Memᴰ d (records_of s 4) → metadata_reference t ≡ content_at (to d) → refers_or_zero t 4 (metadata_reference t) ≡ true
  unfolding refers_or_zero refers_to
  refers_here d m h =
      let k = records_moved 4 (λ y. omega arith) in
      let n : Memᴰ (to d) (records_of t 4) = rw k (map_member to (records_of s 4) m) in
      or_second (eqb (metadata_reference t) 0) _ (member_some (λ x. eqb (content_at x) (metadata_reference t)) (records_of t 4) n (eq-eqb (content_at (to d)) (metadata_reference t) (sym h)))

  others_here : (d : ℕ) → content_at d ≡ metadata_reference s → metadata_reference t ≡ content_at (to d) → no_other s 4 (metadata_reference s) ≡ true → no_other t 4 (metadata_reference t) ≡ true
  unfolding no_other
  others_here d h r a =
      member_every (λ x. eqb (content_at x) (metadata_reference t)) (records_of t 4)
      (λ y m.
      member_map to (records_of s 4) (rw (records_moved 4 (λ z. omega arith)) at m)
      (λ x i q.
      let k : content_at x ≡ metadata_reference s = eqb-true (content_at x) (metadata_reference s) (every_member _ _ a i) in
      let u : x ≡ d = omega arith in
      eq-eqb (content_at y) (metadata_reference t) (ap content_at (q ∙ ap to u) ∙ sym r)))

  some_entries : (d : ℕ) → Memᴰ d (records_of s 4) → content_at d ≡ metadata_reference s → Entries
  unfolding refers_or_zero refers_to no_other metadata_directory_right
  some_entries d m h =
      let i = ok_at 4 d m in
      let y = of_type s 4 m in
      let x = of_kept 4 (λ z. omega arith) d m in
      let l = ok_means s d i in
      let j = type_at_lem 4 d m in
      let q : piece d ≡ metadata_renamed s nm (piece_at s d) =
      as_metadata s b o ps d y.0 (λ n. omega (arith, y.1)) (ne_eqb (type_at (piece_at s d) 0) 5 (λ n. omega (arith, j))) (eq-eqb (type_at (piece_at s d) 0) 4 j) in
      let refers_too : metadata_reference t ≡ content_at (to d) = refers_metadata ∙ ap nm (sym h) ∙ named_to d x in
      let a = means _ metadata_right_s in
      let k : DirectoryMoves s t (piece_at s d) d (to d) nm = record {
        first = piece_placed s d i;
        second = rw q at (placed_at 4 (λ z. omega arith) d m);
        refers = sym h;
        refers_too = refers_too;
        stated = piece_length s d i ∙ sym (piece_long s d i);
        long = omega (arith, l.long, piece_long s d i);
        small = λ c. omega (arith, (range c).1);
        fits = a.1.1.0;
      } in
      record {
        entries = entries_moved k;
        fits = fits_moved k;
        refers = refers_here d m refers_too;
        others = others_here d h refers_too a.1.0;
      }

  entries_here : Entries
  unfolding metadata_directory_right refers_or_zero refers_to
  entries_here = go (eqb (metadata_reference s) 0) refl (means _ metadata_right_s).0
    where
      go : (c : Bool) → eqb (metadata_reference s) 0 ≡ c → (c || some (λ x. eqb (content_at x) (metadata_reference s)) (records_of s 4)) ≡ true → Entries
      go true i h = zero_entries (eqb-true _ _ i)
      go false i h = some_member Entries (λ x. eqb (content_at x) (metadata_reference s)) (records_of s 4) h (λ d m k. some_entries d m (eqb-true _ _ k))

  metadata_right_lem : metadata_directory_right t ≡ true
  unfolding metadata_directory_right
  metadata_right_lem =
      let a = means _ metadata_right_s in
      let n = entries_here in
      let k = moves_keep s t to nm (record {
        records = records_moved 1 (λ z. omega arith);
        record_same = same_kept 1 (λ z. omega arith) (λ z. omega arith) (λ z. omega arith);
        record_right = record_right;
        agree = λ x m. named_to x (of_kept 1 (λ z. omega arith) x m);
        entries = n.entries;
      }) a.1.1.1.0 a.1.1.1.1.0 a.1.1.1.1.1.0 in
      sym (yes _ (n.refers, (n.others, (n.fits, (k.0, (k.1.0, (k.1.1, tt)))))))

  -- all of it

  length_is : length t ≡ planned_end s ps
  unfolding planned_end squeezed_pieces
  length_is = length-append fr (joined qs) ∙ ap (λ (n : ℕ). n + length (joined qs)) (g_long s b o ps) ∙ ends_at s fr nm wf flag uf e xs ps all_kept plan

  module _ (short : length t ≤ 16777216) where
    sound_t : Sound t
    sound_t =
        made_sound fr qs wf formed (judged_headed s t (length s) (length t) o.sound.headed judged judged.in_second short)
        (seal_checksum s (f s b o ps) (G s b o ps) (parts s b o ps).front (ends s b o ps) (held s b o ps) (parts s b o ps).header.flag (G-bytes s b o ps) (joined qs))
        all_rules tiles_right.0 metadata_right_lem

    still_opened : closed t ≡ false
    unfolding closed
    still_opened = rw (field_low 48 (omega arith)) o.opened

    pub open_moved : Open t
    unfolding pieces
    open_moved =
        record {
          sound = sound_t;
          opened = still_opened;
          full = tiles_right.1;
          no_reference = field_low 56 (omega arith) ∙ o.no_reference;
          no_directory = records_moved 3 (λ z. omega arith) ∙ ap (map to) o.no_directory;
          none_adjoin = ap nothing_to_join (pieces_are fr wf qs formed) ∙ nothing_adjoins;
        }

  -- the tiles, and the bytes of tile and metadata records

  as_was : (kind : ℕ) → (kind ≡ 0 → ⊥) → (kind ≡ 5 → ⊥) → (kind ≡ 4 → ⊥) → (x : ℕ) → Memᴰ x (records_of s kind) → piece x ≡ piece_at s x
  as_was kind z y w x m =
      let h = of_type s kind m in
      let k = type_at_lem kind x m in
      as_it_was s b o ps x h.0 (λ n. z (sym h.1 ∙ n)) (ne_eqb _ 5 (λ n. y (sym k ∙ n))) (ne_eqb _ 4 (λ n. w (sym k ∙ n)))

  old : (kind : ℕ) → standing kind e (pieces s) ≡ map (pair (λ x. x) (piece_at s)) (records_of s kind)
  unfolding pieces records_of
  old kind = stand_old s kind e (records s) (length s) o.sound.chain

  tiles_kept : (j : ℕ) → tiles_of t j ≡ tiles_of s j
  tiles_kept j =
      let p = parts s b o ps in
      let n = element_count fr in
      tiles_stand fr wf qs formed (all_rules Body) j
      ∙ ap (held_in n j) (stand 2 (λ z. omega arith))
      ∙ held_places n j to piece (piece_at s) (records_of s 2) (as_was 2 (λ z. omega arith) (λ z. omega arith) (λ z. omega arith))
      ∙ ap (held_in n j) (sym (old 2))
      ∙ ap₂ (λ (i k : ℕ). held_in i j (standing 2 k (pieces s))) (sym (g_header s b o ps).count) (ends s b o ps)
      ∙ sym (tiles_stand (f s b o ps) p.front (pieces s) p.formed (parted_alone p Body) j)
      ∙ ap (λ (l : List ℕ). tiles_of l j) (sym p.whole)

  bytes_kept : (kind : ℕ) → (kind ≡ 0 → ⊥) → (kind ≡ 5 → ⊥) → (kind ≡ 4 → ⊥) → bytes_standing kind t ≡ bytes_standing kind s
  unfolding bytes_standing standing_of
  bytes_kept kind z y w =
      ap₂ (λ (n : ℕ) (l : List (List ℕ)). map bytes_in (standing kind n l)) (front_end wf (joined qs)) (pieces_are fr wf qs formed)
      ∙ ap (map bytes_in) (stand kind z)
      ∙ same_bytes_lem to piece (piece_at s) (records_of s kind) (as_was kind z y w)
      ∙ ap (map bytes_in) (sym (old kind))

  -- it is no longer than it was
  end_most :
      (e : ℕ) (ys qs : List ℕ) → plan_from s e ys qs ≡ true → ((x : ℕ) → Memᴰ x ys → x + length_at s x ≤ length s) → e ≤ length s → end_from s e ys qs ≤ length s
  unfolding end_from plan_from
  end_most e [] qs h n l = l
  end_most e (x ∷ ys) [] h n l = l
  end_most e (x ∷ ys) (p ∷ qs) h n l =
      let y = step s e x p ys qs h in
      end_most (p + length_at s x) ys qs y.rest (λ z m. n z (mathlib.Core.List.Memᴰ.tail m)) (omega (arith, y.start.not_up, n x (mathlib.Core.List.Memᴰ.head refl)))

  shorter : length t ≤ length s
  unfolding planned_end kept_starts records
  shorter =
      let r = sound_range s (records s) o.sound in
      let h = end_most e xs ps plan (λ x m. (ok_means s x (starts_ok s x (header_end s) (kept_member x m).0)).inside) r.header_inside in
      omega (arith, length_is)

  unset : SameUnset s t
  unset = page_unset (parts s b o ps) (G s b o ps) (held s b o ps) (joined qs)

  tiles_alike : bytes_standing 2 t ≡ bytes_standing 2 s
  tiles_alike = bytes_kept 2 (λ z. omega arith) (λ z. omega arith) (λ z. omega arith)

  follows : Follows s t (λ j. false) (tiles_of s)
  follows =
      record {
        header = unset;
        metadata = bytes_kept 1 (λ z. omega arith) (λ z. omega arith) (λ z. omega arith);
        records = λ j n. tile_alike s t tiles_alike j;
        map_of = tiles_kept;
      }

  up : (x y : ℕ) → Memᴰ x xs → Memᴰ y xs → x < y → to x < to y
  unfolding moved_to
  up x y m n l = omega (arith, named_up s e xs ps asc plan (kept_long s) x y m n l, named_found s e xs ps plan x m)

  abbrev tiles_at : ℕ → List ℕ
  tiles_at j = select (λ x. eqb (tile_index (piece_at s x) 0) j) (records_of s 2)

  tile_now : (j : ℕ) → record_of_tile t j ≡ map (pair to (piece_at s)) (tiles_at j)
  unfolding record_of_tile standing_of
  tile_now j =
      ap₂ (λ (n : ℕ) (l : List (List ℕ)). of_tile j (standing 2 n l)) (front_end wf (joined qs)) (pieces_are fr wf qs formed)
      ∙ ap (of_tile j) (stand 2 (λ z. omega arith))
      ∙ of_tile_pairs j to piece (piece_at s) (records_of s 2) (as_was 2 (λ z. omega arith) (λ z. omega arith) (λ z. omega arith))

  tile_was : (j : ℕ) → record_of_tile s j ≡ map (pair (λ x. x) (piece_at s)) (tiles_at j)
  unfolding record_of_tile standing_of
  tile_was j = ap (of_tile j) (old 2) ∙ of_tile_pairs j (λ x. x) (piece_at s) (piece_at s) (records_of s 2) (λ x m. refl)

  of_tiles : (j x : ℕ) → Memᴰ x (tiles_at j) → Memᴰ x xs
  of_tiles j x m = of_kept 2 (λ z. omega arith) x (select_member _ (records_of s 2) m).0

  order_kept : (i j : ℕ) → stands_before t i j ≡ stands_before s i j
  unfolding stands_before
  order_kept i j =
      ap₂ first_before (tile_now i) (tile_now j)
      ∙ before_same to (piece_at s) (tiles_at i) (tiles_at j) (λ x y m n. (up x y (of_tiles i x m) (of_tiles j y n), up y x (of_tiles j y n) (of_tiles i x m)))
      ∙ ap₂ first_before (sym (tile_was i)) (sym (tile_was j))

  page_is : squeezed_page s ps ≡ t
  unfolding squeezed_page
  page_is = refl

  last_is : (k : ℕ) → length xs ≡ suc k → planned_end s ps ≡ end_of s xs ps k
  unfolding planned_end
  last_is k l = last_end s e xs ps plan k l

  pub keeps : SqueezedKeeps s ps
  keeps =
      let r = sound_range s (records s) o.sound in
      record {
        open_page_lem = rw page_is (open_moved (omega (arith, shorter, r.file)));
        long = ap length page_is ∙ length_is;
        last = λ k l. ap length page_is ∙ length_is ∙ last_is k l;
        shorter = omega (arith, shorter, ap length page_is);
        follows = rw page_is follows;
        judged = rw page_is judged;
        time = ap time_opened page_is ∙ field_low 48 (omega arith);
        modified = ap time_modified page_is ∙ field_low 40 (omega arith);
        tile_bytes_lem = ap (bytes_standing 2) page_is ∙ tiles_alike;
      }

  pub free_moved : records_of t 0 ≡ map place_of (standing 0 e qs)
  free_moved = records_are fr wf qs formed 0 ∙ ap (λ (n : ℕ). map place_of (standing 0 n qs)) (g_long s b o ps)

  pub gaps_stand : standing_of 0 (squeezed_page s ps) ≡ map (zeroed_gap flag) (plan_gaps s ps)
  unfolding standing_of squeezed_pieces plan_gaps
  gaps_stand =
      ap (λ (l : List ℕ). standing 0 (header_end l) (pieces l)) page_is
      ∙ ap₂ (λ (n : ℕ) (l : List (List ℕ)). standing 0 n l) (front_end wf (joined qs)) (pieces_are fr wf qs formed)
      ∙ ap (λ (n : ℕ). standing 0 n qs) (g_long s b o ps)
      ∙ free_at s fr nm wf flag uf e xs ps all_kept plan

  pub starts_stand : kept_standing_of (squeezed_page s ps) ≡ moved_records (moved_to s ps) s (kept_starts s) ps
  unfolding kept_standing_of squeezed_pieces
  starts_stand =
      ap (λ (l : List ℕ). kept_standing (header_end l) (pieces l)) page_is
      ∙ ap₂ kept_standing (front_end wf (joined qs)) (pieces_are fr wf qs formed)
      ∙ ap (λ (n : ℕ). kept_standing n qs) (g_long s b o ps)
      ∙ starts_at s fr nm wf flag uf e xs ps all_kept plan

  pub order_same : (i j : ℕ) → stands_before (squeezed_page s ps) i j ≡ stands_before s i j
  order_same i j = ap (λ (l : List ℕ). stands_before l i j) page_is ∙ order_kept i j

pub squeezed_open : SqueezedOpen
squeezed_open s b o ps right = keeps s b o ps right

pub squeezed_stands : SqueezedStands
squeezed_stands s b o ps right = starts_stand s b o ps right

pub squeezed_order : SqueezedOrder
squeezed_order s b o ps right i j = order_same s b o ps right i j

pub squeezed_free : SqueezedFree
squeezed_free s b o ps right = gaps_stand s b o ps right

-- the tight plan leaves no gap

tight_none :
    (s g : List ℕ) (named : ℕ → ℕ) (flag e : ℕ) (ys : List ℕ) → ((x : ℕ) → Memᴰ x ys → KeptAt s g named x) →
    standing 0 e (squeezed_from flag named s e ys (tight_from s e ys)) ≡ []
unfolding squeezed_from tight_from standing left_over
tight_none s g named flag e [] k = refl
tight_none s g named flag e (x ∷ ys) k =
    let i : e - e ≡ 0 = omega arith in
    let o = k x (mathlib.Core.List.Memᴰ.head refl) in
    rw (eq-eqb (e - e) 0 i)
    (standing_other 0 e (renamed_in s named (piece_at s x)) (squeezed_from flag named s (e + length_at s x) ys (tight_from s (e + length_at s x) ys)) (λ z. o.kept (sym o.type ∙ z))
    ∙ ap (λ (n : ℕ). standing 0 (e + n) (squeezed_from flag named s (e + length_at s x) ys (tight_from s (e + length_at s x) ys))) o.long
    ∙ tight_none s g named flag (e + length_at s x) ys (λ y m. k y (mathlib.Core.List.Memᴰ.tail m)))

pub tight_free : TightFree
unfolding squeezed_pieces tight_plan
tight_free s b o =
    let ps = tight_plan s in
    let r = tight_accepted s o in
    ap (λ (l : List ℕ). records_of l 0) (page_is s b o ps r) ∙ free_moved s b o ps r
    ∙ ap (map place_of) (tight_none s (g s b o ps) (moved_to s ps) (checksum_enabled s) (header_end s) (kept_starts s) (all_kept s b o ps r))
