-- A page that was open for writing is accepted once it is closed, and keeps its tiles. Assumes nothing.
use Prim.Native.Nat.{ℕ, ◌+◌, ◌≤◌, ◌<◌}
use mathlib.Core.Path.{◌≡◌, refl, sym, ap, ◌∙◌}
use mathlib.Core.List.{List, [], ◌∷◌, ◌++◌, map, append_assoc, Memᴰ}
use mathlib.Core.Logic.{inl, inr}
use mathlib.Core.Bool.{Bool, true, false}
use native.Mathlib.Omega.{arith}
use lib.ListN.{length, take, length-append}
use Rattle.wire.specs.Bytes.{Bytes, number_at, bytes_of, put, zeros}
use Rattle.wire.proofs.TestLaws.{means, yes, fails}
use Rattle.wire.proofs.ByteLaws.{bytes_length, bytes_take, bytes_of_lem, zeros_length, zeros_bytes}
use Rattle.wire.proofs.PutLaws.{length_put, put_aside, put_number, bytes_put}
use Rattle.wire.proofs.PlaceLaws.{Placed, placed_self}
use Rattle.record.specs.Record.{type_at, content_at}
use Rattle.record.specs.Chain.{header_end, records, records_of, joined, WellFormed}
use Rattle.record.proofs.ChainLaws.{ok_means, starts_ok}
use Rattle.record.proofs.FindLaws.{of_type}
use Rattle.header.specs.Fields.{checksum_enabled, file_space_reference}
use Rattle.check_header.specs.Stages.{closed}
use Rattle.check_records.specs.declared.Rule.{Rule}
use Rattle.check_records.specs.declared.Rule.TheVariants.{Checksum, Body}
use Rattle.check_lists.specs.FileSpace.{file_space_right}
use Rattle.check_lists.proofs.EmptyLaws.{space_empty}
use Rattle.page_check.proofs.GivenLaws.{sound_range}
use Rattle.written_records.specs.Pieces.{record_of}
use Rattle.written_records.proofs.PieceLaws.{placed_kind}
use Rattle.pieces.specs.Pieces.{pieces}
use Rattle.pieces.specs.Standing.{standing, place_of}
use Rattle.pieces.proofs.FreeingLaws.{standing_other}
use Rattle.alone.specs.Alone.{alone, AllAlone}
use Rattle.alone.specs.Edited.{Piece}
use Rattle.alone.proofs.HeaderLaws.{front_long}
use Rattle.alone.proofs.MovedLaws.{length_same}
use Rattle.alone.proofs.FreeLaws.{body_unasked}
use Rattle.writable.specs.Writable.{Open}
use Rattle.writable.specs.Parts.{Parted}
use Rattle.writable.proofs.PartLaws.{sound_parted}
use Rattle.correct.specs.Front.{sealed_front}
use Rattle.correct.specs.Closing.{free_list, file_space_record, any_free, closed_more, closed_fields, closed_reference, closed_front, closed_page}
use Rattle.page_laws.proofs.FrontLaws.{parted_number, FieldsSet, set_none, set_field, put_zeros}
use Rattle.written_rules.proofs.RecordLaws.{new_piece, new_checksum}
use Rattle.page_laws.proofs.MoreLaws.{joined_append}
use Rattle.page_laws.proofs.KeptLaws.{kept_places, kept_follows}
use Rattle.closed_pages.specs.ClosedPages.{ClosedKeeps, ClosedAccepted}
use Rattle.closed_pages.proofs.FreeListLaws.{list_bytes, Holds}
use Rattle.closed_pages.proofs.BehindLaws.{behind_front, behind_flag, behind_start, behind_bytes, behind_number, behind_records, behind_same, behind_new, behind_sound, behind_kept, behind_tiles}
use Rattle.closed_pages.proofs.SpaceLaws.{Listing, listing_right}

module _ (s : List ℕ) (t : ℕ) (b : Bytes s) (o : Open s) (small : t < 18446744073709551616) where
  abbrev f : List ℕ
  f = take (header_end s) s

  parts : Parted s f (pieces s)
  parts = sound_parted s o.sound

  least : 288 ≤ length f
  least = front_long parts.front []

  -- the fields

  fields_set_lem : FieldsSet 64 f (closed_fields s t)
  unfolding closed_fields
  fields_set_lem =
      let l = least in
      set_field (set_field (set_none f (omega arith) (omega arith)) 40 (bytes_of 8 t) (bytes_length 8 t) (omega arith) (omega arith) (inl (omega arith))) 48 (zeros 8)
      (zeros_length 8) (omega arith) (omega arith) (inl (omega arith))

  fields_bytes : Bytes (closed_fields s t)
  unfolding closed_fields
  fields_bytes = bytes_put 48 (bytes_put 40 (bytes_take (header_end s) b) (bytes_of_lem 8 t)) (zeros_bytes 8)

  fields_zero : number_at 8 (closed_fields s t) 48 ≡ 0
  unfolding closed_fields
  fields_zero = let l = least in put_zeros 8 _ 48 (simp length_put (omega arith)) (omega arith)

  fields_beside : (at : ℕ) → 56 ≤ at → number_at 8 (closed_fields s t) at ≡ number_at 8 f at
  unfolding closed_fields
  fields_beside at h =
      put_aside _ 48 (zeros 8) 8 at (inr (omega (arith, zeros_length 8))) ∙ put_aside f 40 (bytes_of 8 t) 8 at (inr (omega (arith, bytes_length 8 t)))

  fields_time : number_at 8 (closed_fields s t) 40 ≡ t
  unfolding closed_fields
  fields_time = let l = least in put_aside _ 48 (zeros 8) 8 40 (inl (omega arith)) ∙ put_number 8 t f 40 (omega arith) small

  no_reference : file_space_reference f ≡ 0
  no_reference = parted_number parts 8 56 (omega arith) ∙ o.no_reference

  is_closed : (u : List ℕ) → number_at 8 u 48 ≡ 0 → closed u ≡ true
  unfolding closed
  is_closed u e = sym (yes _ (e, tt))

  -- the page is closed by those fields, with a file_space directory behind it or none: it then rests on the file_space rules
  pub record Closing (g : List ℕ) (more : List (List ℕ)) : Type 0 where
    pub is : closed_page s t ≡ sealed_front s g ++ joined (pieces s ++ more)
    pub set : FieldsSet 64 f g
    pub bytes : Bytes g
    pub opened : number_at 8 g 48 ≡ 0
    pub modified : number_at 8 g 40 ≡ t
    pub beside : (at : ℕ) → 64 ≤ at → number_at 8 g at ≡ number_at 8 f at
    pub formed : WellFormed more
    pub apart : (kind at : ℕ) → (kind ≡ 3 → ⊥) → standing kind at more ≡ []
    pub rules : (rule : Rule) → AllAlone (sealed_front s g) rule more

  closing_keeps :
      {g : List ℕ} {more : List (List ℕ)} → Closing g more → length (closed_page s t) ≤ 16777216 →
      file_space_right (sealed_front s g ++ joined (pieces s ++ more)) ≡ true → ClosedKeeps s t
  closing_keeps {g} {more} c h space =
      let u = sealed_front s g ++ joined (pieces s ++ more) in
      let r : length u ≤ 16777216 = omega (arith, ap length c.is) in
      let m = c.beside 64 (omega arith) in
      let d = c.beside 80 (omega arith) in
      record {
        obeys =
            rw c.is
            (record {
              sound = behind_sound s o g c.set more c.formed c.apart c.bytes r m d c.rules;
              not_opened = is_closed u (behind_number s o g c.set more c.formed c.apart 8 48 (omega arith) ∙ c.opened);
              file_space = space;
            });
        follows = rw c.is (kept_follows (behind_kept s o g c.set more c.formed c.apart) (behind_tiles s o g c.set more c.formed c.apart c.bytes r m d c.rules));
        places = rw c.is (kept_places (behind_kept s o g c.set more c.formed c.apart));
        time = rw c.is (behind_number s o g c.set more c.formed c.apart 8 40 (omega arith) ∙ c.modified);
        reference = rw c.is (behind_number s o g c.set more c.formed c.apart 8 80 (omega arith) ∙ d ∙ parted_number parts 8 80 (omega arith));
        behind = rw c.is (behind_bytes s o g c.set more c.formed c.apart);
      }

  -- without a free record

  nothing : (kind at : ℕ) → standing kind at [] ≡ []
  unfolding standing
  nothing kind at = refl

  module _ (e : any_free s ≡ false) where
    none : records_of s 0 ≡ []
    unfolding any_free
    none = go (records_of s 0) (λ h. fails _ e (h, tt))
      where
        go : (l : List ℕ) → (1 ≤ length l → ⊥) → l ≡ []
        go [] z = refl
        go (x ∷ l) z = absurd (z (omega arith))

    plain_page : closed_page s t ≡ sealed_front s (closed_fields s t) ++ joined (pieces s ++ [])
    unfolding closed_page closed_front closed_reference closed_more
    plain_page = rw e

    plain : Closing (closed_fields s t) []
    plain =
        record {
          is = plain_page;
          set = fields_set_lem;
          bytes = fields_bytes;
          opened = fields_zero;
          modified = fields_time;
          beside = λ at h. fields_beside at (omega arith);
          formed = _;
          apart = λ kind at z. nothing kind at;
          rules = λ rule. _;
        }

    plain_space : file_space_right (sealed_front s (closed_fields s t) ++ joined (pieces s ++ [])) ≡ true
    plain_space =
        let c = plain in
        let g = closed_fields s t in
        space_empty (sealed_front s g ++ joined (pieces s ++ []))
        (behind_number s o g c.set [] c.formed c.apart 8 56 (omega arith) ∙ fields_beside 56 (omega arith) ∙ no_reference)
        (behind_new s o g c.set [] c.formed c.apart o.no_directory ∙ ap (map place_of) (nothing 3 (length s)))
        (sym (behind_records s o g c.set [] c.formed c.apart 0 (λ z. omega arith)) ∙ none)

  -- with one

  abbrev listed_fields : List ℕ
  listed_fields = put (closed_fields s t) 56 (bytes_of 8 (content_at (length s)))

  abbrev v : List ℕ
  v = file_space_record s

  listed_set : FieldsSet 64 f listed_fields
  listed_set = set_field fields_set_lem 56 (bytes_of 8 (content_at (length s))) (bytes_length 8 (content_at (length s))) (omega arith) (omega arith) (inl (omega arith))

  module _ (e : any_free s ≡ true) (h : length (closed_page s t) ≤ 16777216) where
    listed_page : closed_page s t ≡ sealed_front s listed_fields ++ joined (pieces s ++ (v ∷ []))
    unfolding closed_page closed_front closed_reference closed_more
    listed_page = rw e

    some : 1 ≤ length (records_of s 0)
    unfolding any_free
    some = (means _ e).0

    -- the directory by itself

    fits : length v ≤ 16777216
    fits =
        let a = ap length listed_page ∙ length-append (sealed_front s listed_fields) (joined (pieces s ++ (v ∷ []))) in
        let c = ap length (joined_append (pieces s) (v ∷ [])) ∙ length-append (joined (pieces s)) (v ++ []) in
        omega (arith, a, c, length-append v [])

    piece : Piece v
    unfolding file_space_record
    piece = new_piece (checksum_enabled s) 3 (free_list s) (list_bytes s) (omega arith) (omega (arith, fits))

    kind_is : type_at v 0 ≡ 3
    unfolding file_space_record
    kind_is = placed_kind (checksum_enabled s) 3 (free_list s) (placed_self (record_of (checksum_enabled s) 3 (free_list s)))

    apart : (kind at : ℕ) → (kind ≡ 3 → ⊥) → standing kind at (v ∷ []) ≡ []
    apart kind at z = standing_other kind at v [] (λ i. z (sym i ∙ kind_is)) ∙ nothing kind (at + length v)

    here : standing 3 (length s) (v ∷ []) ≡ (length s, v) ∷ []
    unfolding standing
    here = rw kind_is

    formed : WellFormed (v ∷ [])
    formed = ((piece.ok, piece.stated), _)

    checksum_alone : alone (sealed_front s listed_fields) Checksum v ≡ true
    unfolding file_space_record
    checksum_alone =
        new_checksum (checksum_enabled s) 3 (free_list s) (list_bytes s) (omega arith) (omega (arith, fits)) (sealed_front s listed_fields)
        (behind_front s o listed_fields listed_set (v ∷ []) formed apart) (behind_flag s o listed_fields listed_set (v ∷ []) formed apart) (λ z. omega arith)

    body_alone : alone (sealed_front s listed_fields) Body v ≡ true
    body_alone =
        let l = ok_means v 0 piece.ok in
        body_unasked (sealed_front s listed_fields) v (omega (arith, l.long, piece.stated)) (λ z. omega (arith, kind_is)) (λ z. omega (arith, kind_is))

    rules : (rule : Rule) → AllAlone (sealed_front s listed_fields) rule (v ∷ [])
    rules Checksum = (checksum_alone, _)
    rules Body = (body_alone, _)

    listed : Closing listed_fields (v ∷ [])
    listed =
        record {
          is = listed_page;
          set = listed_set;
          bytes = bytes_put 56 fields_bytes (bytes_of_lem 8 (content_at (length s)));
          opened = put_aside (closed_fields s t) 56 (bytes_of 8 (content_at (length s))) 8 48 (inl (omega arith)) ∙ fields_zero;
          modified = put_aside (closed_fields s t) 56 (bytes_of 8 (content_at (length s))) 8 40 (inl (omega arith)) ∙ fields_time;
          beside =
              λ at l.
              put_aside (closed_fields s t) 56 (bytes_of 8 (content_at (length s))) 8 at (inr (omega (arith, bytes_length 8 (content_at (length s)))))
              ∙ fields_beside at (omega arith);
          formed = formed;
          apart = apart;
          rules = rules;
        }

    -- in the page

    abbrev u : List ℕ
    u = sealed_front s listed_fields ++ joined (pieces s ++ (v ∷ []))

    there : Placed u (length s) v
    there =
        record {
          before = sealed_front s listed_fields ++ joined (pieces s);
          behind = [];
          whole = ap (λ (l : List ℕ). sealed_front s listed_fields ++ l) (joined_append (pieces s) (v ∷ [])) ∙ sym (append_assoc (sealed_front s listed_fields) (joined (pieces s)) (v ++ []));
          start = length-append (sealed_front s listed_fields) (joined (pieces s)) ∙ behind_start s o listed_fields listed_set (v ∷ []) formed apart;
        }

    refers : file_space_reference u ≡ content_at (length s)
    refers =
        let l = least in
        let r = (sound_range s (records s) o.sound).file in
        let n = fields_set_lem.long in
        behind_number s o listed_fields listed_set (v ∷ []) formed apart 8 56 (omega arith)
        ∙ put_number 8 (content_at (length s)) (closed_fields s t) 56 (omega arith) (omega arith)

    holds : (x : ℕ) → Memᴰ x (records_of s 0) → Holds s x
    unfolding records
    holds x m =
        let i = ok_means s x (starts_ok s x (header_end s) (of_type s 0 m).0) in
        let r = (sound_range s (records s) o.sound).file in
        (omega (arith, i.inside), omega (arith, i.plain))

    listing : Listing s u (length s)
    listing =
        record {
          there = there;
          reference = refers;
          only = behind_new s o listed_fields listed_set (v ∷ []) formed apart o.no_directory ∙ ap (map place_of) here;
          records = behind_records s o listed_fields listed_set (v ∷ []) formed apart 0 (λ z. omega arith);
          lengths = λ x m. length_same (behind_same s o listed_fields listed_set (v ∷ []) formed apart 0 (λ z. omega arith) x m);
          small = holds;
          some = some;
          room = omega (arith, fits);
        }

  closed_keeps : length (closed_page s t) ≤ 16777216 → ClosedKeeps s t
  closed_keeps h = go (any_free s) refl
    where
      go : (c : Bool) → any_free s ≡ c → ClosedKeeps s t
      go true e = closing_keeps (listed e h) h (listing_right (listing e h))
      go false e = closing_keeps (plain e) h (plain_space e)

pub closed_accepted : ClosedAccepted
closed_accepted s t b o small h = closed_keeps s t b o small h
