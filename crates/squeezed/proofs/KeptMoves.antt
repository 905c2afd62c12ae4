-- A kept record of an open page, with its references changed, behind the new front. Assumes nothing.
use Prim.Native.Nat.{ℕ, ◌≤◌}
use mathlib.Core.Path.{◌≡◌, refl, sym, ap, ◌∙◌}
use mathlib.Core.Logic.{inl, inr, ⊎_elim}
use mathlib.Core.List.Memᴰ
use mathlib.Core.List.{List, [], ◌∷◌, Memᴰ}
use mathlib.Core.Bool.{Bool, true, false}
use native.Mathlib.Omega.{arith}
use lib.ListN.{length, take}
use lib.Dec.{eqb}
use borrow.Author.Tests.{eqb-true}
use Rattle.wire.specs.Bytes.{Bytes, u64_at, Same}
use Rattle.wire.proofs.ByteLaws.{bytes_part, bytes_of_lem, bytes_length, byte_same, number_same, bytes_take}
use Rattle.wire.proofs.PutLaws.{bytes_put}
use Rattle.record.specs.Record.{length_at, type_at, record_ok}
use Rattle.record.specs.Chain.{header_end, records}
use Rattle.record.proofs.ChainLaws.{ok_means, starts_ok}
use Rattle.header.specs.Fields.{checksum_enabled}
use Rattle.check_records.specs.declared.Rule.{Rule}
use Rattle.check_records.specs.declared.Rule.TheVariants.{Checksum, Body}
use Rattle.bodies.specs.ListDirectories.{metadata_entry_at}
use Rattle.check_lists.proofs.MetadataLaws.{first_behind}
use Rattle.page_check.proofs.GivenLaws.{sound_range}
use Rattle.pieces.specs.Pieces.{piece_at, pieces_of, pieces}
use Rattle.pieces.specs.Edits.{resealed, reference_bytes}
use Rattle.pieces.proofs.SplitLaws.{piece_long, piece_length, piece_type, piece_ok}
use Rattle.alone.specs.Alone.{Front, SameHeader, alone}
use Rattle.alone.specs.Edited.{Piece}
use Rattle.alone.proofs.HeaderLaws.{front_long}
use Rattle.alone.proofs.FreeLaws.{body_unasked}
use Rattle.alone.proofs.TouchLaws.{Alike, piece_alike, least, sealed_alike, sealed_checksum}
use Rattle.alone.proofs.PieceLaws.{front_changes}
use Rattle.alone.proofs.StandLaws.{all_member}
use Rattle.writable.specs.Writable.{Open}
use Rattle.writable.specs.Parts.{Parted}
use Rattle.writable.proofs.PartLaws.{sound_parted}
use Rattle.correct.specs.Front.{sealed_front}
use Rattle.page_laws.proofs.PageLaws.{parted_alone}
use Rattle.correct.specs.Renamed.{put_each, reference_in, reference_then, tiles_renamed, entry_in, position_then, metadata_renamed, renamed_in}
use Rattle.correct.specs.Squeezing.{moved_to, squeezed_fields}
use Rattle.squeezed.proofs.PutLaws.{each_length, each_bytes, each_beside}
use Rattle.page_laws.proofs.FrontLaws.{FieldsSet, set_none, set_field, seal_length, seal_front, seal_header}
use Rattle.squeezed.proofs.PieceMoves.{KeptAt}

-- fields put behind a record's first eight bytes, and the record sealed
module _ (at : ℕ → ℕ) (v : ℕ → List ℕ) (n : ℕ) (behind : (i : ℕ) → 8 ≤ at i) (bytes : (i : ℕ) → Bytes (v i)) (flag : ℕ) (r : List ℕ) (p : Piece r) where
  abbrev F : List ℕ
  F = put_each at v n r

  head : Same r F 0 8
  head = each_beside at v r n 0 8 (omega (arith, least flag r p)) (λ i l. inl (behind i))

  alike : Alike F r
  alike =
      record {
        long = each_length at v r n;
        stated = sym (number_same head 4 0 (omega arith) (omega arith));
        type = sym (byte_same head 4 (omega arith) (omega arith));
        bytes = each_bytes at v r p.bytes bytes n;
      }

  put_piece : Piece F
  put_piece = piece_alike F r alike p

  pub set_piece : Piece (resealed flag F)
  set_piece = piece_alike (resealed flag F) F (sealed_alike flag F put_piece) put_piece

  pub set_long : length (resealed flag F) ≡ length r
  set_long = (sealed_alike flag F put_piece).long ∙ alike.long

  pub set_type : type_at (resealed flag F) 0 ≡ type_at r 0
  set_type = (sealed_alike flag F put_piece).type ∙ alike.type

  pub set_rules :
      (g : List ℕ) → Front g → flag ≡ checksum_enabled g → (type_at r 0 ≡ 0 → ⊥) → (type_at r 0 ≡ 1 → ⊥) → (type_at r 0 ≡ 2 → ⊥) → (rule : Rule) →
      alone g rule (resealed flag F) ≡ true
  set_rules g w u a b c Checksum = sealed_checksum flag F put_piece g w u (λ z. a (sym alike.type ∙ z))
  set_rules g w u a b c Body =
      body_unasked g (resealed flag F) (omega (arith, least flag r p, set_long)) (λ z. b (sym set_type ∙ z)) (λ z. c (sym set_type ∙ z))

-- members of the pieces
piece_among : (s : List ℕ) (l : List ℕ) {x : ℕ} → Memᴰ x l → Memᴰ (piece_at s x) (pieces_of s l)
unfolding pieces_of
piece_among s [] m = absurd (Memᴰ.not-nil m)
piece_among s (y ∷ l) m = ⊎_elim (λ e. Memᴰ.head (ap (piece_at s) e)) (λ n. Memᴰ.tail (piece_among s l n)) (Memᴰ.cases_cons m)

module _ (s : List ℕ) (b : Bytes s) (o : Open s) (ps : List ℕ) where
  abbrev pub f : List ℕ
  f = take (header_end s) s

  pub parts : Parted s f (pieces s)
  parts = sound_parted s o.sound

  pub f_long : 288 ≤ length f
  f_long = front_long parts.front []

  abbrev pub named : ℕ → ℕ
  named = moved_to s ps

  abbrev pub G : List ℕ
  G = squeezed_fields s ps

  pub held : FieldsSet 72 f G
  unfolding squeezed_fields
  held =
      set_field
      (set_field (set_none f (omega (arith, f_long)) (omega arith)) 64 _ (bytes_length 8 _) (omega arith) (omega arith) (inl (omega arith)))
      80 _ (bytes_length 8 _) (omega arith) (omega arith) (inr (omega arith))

  pub G-bytes : Bytes G
  unfolding squeezed_fields
  G-bytes = bytes_put 80 (bytes_put 64 (bytes_take (header_end s) b) (bytes_of_lem 8 _)) (bytes_of_lem 8 _)

  abbrev pub g : List ℕ
  g = sealed_front s G

  pub ends : header_end s ≡ length f
  ends = sym parts.ends

  pub g_front : Front g
  g_front = seal_front s f G parts.front ends held

  pub g_long : length g ≡ header_end s
  g_long = seal_length s f G parts.front ends held ∙ parts.ends

  pub g_header : SameHeader f g
  g_header = seal_header s f G parts.front ends held

  pub g_flag : checksum_enabled s ≡ checksum_enabled g
  g_flag = parts.header.flag ∙ g_header.flag

  -- a kept record

  module _ (x : ℕ) (m : Memᴰ x (records s)) (k : type_at s x ≡ 0 → ⊥) where
    ok : record_ok s x ≡ true
    unfolding records
    ok = starts_ok s x (header_end s) m

    abbrev r : List ℕ
    r = piece_at s x

    r_piece : Piece r
    unfolding piece_at
    r_piece = record { ok = piece_ok s x ok; stated = piece_length s x ok ∙ sym (piece_long s x ok); bytes = bytes_part x (length_at s x) b }

    r_rules : (rule : Rule) → alone g rule r ≡ true
    unfolding pieces
    r_rules rule =
        (front_changes f g parts.front g_front g_header rule (r ∷ []) ((r_piece.ok, r_piece.stated), _)
        (all_member (λ q. alone f rule q ≡ true) (pieces s) (parted_alone parts rule) (piece_among s (records s) m), _)).0

    -- what is known of it in any form with its length and its type
    known : (q : List ℕ) → renamed_in s named r ≡ q → length q ≡ length r → type_at q 0 ≡ type_at r 0 → Piece q → ((rule : Rule) → alone g rule q ≡ true) → KeptAt s g named x
    known q e l t p a =
        let i = ok_means s x ok in
        let n = (sound_range s (records s) o.sound).file in
        record {
          long = ap length e ∙ l ∙ piece_long s x ok;
          type = ap (λ (z : List ℕ). type_at z 0) e ∙ t ∙ piece_type s x ok;
          kept = k;
          piece = rw e p;
          rules = λ rule. rw e (a rule);
          eights = i.eights;
          near = omega (arith, i.inside);
        }

    not_kind : (j : ℕ) → (type_at s x ≡ j → ⊥) → type_at r 0 ≡ j → ⊥
    not_kind j z e = z (sym (piece_type s x ok) ∙ e)

    pub as_tiles : eqb (type_at r 0) 5 ≡ true → renamed_in s named r ≡ tiles_renamed s named r
    unfolding renamed_in
    as_tiles e = rw e

    pub as_metadata : eqb (type_at r 0) 5 ≡ false → eqb (type_at r 0) 4 ≡ true → renamed_in s named r ≡ metadata_renamed s named r
    unfolding renamed_in
    as_metadata e h = rw (e, h)

    pub as_it_was : eqb (type_at r 0) 5 ≡ false → eqb (type_at r 0) 4 ≡ false → renamed_in s named r ≡ r
    unfolding renamed_in
    as_it_was e h = rw (e, h)

    first_reference : (i : ℕ) → 8 ≤ reference_in s i
    first_reference i = omega arith

    first_entry : (i : ℕ) → 8 ≤ entry_in s i
    first_entry i = omega (arith, first_behind s i)

    reference_bytes_lem : (i : ℕ) → Bytes (reference_then s named i)
    unfolding reference_bytes
    reference_bytes_lem i = bytes_of_lem _ _

    kept_tiles_lem : eqb (type_at r 0) 5 ≡ true → KeptAt s g named x
    unfolding tiles_renamed
    kept_tiles_lem e =
        let n = eqb-true (type_at r 0) 5 e in
        let flag = checksum_enabled s in
        known _ (as_tiles e) (set_long (reference_in s) (reference_then s named) _ first_reference reference_bytes_lem flag r r_piece)
        (set_type (reference_in s) (reference_then s named) _ first_reference reference_bytes_lem flag r r_piece)
        (set_piece (reference_in s) (reference_then s named) _ first_reference reference_bytes_lem flag r r_piece)
        (set_rules (reference_in s) (reference_then s named) _ first_reference reference_bytes_lem flag r r_piece g g_front g_flag (λ z. omega arith) (λ z. omega arith) (λ z. omega arith))

    kept_metadata : eqb (type_at r 0) 5 ≡ false → eqb (type_at r 0) 4 ≡ true → KeptAt s g named x
    unfolding metadata_renamed
    kept_metadata e h =
        let n = eqb-true (type_at r 0) 4 h in
        let flag = checksum_enabled s in
        let v : (i : ℕ) → Bytes (position_then s named i) = λ i. bytes_of_lem 8 (named (u64_at s (metadata_entry_at s i))) in
        known _ (as_metadata e h) (set_long (entry_in s) (position_then s named) _ first_entry v flag r r_piece)
        (set_type (entry_in s) (position_then s named) _ first_entry v flag r r_piece)
        (set_piece (entry_in s) (position_then s named) _ first_entry v flag r r_piece)
        (set_rules (entry_in s) (position_then s named) _ first_entry v flag r r_piece g g_front g_flag (λ z. omega arith) (λ z. omega arith) (λ z. omega arith))

    pub kept_at : KeptAt s g named x
    kept_at = go (eqb (type_at r 0) 5) refl (eqb (type_at r 0) 4) refl
      where
        go : (c : Bool) → eqb (type_at r 0) 5 ≡ c → (d : Bool) → eqb (type_at r 0) 4 ≡ d → KeptAt s g named x
        go true i d j = kept_tiles_lem i
        go false i true j = kept_metadata i j
        go false i false j = known r (as_it_was i j) refl refl r_piece r_rules
