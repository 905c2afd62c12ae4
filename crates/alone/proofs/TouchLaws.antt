-- A reference changed in a directory of tiles, and its checksum made anew. Assumes nothing.
use Prim.Native.Nat.{ℕ, ◌+◌, ◌*◌, ◌/◌, ◌-◌, ◌≤◌}
use mathlib.Core.Path.{◌≡◌, refl, sym, ap, ◌∙◌}
use mathlib.Core.List.{List, ◌++◌}
use mathlib.Core.Logic.{inl}
use mathlib.Core.Bool.{Bool, true, false}
use native.Mathlib.Omega.{arith}
use lib.ListN.{length}
use lib.Dec.{eqb}
use borrow.Author.Tests.{eqb-true, ne_eqb}
use Rattle.wire.specs.Pick.{pick}
use Rattle.wire.specs.Bytes.{Bytes, part, bytes_of, put}
use Rattle.wire.proofs.ByteLaws.{part_length, bytes_part, bytes_of_lem}
use Rattle.wire.proofs.PutLaws.{length_put, put_aside, put_outside, bytes_put}
use Rattle.wire.proofs.PlaceLaws.{placed_last, placed_inner, placed_number, placed_byte}
use Rattle.record.specs.Record.{length_at, type_at}
use Rattle.record.proofs.ChainLaws.{ok_means, means_ok}
use Rattle.crc32c.specs.Crc.{crc_of}
use Rattle.header.specs.Fields.{checksum_enabled}
use Rattle.bodies.specs.TileDirectory.{reference_size}
use Rattle.check_records.specs.declared.Rule.{Rule}
use Rattle.check_records.specs.declared.Rule.TheVariants.{Checksum, Body}
use Rattle.check_records.specs.Faults.{right_of}
use Rattle.check_records.proofs.RecordLaws.{checksum_placed}
use Rattle.written_records.specs.Pieces.{checksum_for, sealed}
use Rattle.written_records.proofs.SealLaws.{sealed_placed}
use Rattle.pieces.specs.Edits.{resealed, referring, reference_bytes, with_reference}
use Rattle.alone.specs.Alone.{Front, alone}
use Rattle.alone.specs.Edited.{Piece, Touches}
use Rattle.alone.proofs.HeaderLaws.{front_header}
use Rattle.alone.proofs.FreeLaws.{body_unasked}

-- q has the length and the first eight bytes of r
pub record Alike (q r : List ℕ) : Type 0 where
  pub long : length q ≡ length r
  pub stated : length_at q 0 ≡ length_at r 0
  pub type : type_at q 0 ≡ type_at r 0
  pub bytes : Bytes q

pub piece_alike : (q r : List ℕ) → Alike q r → Piece r → Piece q
piece_alike q r a p =
    let o = ok_means r 0 p.ok in
    let n = a.stated in
    let k = a.type in
    record {
      ok = means_ok q 0 (record { long = rw n o.long; plain = rw n o.plain; eights = rw n o.eights; inside = omega (arith, a.long, p.stated); known = rw k o.known });
      stated = n ∙ p.stated ∙ sym a.long;
      bytes = a.bytes;
    }

pub put_alike : (r : List ℕ) (at : ℕ) (w : List ℕ) → 8 ≤ at → Bytes w → Piece r → Alike (put r at w) r
put_alike r at w h b p =
    record {
      long = length_put r at w;
      stated = put_aside r at w 4 0 (inl (omega arith));
      type = sym (put_outside r at w 4 (inl (omega arith)));
      bytes = bytes_put at p.bytes b;
    }

module _ (flag : ℕ) (r : List ℕ) (p : Piece r) where
  pub least : 16 ≤ length r
  least = let o = ok_means r 0 p.ok in omega (arith, o.long, p.stated)

  pub sealed_alike : Alike (resealed flag r) r
  unfolding resealed sealed
  sealed_alike =
      let m = least in
      put_alike r (0 + (length r - 4)) (bytes_of 4 (checksum_for flag (part r 0 (length r - 4)))) (omega arith) (bytes_of_lem 4 _) p

  -- what is sealed keeps stage 7
  pub sealed_checksum : (f : List ℕ) → Front f → flag ≡ checksum_enabled f → (type_at r 0 ≡ 0 → ⊥) → alone f Checksum (resealed flag r) ≡ true
  unfolding alone right_of resealed checksum_for
  sealed_checksum f w u t =
      let a = part r 0 (length r - 4) in
      let here = placed_last f (resealed flag r) refl in
      let m = least in
      let l : length a ≡ length r - 4 = part_length r 0 (length r - 4) (omega arith) in
      let z : length f + 0 ≡ length f = omega arith in
      let n : length_at (f ++ resealed flag r) (length f) ≡ length a + 4 =
      (rw z at (placed_number here 4 0 (omega (arith, sealed_alike.long)))) ∙ sealed_alike.stated ∙ p.stated ∙ omega arith in
      let k : type_at (f ++ resealed flag r) (length f) ≡ type_at r 0 = placed_byte here 4 (omega (arith, sealed_alike.long)) ∙ sealed_alike.type in
      let e : checksum_enabled f ≡ checksum_enabled (f ++ resealed flag r) = (front_header w (resealed flag r)).flag in
      let q = rw z at (placed_inner here (sealed_placed flag r 0 (length r) (omega arith) (omega arith))) in
      checksum_placed a (checksum_for flag a) q (ap (λ (b : ℕ). pick (eqb b 1) (crc_of a) 0) (u ∙ e)) (bytes_part 0 (length r - 4) p.bytes) n (λ i. t (sym k ∙ i))

module _ (f : List ℕ) (front : Front f) (flag : ℕ) (u : flag ≡ checksum_enabled f) (at : ℕ) (w : List ℕ) (h : 8 ≤ at) (b : Bytes w) where
  edited_piece : (r : List ℕ) → Piece r → Piece (put r at w)
  edited_piece r p = piece_alike (put r at w) r (put_alike r at w h b p) p

  again : (r : List ℕ) → Piece r → Alike (resealed flag (put r at w)) (put r at w)
  again r p = sealed_alike flag (put r at w) (edited_piece r p)

  alike : (r : List ℕ) → Piece r → Alike (referring flag at w r) r
  unfolding referring
  alike r p = go (eqb (type_at r 0) 5)
    where
      go : (c : Bool) → Alike (pick c (resealed flag (put r at w)) r) r
      go true =
          let i = again r p in
          let j = put_alike r at w h b p in
          record { long = i.long ∙ j.long; stated = i.stated ∙ j.stated; type = i.type ∙ j.type; bytes = i.bytes }
      go false = record { long = refl; stated = refl; type = refl; bytes = p.bytes }

  keeps : (r : List ℕ) → Piece r → (rule : Rule) → alone f rule r ≡ true → alone f rule (referring flag at w r) ≡ true
  unfolding referring
  keeps r p rule a = go (eqb (type_at r 0) 5) refl rule a
    where
      go : (c : Bool) → eqb (type_at r 0) 5 ≡ c → (rule : Rule) → alone f rule r ≡ true → alone f rule (pick c (resealed flag (put r at w)) r) ≡ true
      go false e rule a = a
      go true e Checksum a =
          let five : type_at r 0 ≡ 5 = eqb-true _ _ e in
          sealed_checksum flag (put r at w) (edited_piece r p) f front u (λ i. omega (arith, (put_alike r at w h b p).type))
      go true e Body a =
          let five : type_at r 0 ≡ 5 = eqb-true _ _ e in
          let l = least flag r p in
          let i = again r p in
          let j = put_alike r at w h b p in
          body_unasked f (resealed flag (put r at w)) (omega (arith, i.long, j.long)) (λ k. omega (arith, i.type, j.type)) (λ k. omega (arith, i.type, j.type))

  others : (r : List ℕ) → (type_at r 0 ≡ 5 → ⊥) → referring flag at w r ≡ r
  unfolding referring
  others r n = rw (ne_eqb (type_at r 0) 5 n)

  pub referring_touches : Touches f Piece 5 (referring flag at w)
  referring_touches =
      record {
        others = others;
        long = λ r p. (alike r p).long;
        type = λ r p. (alike r p).type;
        piece = λ r p. piece_alike (referring flag at w r) r (alike r p) p;
        rules = keeps;
      }

-- so does a reference
pub reference_touches :
    (f : List ℕ) → Front f → (s : List ℕ) → checksum_enabled s ≡ checksum_enabled f → (i content : ℕ) → Touches f Piece 5 (with_reference s i content)
unfolding with_reference reference_bytes
reference_touches f w s u i content =
    referring_touches f w (checksum_enabled s) u (32 + reference_size s * i)
    (bytes_of (reference_size s) (pick (eqb (reference_size s) 8) content (content / 8))) (omega arith) (bytes_of_lem (reference_size s) _)
