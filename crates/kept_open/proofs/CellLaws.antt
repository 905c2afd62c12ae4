-- The cell bytes of a plain tile record put over: its sections stay, and hold the new ones. Assumes nothing.
use Prim.Native.Nat.{ℕ, zero, suc, ◌+◌, ◌-◌, ◌≤◌, ◌<◌}
use mathlib.Core.Path.{◌≡◌, refl, sym, ◌∙◌}
use mathlib.Core.List.{List}
use mathlib.Core.Logic.{◌⊎◌, ⊎_elim, inl, inr, by_cases}
use native.Mathlib.Decide.{dec_le}
use native.Mathlib.Omega.{arith}
use native.Mathlib.Numerals.{add-one}
use lib.ListN.{length}
use Rattle.wire.specs.Tests.{sum_below}
use Rattle.wire.specs.Bytes.{Same, Bytes, byte_at, part, u32_at}
use Rattle.wire.proofs.ByteLaws.{same_trans, part_same, number_same, part_length, bytes_part}
use Rattle.wire.proofs.PutLaws.{length_put, put_same, put_part}
use Rattle.wire.proofs.ItemLaws.{advance_none}
use Rattle.record.specs.Record.{length_at, type_at, record_limit}
use Rattle.header.specs.Fields.{element_count}
use Rattle.header.specs.Element.{entries_read}
use Rattle.geometry.specs.Sizes.{element_bytes, tile_bytes}
use Rattle.bodies.specs.TileRecord.{tile_index, section_end, section_at, section_length, element_content_at}
use Rattle.bodies.proofs.SectionLaws.{section_least, section_holds, section_mono, section_next}
use Rattle.written_records.specs.Pieces.{sealed}
use Rattle.written_records.proofs.SealLaws.{sealed_same}
use Rattle.written_records.proofs.TileLaws.{element_within}
use Rattle.pieces.specs.Edits.{resealed}
use Rattle.alone.specs.Edited.{Piece}
use Rattle.alone.proofs.TouchLaws.{Alike, piece_alike, put_alike, sealed_alike}
use Rattle.correct.specs.Storing.{cells_put}

-- whatever the record is, it keeps its length and its first eight bytes

alike_trans : {p q r : List ℕ} → Alike p q → Alike q r → Alike p r
alike_trans a b = record { long = a.long ∙ b.long; stated = a.stated ∙ b.stated; type = a.type ∙ b.type; bytes = a.bytes }

cells_alike : (s c r : List ℕ) → Bytes c → Piece r → (k : ℕ) → Alike (cells_put s c k r) r
unfolding cells_put element_content_at
cells_alike s c r b p zero = record { long = refl; stated = refl; type = refl; bytes = p.bytes }
cells_alike s c r b p (suc k) =
    let a = cells_alike s c r b p k in
    alike_trans
    (put_alike (cells_put s c k r) (section_at r 0 k + 4) (part c (sum_below k (element_bytes s)) (element_bytes s k)) (omega (arith, section_least r 0 k)) (bytes_part _ _ b)
    (piece_alike (cells_put s c k r) r a p))
    a

pub cells_piece : (s c r : List ℕ) → Bytes c → Piece r → (k : ℕ) → Piece (cells_put s c k r)
cells_piece s c r b p k = piece_alike (cells_put s c k r) r (cells_alike s c r b p k) p

pub cells_type : (s c r : List ℕ) → Bytes c → Piece r → (k : ℕ) → type_at (cells_put s c k r) 0 ≡ type_at r 0
cells_type s c r b p k = (cells_alike s c r b p k).type

pub over_alike : (flag : ℕ) (s c r : List ℕ) → Bytes c → Piece r → (k : ℕ) → Alike (resealed flag (cells_put s c k r)) r
over_alike flag s c r b p k = alike_trans (sealed_alike flag (cells_put s c k r) (cells_piece s c r b p k)) (cells_alike s c r b p k)

-- a plain one whose sections end before its checksum
pub record Plain (s r : List ℕ) : Type 0 where
  pub stated : length_at r 0 ≡ length r
  pub ends : section_at r 0 (element_count s) + 4 ≤ length r
  pub plain : (e : ℕ) → e < element_count s → section_length r 0 e ≡ element_bytes s e

module _ (s c r : List ℕ) (o : Plain s r) (all : entries_read s ≡ element_count s) (long : length c ≡ tile_bytes s) where
  limit : record_limit r 0 ≡ length r - 4
  unfolding record_limit
  limit = omega (arith, o.stated)

  within : (e : ℕ) → e ≤ element_count s → section_at r 0 e + 4 ≤ length r
  within e h = omega (arith, section_mono r 0 e (element_count s) h, o.ends)

  next : (e : ℕ) → e < element_count s → section_at r 0 (e + 1) ≡ section_end r (section_at r 0 e)
  next e h = section_next r 0 e (omega (arith, within e (omega arith), limit))

  -- the bytes of an element end where the next section starts
  behind : (e d : ℕ) → e < d → d ≤ element_count s → section_at r 0 e + 4 + element_bytes s e ≤ section_at r 0 d
  unfolding section_length
  behind e d h k =
      let p : u32_at r (section_at r 0 e) ≡ element_bytes s e = o.plain e (omega arith) in
      omega (arith, section_holds r (section_at r 0 e), next e (omega arith), section_mono r 0 (e + 1) d (omega arith))

  given_length : (e : ℕ) → e < element_count s → length (part c (sum_below e (element_bytes s)) (element_bytes s e)) ≡ element_bytes s e
  given_length e h = part_length c _ _ (omega (arith, element_within s all e h))

  cells_long : (k : ℕ) → length (cells_put s c k r) ≡ length r
  unfolding cells_put
  cells_long zero = refl
  cells_long (suc k) = length_put _ _ _ ∙ cells_long k

  -- bytes that are no element's stay
  cells_same :
      (k : ℕ) → k ≤ element_count s → (a b : ℕ) → b ≤ length r →
      ((e : ℕ) → e < k → (b ≤ section_at r 0 e + 4) ⊎ (section_at r 0 e + 4 + element_bytes s e ≤ a)) → Same r (cells_put s c k r) a b
  unfolding cells_put element_content_at
  cells_same zero h a b l z = record { in_first = l; in_second = l; each = λ i m n. refl }
  cells_same (suc k) h a b l z =
      same_trans (cells_same k (omega arith) a b l (λ e m. z e (omega arith)))
      (put_same (cells_put s c k r) (section_at r 0 k + 4) (part c (sum_below k (element_bytes s)) (element_bytes s k)) a b (omega (arith, cells_long k)) (rw (given_length k (omega arith)) (z k (omega arith))))

  -- and an element's are those that were given
  cells_there :
      (k : ℕ) → k ≤ element_count s → (e : ℕ) → e < k →
      part (cells_put s c k r) (section_at r 0 e + 4) (element_bytes s e) ≡ part c (sum_below e (element_bytes s)) (element_bytes s e)
  unfolding cells_put element_content_at
  cells_there zero h e l = absurd (omega arith)
  cells_there (suc k) h e l =
      let d = cells_put s c k r in
      let v = part c (sum_below k (element_bytes s)) (element_bytes s k) in
      let n : length d ≡ length r = cells_long k in
      by_cases (dec_le (e + 1) k)
      (λ m.
      let x = behind e k (omega arith) (omega arith) in
      let y = within k (omega arith) in
      sym
      (part_same (put_same d (section_at r 0 k + 4) v (section_at r 0 e + 4) (section_at r 0 e + 4 + element_bytes s e) (omega arith) (inl (omega arith))) (section_at r 0 e + 4) (element_bytes s e) (omega arith) (omega arith))
      ∙ cells_there k (omega arith) e (omega arith))
      (λ m.
      let z : e ≡ k = omega arith in
      let g : length v ≡ element_bytes s k = given_length k (omega arith) in
      let x = behind k (k + 1) (omega arith) (omega arith) in
      let y = within (k + 1) (omega arith) in
      rw z (rw g at (put_part d (section_at r 0 k + 4) v (omega arith))))

  -- with the checksum made anew
  module _ (flag : ℕ) where
    abbrev q : List ℕ
    q = resealed flag (cells_put s c (element_count s) r)

    sealed_too : (a b : ℕ) → b + 4 ≤ length r → Same (cells_put s c (element_count s) r) q a b
    unfolding resealed
    sealed_too a b h =
        let n = cells_long (element_count s) in
        sealed_same flag (cells_put s c (element_count s) r) 0 (length (cells_put s c (element_count s) r)) (omega arith) (omega arith) a b (omega arith)

    over_long : length q ≡ length r
    unfolding resealed sealed
    over_long = length_put (cells_put s c (element_count s) r) _ _ ∙ cells_long (element_count s)

    least : 16 ≤ length r
    least = omega (arith, section_least r 0 (element_count s), o.ends)

    head_same : Same r q 0 12
    head_same =
        let l = least in
        same_trans (cells_same (element_count s) (omega arith) 0 12 (omega arith) (λ e h. inl (omega (arith, section_least r 0 e)))) (sealed_too 0 12 (omega arith))

    -- the length of a section
    field_same : (e : ℕ) → e < element_count s → Same r q (section_at r 0 e) (section_at r 0 e + 4)
    field_same e h =
        let x = behind e (e + 1) (omega arith) (omega arith) in
        let y = within (e + 1) (omega arith) in
        same_trans (cells_same (element_count s) (omega arith) (section_at r 0 e) (section_at r 0 e + 4) (omega arith) apart) (sealed_too (section_at r 0 e) (section_at r 0 e + 4) (omega arith))
      where
        apart : (d : ℕ) → d < element_count s → (section_at r 0 e + 4 ≤ section_at r 0 d + 4) ⊎ (section_at r 0 d + 4 + element_bytes s d ≤ section_at r 0 e)
        apart d k =
            by_cases (dec_le (d + 1) e) (λ m. inr (behind d e (omega arith) (omega arith))) (λ m. inl (omega (arith, section_mono r 0 e d (omega arith))))

    -- a byte that is no element's, nor the checksum's
    pub over_byte :
        (k : ℕ) → k + 1 + 4 ≤ length r →
        ((e : ℕ) → e < element_count s → (k < element_content_at r 0 e) ⊎ (element_content_at r 0 e + element_bytes s e ≤ k)) → byte_at q k ≡ byte_at r k
    unfolding element_content_at
    over_byte k h z =
        let a = cells_same (element_count s) (omega arith) k (k + 1) (omega arith) (λ e l. ⊎_elim (λ m. inl (omega arith)) (λ m. inr m) (z e l)) in
        sym ((same_trans a (sealed_too k (k + 1) (omega arith))).each k (omega arith) (omega arith))

    pub over_stated : length_at q 0 ≡ length_at r 0
    over_stated = sym (number_same head_same 4 0 (omega arith) (omega arith))

    pub over_index : tile_index q 0 ≡ tile_index r 0
    unfolding tile_index
    over_index = sym (number_same head_same 4 8 (omega arith) (omega arith))

    limit_same : record_limit q 0 ≡ record_limit r 0
    unfolding record_limit
    limit_same = rw (over_stated, over_long)

    field_is : (e : ℕ) → e < element_count s → u32_at q (section_at r 0 e) ≡ u32_at r (section_at r 0 e)
    field_is e h = sym (number_same (field_same e h) 4 (section_at r 0 e) (omega arith) (omega arith))

    pub over_section : (e : ℕ) → e ≤ element_count s → section_at q 0 e ≡ section_at r 0 e
    unfolding section_at section_end
    over_section zero h = advance_none _ _ (0 + 12) ∙ sym (advance_none _ _ (0 + 12))
    over_section (suc e) h =
        let i : section_at q 0 e ≡ section_at r 0 e = over_section e (omega arith) in
        let l : section_at q 0 e ≤ record_limit q 0 = omega (arith, within e (omega arith), limit, limit_same) in
        let a : section_at q 0 (suc e) ≡ section_end q (section_at q 0 e) = rw (← add-one e) (section_next q 0 e l) in
        let b : section_at r 0 (suc e) ≡ section_end r (section_at r 0 e) = rw (← add-one e) (next e (omega arith)) in
        let f : section_end q (section_at q 0 e) ≡ section_end r (section_at r 0 e) = rw (i, field_is e (omega arith)) in
        a ∙ f ∙ sym b

    pub over_length : (e : ℕ) → e < element_count s → section_length q 0 e ≡ section_length r 0 e
    unfolding section_length
    over_length e h = rw (over_section e (omega arith)) (field_is e h)

    pub over_content :
        (e : ℕ) → e < element_count s → part q (element_content_at q 0 e) (section_length q 0 e) ≡ part c (sum_below e (element_bytes s)) (element_bytes s e)
    unfolding element_content_at
    over_content e h =
        let x = behind e (e + 1) (omega arith) (omega arith) in
        let y = within (e + 1) (omega arith) in
        rw (over_section e (omega arith), over_length e h, o.plain e h)
        (sym (part_same (sealed_too (section_at r 0 e + 4) (section_at r 0 e + 4 + element_bytes s e) (omega arith)) (section_at r 0 e + 4) (element_bytes s e) (omega arith) (omega arith))
        ∙ cells_there (element_count s) (omega arith) e h)
