-- The front with its fields set and its checksum made anew: what it says, and what stays. Assumes nothing.
use Prim.Native.Nat.{ℕ, ◌+◌, ◌-◌, ◌≤◌, ◌<◌}
use mathlib.Core.Path.{◌≡◌, sym, ◌∙◌}
use mathlib.Core.List.{List, ◌++◌}
use mathlib.Core.Logic.{◌⊎◌, inl, inr, ⊎_elim}
use native.Mathlib.Omega.{arith}
use lib.ListN.{length}
use Rattle.wire.specs.Bytes.{Bytes, byte_at, part, bytes_of, Same, zeros}
use Rattle.wire.proofs.ByteLaws.{number_same, bytes_of_lem, zeros_bytes}
use Rattle.wire.proofs.PutLaws.{length_put, put_outside, put_aside, put_number, bytes_put}
use Rattle.wire.proofs.PlaceLaws.{Placed}
use Rattle.header.specs.Fields.{checksum_enabled}
use Rattle.written_records.specs.Pieces.{checksum_for}
use Rattle.written_records.proofs.SealLaws.{sealed_same, sealed_placed}
use Rattle.lay_down.specs.Page.{fields_set, FieldsRead, NotSet, laid_front}
use Rattle.lay_down.proofs.PageLaws.{fields_length}

-- the fields are read where the bytes that hold them stand
pub read_same : {s u : List ℕ} {t d : ℕ} → Same s u 40 88 → FieldsRead s t d → FieldsRead u t d
read_same e r =
    record {
      modified = λ h. sym (number_same e 8 40 (omega arith) (omega arith)) ∙ r.modified h;
      opened = sym (number_same e 8 48 (omega arith) (omega arith)) ∙ r.opened;
      space = sym (number_same e 8 56 (omega arith) (omega arith)) ∙ r.space;
      metadata = sym (number_same e 8 64 (omega arith) (omega arith)) ∙ r.metadata;
      tiles = sym (number_same e 8 80 (omega arith) (omega arith)) ∙ r.tiles;
    }

module _ (f : List ℕ) (t d : ℕ) where
  -- the fields are numbers of eight bytes, put one after the other

  pub fields_bytes : Bytes f → Bytes (fields_set f t d)
  unfolding fields_set
  fields_bytes w =
      let z = zeros_bytes 8 in
      bytes_put 80 (bytes_put 64 (bytes_put 56 (bytes_put 48 (bytes_put 40 w (bytes_of_lem 8 t)) z) z) z) (bytes_of_lem 8 d)

  fields_outside : (i : ℕ) → NotSet i → byte_at f i ≡ byte_at (fields_set f t d) i
  unfolding fields_set zeros bytes_of
  fields_outside i o =
      put_outside f 40 _ i (out 40 (omega arith) (omega arith))
      ∙ put_outside _ 48 _ i (out 48 (omega arith) (omega arith))
      ∙ put_outside _ 56 _ i (out 56 (omega arith) (omega arith))
      ∙ put_outside _ 64 _ i (out 64 (omega arith) (omega arith))
      ∙ put_outside _ 80 _ i (⊎_elim (λ h. inl (omega arith)) (λ r. ⊎_elim (λ h. inl (omega (arith, h.1))) (λ h. inr (omega arith)) r) o)
    where
      out : (at : ℕ) → 40 ≤ at → at ≤ 64 → (i < at) ⊎ (at + 8 ≤ i)
      out at p q = ⊎_elim (λ h. inl (omega arith)) (λ r. inr (⊎_elim (λ h. omega (arith, h.0)) (λ h. omega arith) r)) o

  fields_read : 88 ≤ length f → d < 18446744073709551616 → FieldsRead (fields_set f t d) t d
  unfolding fields_set zeros bytes_of
  fields_read h k =
      record {
        modified =
            λ m.
            put_aside _ 80 _ 8 40 (inl (omega arith)) ∙ put_aside _ 64 _ 8 40 (inl (omega arith)) ∙ put_aside _ 56 _ 8 40 (inl (omega arith))
            ∙ put_aside _ 48 _ 8 40 (inl (omega arith)) ∙ put_number 8 t f 40 (omega arith) m;
        opened =
            put_aside _ 80 _ 8 48 (inl (omega arith)) ∙ put_aside _ 64 _ 8 48 (inl (omega arith)) ∙ put_aside _ 56 _ 8 48 (inl (omega arith))
            ∙ put_number 8 0 _ 48 (simp length_put (omega arith)) (omega arith);
        space =
            put_aside _ 80 _ 8 56 (inl (omega arith)) ∙ put_aside _ 64 _ 8 56 (inl (omega arith))
            ∙ put_number 8 0 _ 56 (simp length_put (omega arith)) (omega arith);
        metadata = put_aside _ 80 _ 8 64 (inl (omega arith)) ∙ put_number 8 0 _ 64 (simp length_put (omega arith)) (omega arith);
        tiles = put_number 8 d _ 80 (simp length_put (omega arith)) k;
      }

  -- and the checksum is the last four bytes, which are none of them

  module _ (h : 92 ≤ length f) where
    seal_same : (a b : ℕ) → b ≤ length f - 4 → Same (fields_set f t d) (laid_front f t d) a b
    unfolding laid_front
    seal_same a b k =
        let e = fields_length f t d in
        sealed_same (checksum_enabled f) (fields_set f t d) 16 (length f - 16) (omega arith) (omega arith) a b (omega arith)

    pub front_same : (a b : ℕ) → b ≤ length f - 4 → ((i : ℕ) → a ≤ i → i < b → NotSet i) → Same f (laid_front f t d) a b
    front_same a b k o =
        let e = seal_same a b k in
        record { in_first = omega arith; in_second = e.in_second; each = λ i l m. fields_outside i (o i l m) ∙ e.each i l m }

    pub front_read : d < 18446744073709551616 → FieldsRead (laid_front f t d) t d
    front_read k = read_same (seal_same 40 88 (omega arith)) (fields_read (omega arith) k)

    -- the header record ends in the checksum of its bytes
    pub front_sealed :
        Placed (laid_front f t d) 16
        (part (fields_set f t d) 16 (length f - 16 - 4) ++ bytes_of 4 (checksum_for (checksum_enabled f) (part (fields_set f t d) 16 (length f - 16 - 4))))
    unfolding laid_front
    front_sealed =
        let e = fields_length f t d in
        sealed_placed (checksum_enabled f) (fields_set f t d) 16 (length f - 16) (omega arith) (omega arith)
