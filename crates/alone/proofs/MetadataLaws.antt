-- Stage 8 of a metadata record that stands at two places, and what it holds. Assumes nothing.
use Prim.Native.Nat.{ℕ, ◌+◌, ◌≤◌}
use mathlib.Core.Path.{◌≡◌, refl, sym, ap, ◌∙◌}
use mathlib.Core.List.{List}
use mathlib.Core.Bool.{true}
use native.Mathlib.Omega.{arith}
use Rattle.wire.specs.Bytes.{u16_at, part}
use Rattle.wire.proofs.TestLaws.{means, yes}
use Rattle.record.specs.Record.{length_at, record_limit}
use Rattle.header.specs.Names.{identifier}
use Rattle.header.specs.Element.{string_size, string_end}
use Rattle.header.specs.Texts.{text_right}
use Rattle.bodies.specs.MetadataRecord.{metadata_name, record_id_at, record_id, data_type, content_length_at, metadata_length, metadata_description_at, metadata_end}
use Rattle.check_records.specs.Frame.{end_right}
use Rattle.check_records.specs.MetadataBody.{metadata_right}
use Rattle.pieces.proofs.MoveLaws.{Offset}
use Rattle.alone.specs.Alone.{Moved, SameRecord, MetadataAlone}
use Rattle.alone.proofs.MovedLaws.{offset_of, offset_add, offset_far, limit_first, end_to, offset_part, offset_number, offset_byte, offset_string, offset_text}

-- a name, an ID and a type code behind eight bytes, of a record or of an entry of the metadata directory, which ends by n
module _ {s : List ℕ} {x : ℕ} {t : List ℕ} {y n : ℕ} (m : Moved s x t y n) where
  id_place : (s : List ℕ) (x : ℕ) → record_id_at s x ≡ x + 10 + u16_at s (x + 8)
  unfolding record_id_at string_end string_size
  id_place s x = omega arith

  pub id_moved : 10 ≤ n → Offset (record_id_at s x) (record_id_at t y) x y
  unfolding record_id_at
  id_moved h = offset_string m (offset_of x y 8) (omega arith)

  module _ (h : record_id_at s x + 5 ≤ x + n) where
    long : 10 ≤ n
    long = omega (arith, id_place s x)

    pub name_same : metadata_name s x ≡ metadata_name t y
    unfolding metadata_name
    name_same =
        let a : u16_at s (x + 8) ≡ u16_at t (y + 8) = offset_number m (offset_of x y 8) 2 (omega (arith, long)) in
        offset_part m (offset_of x y 10) (u16_at s (x + 8)) (omega (arith, id_place s x)) ∙ ap (part t (y + 10)) a

    pub id_same : record_id s x ≡ record_id t y
    unfolding record_id
    id_same = offset_number m (id_moved long) 4 (omega arith)

    pub code_same : data_type s x ≡ data_type t y
    unfolding data_type
    code_same = offset_byte m (offset_add (id_moved long) refl) (omega arith)

module _ {s : List ℕ} {x : ℕ} {t : List ℕ} {y : ℕ} (r : SameRecord s x t y) where
  length_moved : Offset (content_length_at s x) (content_length_at t y) x y
  unfolding content_length_at
  length_moved = offset_add (id_moved r.moved (omega (arith, r.long))) refl

  id_before : (s : List ℕ) (x : ℕ) → record_id_at s x + 5 ≡ content_length_at s x
  unfolding content_length_at
  id_before s x = refl

  end_behind : (s : List ℕ) (x : ℕ) → content_length_at s x + 4 + metadata_length s x + 2 ≤ metadata_end s x
  unfolding metadata_end metadata_description_at string_end string_size
  end_behind s x = omega arith

  module _ (h : metadata_end s x ≤ record_limit s x) where
    within : content_length_at s x + 4 + metadata_length s x + 2 ≤ x + length_at s x
    within = omega (arith, r.long, limit_first r, end_behind s x)

    fields : record_id_at s x + 5 ≤ x + length_at s x
    fields = omega (arith, within, id_before s x)

    content_length_same : metadata_length s x ≡ metadata_length t y
    unfolding metadata_length
    content_length_same = offset_number r.moved length_moved 4 (omega (arith, within))

    content_same : part s (content_length_at s x + 4) (metadata_length s x) ≡ part t (content_length_at t y + 4) (metadata_length t y)
    content_same =
        offset_part r.moved (offset_add length_moved refl) (metadata_length s x) (omega (arith, within))
        ∙ ap (part t (content_length_at t y + 4)) content_length_same

    description_moved : Offset (metadata_description_at s x) (metadata_description_at t y) x y
    unfolding metadata_description_at
    description_moved = offset_add (offset_add length_moved {d = 4} {e = 4} refl) content_length_same

    end_moved : Offset (metadata_end s x) (metadata_end t y) x y
    unfolding metadata_end metadata_description_at
    end_moved = offset_string r.moved description_moved (omega (arith, within))

    description_same : text_right s (metadata_description_at s x) ≡ text_right t (metadata_description_at t y)
    unfolding metadata_end
    description_same = offset_text r.moved description_moved (omega (arith, r.long, limit_first r, h))

  ends : metadata_right s x ≡ true → metadata_end s x ≤ record_limit s x
  unfolding metadata_right end_right
  ends e = (means _ (means _ e).1.0).0

  pub metadata_to : metadata_right s x ≡ true → metadata_right t y ≡ true
  unfolding metadata_right
  metadata_to e =
      let a = means _ e in
      let h = ends e in
      sym
      (yes _
      (rw (← content_length_same h) a.0, (end_to r (end_moved h) a.1.0, (ap (identifier 32) (sym (name_same r.moved (fields h))) ∙ a.1.1.0, (rw (← code_same r.moved (fields h)) a.1.1.1.0, (sym (description_same h) ∙ a.1.1.1.1.0, tt))))))

pub metadata_alone : MetadataAlone
metadata_alone s x t y r k =
    let h = ends r k in
    record {
      name = name_same r.moved (fields r h);
      id = id_same r.moved (fields r h);
      code = code_same r.moved (fields r h);
      long = content_length_same r h;
      place = offset_far (length_moved r);
      content = content_same r h;
    }
