-- The front of an opened page: a front that says the same, with a right checksum, opened, without a file-space reference. Assumes nothing.
use Prim.Native.Nat.{ℕ, ◌+◌, ◌≤◌}
use mathlib.Core.Path.{◌≡◌, refl, sym, ◌∙◌}
use mathlib.Core.List.{List, [], ◌++◌}
use mathlib.Core.Logic.{◌⊎◌, ⊎_elim, inl, inr}
use mathlib.Core.Bool.{Bool, true, false}
use native.Mathlib.Omega.{arith}
use lib.ListN.{length, take}
use Rattle.wire.specs.Pick.{pick}
use Rattle.wire.specs.Bytes.{Bytes, Same, bytes_of, number_at, put, zeros}
use Rattle.wire.proofs.TestLaws.{no}
use Rattle.wire.proofs.ByteLaws.{number_before, bytes_length, bytes_of_lem, bytes_take, zeros_length, zeros_bytes}
use Rattle.wire.proofs.PutLaws.{length_put, put_aside, put_number, bytes_put}
use Rattle.header.specs.Fields.{time_modified, time_opened, file_space_reference, metadata_reference, tile_directory_reference}
use Rattle.record.specs.Record.{content_at}
use Rattle.record.specs.Chain.{header_end, records}
use Rattle.check_header.specs.Stages.{closed}
use Rattle.check_header.specs.Judged.{SameJudged}
use Rattle.check_records.specs.Checksum.{checksum_right}
use Rattle.page_check.specs.Accepted.{Sound}
use Rattle.page_check.proofs.GivenLaws.{sound_range}
use Rattle.pieces.specs.Pieces.{pieces}
use Rattle.alone.specs.Alone.{SameHeader, Front}
use Rattle.alone.proofs.HeaderLaws.{front_long}
use Rattle.writable.specs.Writable.{directory_full}
use Rattle.writable.specs.Parts.{Parted}
use Rattle.writable.proofs.PartLaws.{sound_parted}
use Rattle.correct.specs.Opening.{opened_fields, opened_reference, opened_front}
use Rattle.page_laws.specs.Tiles.{SameUnset}
use Rattle.page_laws.proofs.FrontLaws.{parted_number, FieldsSet, set_none, set_field, put_zeros, seal_length, seal_number, seal_judged, seal_header, seal_front, seal_checksum, page_unset, page_between}
use Rattle.page_laws.proofs.PageLaws.{sound_judged}
use Rattle.opened_pages.specs.OpenedPages.{Opens}

module _ {s : List ℕ} {t : ℕ} (o : Opens s t) where
  pub sound : Sound s
  sound = o.obeys.sound

  pub parted : Parted s (take (header_end s) s) (pieces s)
  parted = sound_parted s sound

  abbrev pub f : List ℕ
  f = take (header_end s) s

  least : 288 ≤ length f
  least = front_long parted.front []

  -- the fields that are set

  fields_set_lem : FieldsSet 64 f (opened_fields s t)
  unfolding opened_fields
  fields_set_lem =
      let l = least in
      set_field (set_field (set_none f (omega arith) (omega arith)) 48 (bytes_of 8 t) (bytes_length 8 t) (omega arith) (omega arith) (inl (omega arith))) 56 (zeros 8)
      (zeros_length 8) (omega arith) (omega arith) (inl (omega arith))

  reference_set : FieldsSet 64 f (opened_reference s (opened_fields s t))
  unfolding opened_reference
  reference_set = go (directory_full s)
    where
      go : (b : Bool) → FieldsSet 64 f (pick b (opened_fields s t) (put (opened_fields s t) 80 (bytes_of 8 (content_at (length s)))))
      go true = fields_set_lem
      go false = set_field fields_set_lem 80 (bytes_of 8 (content_at (length s))) (bytes_length 8 _) (omega arith) (omega arith) (inr (omega arith))

  set_bytes : Bytes (opened_reference s (opened_fields s t))
  unfolding opened_reference opened_fields
  set_bytes = go (directory_full s)
    where
      inner : Bytes (put (put f 48 (bytes_of 8 t)) 56 (zeros 8))
      inner = bytes_put 56 (bytes_put 48 (bytes_take (header_end s) o.bytes) (bytes_of_lem 8 t)) (zeros_bytes 8)

      go : (b : Bool) → Bytes (pick b (put (put f 48 (bytes_of 8 t)) 56 (zeros 8)) (put (put (put f 48 (bytes_of 8 t)) 56 (zeros 8)) 80 (bytes_of 8 (content_at (length s)))))
      go true = inner
      go false = bytes_put 80 inner (bytes_of_lem 8 _)

  -- what they read as

  before_reference : (p : ℕ) → p + 8 ≤ 80 → number_at 8 (opened_reference s (opened_fields s t)) p ≡ number_at 8 (opened_fields s t) p
  unfolding opened_reference
  before_reference p h = go (directory_full s)
    where
      go : (b : Bool) → number_at 8 (pick b (opened_fields s t) (put (opened_fields s t) 80 (bytes_of 8 (content_at (length s))))) p ≡ number_at 8 (opened_fields s t) p
      go true = refl
      go false = put_aside (opened_fields s t) 80 (bytes_of 8 (content_at (length s))) 8 p (inl h)

  time_set : number_at 8 (opened_fields s t) 48 ≡ t
  unfolding opened_fields
  time_set =
      let l = least in
      put_aside (put f 48 (bytes_of 8 t)) 56 (zeros 8) 8 48 (inl (omega arith)) ∙ put_number 8 t f 48 (omega arith) o.small

  space_set : number_at 8 (opened_fields s t) 56 ≡ 0
  unfolding opened_fields
  space_set =
      let l = least in
      put_zeros 8 (put f 48 (bytes_of 8 t)) 56 (omega (arith, length_put f 48 (bytes_of 8 t))) (omega arith)

  beside_fields : (p : ℕ) → (p + 8 ≤ 48) ⊎ (64 ≤ p) → number_at 8 (opened_fields s t) p ≡ number_at 8 f p
  unfolding opened_fields
  beside_fields p o =
      put_aside (put f 48 (bytes_of 8 t)) 56 (zeros 8) 8 p (⊎_elim (λ h. inl (omega arith)) (λ h. inr (omega (arith, zeros_length 8))) o)
      ∙ put_aside f 48 (bytes_of 8 t) 8 p (⊎_elim (λ h. inl h) (λ h. inr (omega (arith, bytes_length 8 t))) o)

  -- with the checksum made anew

  pub opened_length_lem : length (opened_front s t) ≡ length f
  unfolding opened_front
  opened_length_lem = seal_length s f _ parted.front (sym parted.ends) reference_set

  pub opened_front_lem : Front (opened_front s t)
  unfolding opened_front
  opened_front_lem = seal_front s f _ parted.front (sym parted.ends) reference_set

  pub opened_judged : SameJudged f (opened_front s t)
  unfolding opened_front
  opened_judged = seal_judged s f _ parted.front (sym parted.ends) reference_set

  pub opened_header : SameHeader f (opened_front s t)
  unfolding opened_front
  opened_header = seal_header s f _ parted.front (sym parted.ends) reference_set

  pub opened_checksum : (b : List ℕ) → checksum_right (opened_front s t ++ b) 16 ≡ true
  unfolding opened_front
  opened_checksum b = seal_checksum s f _ parted.front (sym parted.ends) reference_set parted.header.flag set_bytes b

  sealed_number : (p : ℕ) → p + 8 ≤ 88 → number_at 8 (opened_front s t) p ≡ number_at 8 (opened_reference s (opened_fields s t)) p
  unfolding opened_front
  sealed_number p h = let l = least in seal_number s f _ parted.front (sym parted.ends) reference_set 8 p (omega arith)

  pub opened_metadata : metadata_reference (opened_front s t) ≡ metadata_reference f
  opened_metadata = sealed_number 64 (omega arith) ∙ before_reference 64 (omega arith) ∙ beside_fields 64 (inr (omega arith))

  pub opened_tiles_kept : directory_full s ≡ true → tile_directory_reference (opened_front s t) ≡ tile_directory_reference f
  unfolding opened_reference
  opened_tiles_kept e = sealed_number 80 (omega arith) ∙ rw e (beside_fields 80 (inr (omega arith)))

  pub opened_tiles_new : directory_full s ≡ false → tile_directory_reference (opened_front s t) ≡ content_at (length s)
  unfolding opened_reference
  opened_tiles_new e =
      let l = least in
      let r = sound_range s (records s) sound in
      sealed_number 80 (omega arith)
      ∙ rw e (put_number 8 (content_at (length s)) (opened_fields s t) 80 (omega (arith, fields_set_lem.long)) (omega (arith, r.file)))

  -- and with whatever stands behind it

  module _ (b : List ℕ) where
    pub front_number : (p : ℕ) → p + 8 ≤ 288 → number_at 8 (opened_front s t ++ b) p ≡ number_at 8 (opened_front s t) p
    front_number p h = let l = least in number_before 8 (opened_front s t) b p (omega (arith, opened_length_lem))

    pub page_time : time_opened (opened_front s t ++ b) ≡ t
    page_time = front_number 48 (omega arith) ∙ sealed_number 48 (omega arith) ∙ before_reference 48 (omega arith) ∙ time_set

    pub page_modified : time_modified (opened_front s t ++ b) ≡ time_modified s
    page_modified =
        front_number 40 (omega arith) ∙ sealed_number 40 (omega arith) ∙ before_reference 40 (omega arith) ∙ beside_fields 40 (inl (omega arith))
        ∙ parted_number parted 8 40 (omega arith)

    pub page_reference : directory_full s ≡ true → tile_directory_reference (opened_front s t ++ b) ≡ tile_directory_reference s
    page_reference e = front_number 80 (omega arith) ∙ opened_tiles_kept e ∙ parted_number parted 8 80 (omega arith)

    pub page_refers : directory_full s ≡ false → tile_directory_reference (opened_front s t ++ b) ≡ content_at (length s)
    page_refers e = front_number 80 (omega arith) ∙ opened_tiles_new e

    pub page_opened : closed (opened_front s t ++ b) ≡ false
    unfolding closed
    page_opened =
        sym (no _ (λ h. o.some_time (sym page_time ∙ h.0)))

    pub page_space : file_space_reference (opened_front s t ++ b) ≡ 0
    page_space = front_number 56 (omega arith) ∙ sealed_number 56 (omega arith) ∙ before_reference 56 (omega arith) ∙ space_set

    -- what no call sets, and what is judged of the page
    pub opened_unset : SameUnset s (opened_front s t ++ b)
    unfolding opened_front
    opened_unset = page_unset parted _ reference_set b

    pub opened_between : Same s (opened_front s t ++ b) 64 80
    unfolding opened_front
    opened_between = page_between parted _ reference_set b

    pub page_judged : SameJudged s (opened_front s t ++ b)
    page_judged = sound_judged sound opened_unset
