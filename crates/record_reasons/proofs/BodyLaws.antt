-- Stage 8: what the functions answer, put together. Assumes nothing.
use Prim.Native.Nat.{ℕ, ◌+◌, ◌-◌, ◌*◌, ◌/◌, ◌<◌, min}
use mathlib.Core.Path.{◌≡◌, refl, sym, ap, ◌∙◌}
use mathlib.Core.List.{List}
use mathlib.Core.Bool.{Bool, true}
use native.Mathlib.Omega.{arith}
use lib.ListN.{length}
use lib.Dec.{leb}
use borrow.Author.Tests.{le-leb, leb-true, eq-eqb, ne_eqb}
use Rattle.wire.specs.Tests.{◌≤?◌}
use Rattle.wire.specs.Bytes.{u32_at, largest_integer}
use Rattle.wire.proofs.TestLaws.{iff}
use Rattle.header.specs.Fields.{element_count}
use Rattle.header.specs.Element.{string_size, string_end}
use Rattle.record.specs.Record.{type_at}
use Rattle.geometry.specs.Tiles.{tile_count}
use Rattle.geometry.specs.Sizes.{element_bytes, least_length, cap}
use Rattle.bodies.specs.TileRecord.{section_at, section_start, section_length, tile_index, tile_end}
use Rattle.bodies.specs.MetadataRecord.{record_id_at, record_id_start, content_length_at, metadata_length, metadata_description_at, metadata_end, data_type}
use Rattle.bodies.proofs.SectionLaws.{section_told}
use Rattle.bodies.proofs.MetadataLaws.{id_told}
use Rattle.check_records.specs.TileBody.{tile_right}
use Rattle.check_records.specs.MetadataBody.{metadata_right}
use Rattle.reasons.specs.declared.Fault.{Fault}
use Rattle.reasons.specs.Rows.{fault_of, at_most, at_least, judged, or_else, first_failing, rows_below, Reason}
use Rattle.reasons.proofs.ReasonLaws.{first_none, first_more, first_joined, below_stop, kept_by, or_kept, or_broken, or_end}
use Rattle.record_reasons.specs.RecordRows.{ending_rows, section_rows, tile_body_rows, described_rows, metadata_body_rows, body_rows}
use Rattle.record_reasons.proofs.RecordRowLaws.{tile_keeps, metadata_keeps}
use Rattle.std.specs.Prelude.{Ok, Err}

pub least_told : (at end n : ℕ) → n ≡ end - at → (n + 4 + 7) / 8 * 8 ≡ least_length (end - at)
unfolding least_length
least_told at end n e = rw e

-- a tile record

within_cap : (l u : ℕ) → l < cap → leb l (min u cap) ≡ leb l u
within_cap l u h =
    iff _ _
    (λ e. let g = leb-true l (min u cap) e in le-leb l u (omega arith))
    (λ e. let g = leb-true l u e in le-leb l (min u cap) (omega arith))

most_told :
    (e p l m u : ℕ) → l < cap → m ≡ min u cap →
    judged (at_most 44 e p l m) ≡ judged (record { fault = fault_of 44 e p l (min u cap); rule = l ≤? u })
unfolding judged
most_told e p l m u h q = rw (q, within_cap l u h) refl

pub section_second :
    (s : List ℕ) (at e p l m : ℕ) (r : Reason) → at < length s → p ≡ section_start s at e → l ≡ u32_at s p → m ≡ min (element_bytes s e) cap →
    l < cap → judged (at_least 43 e p l 1) ≡ Ok tt → r ≡ judged (at_most 44 e p l m) → r ≡ first_failing (section_rows s at e)
unfolding first_failing section_rows section_length
section_second s at e p l m r h d q w k f g =
    let z : section_at s at e ≡ p = sym (section_told s at e p h d) in
    let y = g ∙ most_told e p l m (element_bytes s e) k w in
    rw (z, ← q, or_kept _ _ f, or_end) y

pub section_stop :
    (s : List ℕ) (at e p l : ℕ) (x : Fault) → at < length s → p ≡ section_start s at e → l ≡ u32_at s p → judged (at_least 43 e p l 1) ≡ Err x →
    Err x ≡ first_failing (section_rows s at e)
unfolding first_failing section_rows section_length
section_stop s at e p l x h d q f = let z : section_at s at e ≡ p = sym (section_told s at e p h d) in rw (z, ← q) (sym (or_broken _ _ _ f))

pub sections_stop :
    (s : List ℕ) (at n e : ℕ) (a : Reason) (x : Fault) → n ≡ element_count s → a ≡ first_failing (section_rows s at e) → a ≡ Err x →
    first_failing (rows_below e (section_rows s at)) ≡ Ok tt → e < n → Err x ≡ first_failing (rows_below (element_count s) (section_rows s at))
sections_stop s at n e a x p q r h k = below_stop e (section_rows s at) a q (element_count s) x r h (omega arith)

pub sections_end_told :
    (s : List ℕ) (k at n p : ℕ) (r : Reason) → at < length s → n ≡ element_count s → p ≡ section_start s at n →
    r ≡ first_failing (ending_rows s k at p) → r ≡ first_failing (ending_rows s k at (tile_end s at))
unfolding tile_end
sections_end_told s k at n p r h a b c = c ∙ rw (section_told s at n p h b, a)

pub tile_body_kept : (s : List ℕ) (k at : ℕ) (b : Bool) → b ≡ tile_right s at → b ≡ true → Ok tt ≡ first_failing (tile_body_rows s k at)
tile_body_kept s k at b p q = sym (kept_by (tile_body_rows s k at) (tile_keeps s k at ∙ sym p ∙ q))

-- a metadata record

pub content_length_told : (s : List ℕ) (at p : ℕ) → at < length s → p ≡ record_id_start s at → p + 5 ≡ content_length_at s at
unfolding content_length_at
content_length_told s at p h e = rw (id_told s at p h e)

pub description_from_told :
    (s : List ℕ) (at p l : ℕ) → p ≡ content_length_at s at → l ≡ u32_at s p → p + 4 + l ≡ metadata_description_at s at
unfolding metadata_description_at metadata_length
description_from_told s at p l e f = rw (f, e)

pub data_type_told :
    (s : List ℕ) (k at p f : ℕ) (r : Reason) → at < length s → p ≡ record_id_start s at → f ≡ data_type s at → r ≡ judged (at_most 47 k (p + 4) f 9) →
    r ≡ judged (at_most 47 k (record_id_at s at + 4) (data_type s at) 9)
data_type_told s k at p f r h e g d = d ∙ rw (id_told s at p h e, g)

pub fields_end_told :
    (s : List ℕ) (k at d n : ℕ) (r : Reason) → d ≡ metadata_description_at s at → n ≡ string_size s d → r ≡ first_failing (ending_rows s k at (d + n)) →
    r ≡ first_failing (ending_rows s k at (metadata_end s at))
unfolding metadata_end string_end
fields_end_told s k at d n r e f g = g ∙ rw (f, e)

pub metadata_body_kept : (s : List ℕ) (k at : ℕ) (b : Bool) → b ≡ metadata_right s at → b ≡ true → Ok tt ≡ first_failing (metadata_body_rows s k at)
metadata_body_kept s k at b p q = sym (kept_by (metadata_body_rows s k at) (metadata_keeps s k at ∙ sym p ∙ q))

-- by the type

module _ (s : List ℕ) (k kind at : ℕ) (t : kind ≡ type_at s at) where
  pub row_of_tile : (r : Reason) → kind ≡ 2 → r ≡ first_failing (tile_body_rows s k at) → r ≡ first_failing (body_rows s k at)
  unfolding body_rows
  row_of_tile r h e = rw (← t, eq-eqb kind 2 h) e

  pub row_of_metadata : (r : Reason) → (kind ≡ 2 → ⊥) → kind ≡ 1 → r ≡ first_failing (metadata_body_rows s k at) → r ≡ first_failing (body_rows s k at)
  unfolding body_rows
  row_of_metadata r g h e = rw (← t, ne_eqb kind 2 g, eq-eqb kind 1 h) e

  pub row_of_other : (kind ≡ 2 → ⊥) → (kind ≡ 1 → ⊥) → Ok tt ≡ first_failing (body_rows s k at)
  unfolding body_rows
  row_of_other g h = rw (← t, ne_eqb kind 2 g, ne_eqb kind 1 h) (sym first_none)
