-- A front that is made from a description says what it was told, and is judged as the description is. Assumes nothing.
use Prim.Native.Nat.{ℕ, min, ◌+◌, ◌%◌, ◌≤◌, ◌<◌}
use mathlib.Core.Path.{◌≡◌, refl, sym, ◌∙◌}
use mathlib.Core.List.{List, [], ◌∷◌, ◌++◌}
use mathlib.Core.Bool.{Bool, true, false}
use native.Mathlib.Omega.{arith}
use lib.ListN.{length}
use lib.Dec.{leb}
use Rattle.wire.specs.Pick.{pick}
use Rattle.wire.specs.Tests.{Test, ◌≤?◌, ◌≡?◌, is, passes, all_below}
use Rattle.wire.specs.Bytes.{byte_at, part}
use Rattle.wire.proofs.ByteLaws.{is_same}
use Rattle.wire.proofs.TestLaws.{means, yes, iff, below_same, sum_same}
use Rattle.wire.proofs.PlaceLaws.{Placed, placed_self, placed_first, placed_part, placed_byte}
use Rattle.utf8.specs.Utf8.{utf8}
use Rattle.answer.specs.Refusals.{gate}
use Rattle.record.specs.Types.{header_record_type}
use Rattle.record.specs.Chain.{header_end}
use Rattle.header.specs.Fields.{header_length, header_limit}
use Rattle.header.specs.Element.{entry_start, entries_read}
use Rattle.header.specs.Texts.{text_right}
use Rattle.geometry.specs.Tiles.{tile_count}
use Rattle.geometry.specs.Sizes.{element_bytes, tile_bytes}
use Rattle.check_header.specs.Identification.{mark, identified, version_right}
use Rattle.check_header.specs.HeaderRecord.{length_right, frame_right, sides_right, options_right, names_differ, element_right, elements_right, tail_right, header_right}
use Rattle.check_header.specs.Ceilings.{sides_within, within_ceilings}
use Rattle.check_header.specs.Stages.{first_two, next_two, stages, front_right, check_front}
use Rattle.written_records.specs.Pieces.{record_of, record_length}
use Rattle.written_records.proofs.PieceLaws.{least_holds}
use Rattle.fronts.specs.Front.{Description, Fits, entry_of, entries_of, body_of, block_bytes, front_of}
use Rattle.fronts.specs.Judged.{sides_told, names_apart, element_told, elements_told, label_told, header_told, sides_allowed, tile_told, counts_allowed, ceilings_told, told_verdict, FrontJudged, SaysAsTold}
use Rattle.fronts.proofs.EntryLaws.{strung_within}
use Rattle.fronts.proofs.FieldLaws.{body_length, front_length, header_kind, header_states, front_ends, limit_padded, space_says, system_says, methods_small, carried}
use Rattle.fronts.proofs.SaysLaws.{rows_say, columns_say, tile_rows_say, tile_columns_say, count_says, flag_says, starts_say, methods_say, label_says, fields_end_lem, kind, name, texts, says}

module _ (d : Description) (f : Fits d) where
  apart : (e i : ℕ) → e < d.elements → i < e → names_differ (front_of d) e i ≡ names_apart d.element e i
  unfolding names_differ names_apart
  apart e i h k = rw (name d f (front_of d) (carried d f) e h, name d f (front_of d) (carried d f) i (omega arith))

  element_judged : (e : ℕ) → e < d.elements → element_right (front_of d) e ≡ element_told d.element e
  unfolding element_right element_told
  element_judged e h =
      rw (kind d f (front_of d) (carried d f) e h, name d f (front_of d) (carried d f) e h, texts d f (front_of d) (carried d f) e h, below_same e (names_differ (front_of d) e) (names_apart d.element e) (λ i k. apart e i h k))

  read : entries_read (front_of d) ≡ min d.elements 16
  unfolding entries_read
  read = rw (count_says d f (front_of d) (carried d f))

  each_judged : all_below (entries_read (front_of d)) (element_right (front_of d)) ≡ all_below (min d.elements 16) (element_told d.element)
  each_judged = rw read (below_same (min d.elements 16) _ _ (λ i h. element_judged i (omega arith)))

  sides_judged : sides_right (front_of d) ≡ sides_told d.rows d.columns d.tile_rows_lem d.tile_columns_lem
  unfolding sides_right sides_told
  sides_judged = rw (rows_say d f (front_of d) (carried d f), columns_say d f (front_of d) (carried d f), tile_rows_say d f (front_of d) (carried d f), tile_columns_say d f (front_of d) (carried d f))

  -- the frame, the entries and the tail fit

  frame_right_lem : true ≡ frame_right (front_of d) (length (front_of d))
  unfolding frame_right length_right record_length
  frame_right_lem =
      let n = length (body_of d) in
      let a = least_holds (8 + n) in
      let l = yes ((header_length (front_of d) % 8 ≡? 0) ∷ (header_length (front_of d) ≤? 2147483647) ∷ (header_end (front_of d) ≤? length (front_of d)) ∷ []) (rw (header_states d f) a.1.1, (omega (arith, header_states d f, front_length d, f.long), (omega (arith, front_ends d f), tt))) in
      yes _ (sym l, (omega (arith, front_ends d f), (header_kind d f, tt)))

  entries_fit : entry_start (front_of d) (entries_read (front_of d)) ≤ header_limit (front_of d)
  unfolding entries_of
  entries_fit =
      let k : min d.elements 16 ≤ d.elements = omega arith in
      let w = strung_within d.elements (λ e. entry_of (d.element e)) (min d.elements 16) k in
      rw (read, starts_say d f (front_of d) (carried d f) (min d.elements 16) k) (omega (arith, (limit_padded d f).0, body_length d f.uuid, w))

  elements_judged : elements_right (front_of d) ≡ elements_told d.elements d.element
  unfolding elements_right elements_told
  elements_judged =
      rw (count_says d f (front_of d) (carried d f), each_judged)
      (iff _ _ (λ e. let a = means _ e in sym (yes _ (a.0, (a.1.1.0, tt))))
      (λ e. let a = means _ e in sym (yes _ (a.0, (entries_fit, (a.1.0, tt))))))

  tail_judged : tail_right (front_of d) ≡ label_told d.elements d.label
  unfolding tail_right label_told text_right
  tail_judged = rw (count_says d f (front_of d) (carried d f), methods_say d f (front_of d) (carried d f), fields_end_lem d f (front_of d) (carried d f), label_says d f (front_of d) (carried d f)) (go (leb d.elements 16))
    where
      tests : List Test
      tests = (d.methods ≤? 2147483647) ∷ (24 + length (body_of d) ≤? header_limit (front_of d)) ∷ (header_limit (front_of d) ≤? 24 + length (body_of d) + 7) ∷ is (utf8 d.label) ∷ []

      go :
          (b : Bool) →
          pick b (passes ((d.methods ≤? 2147483647) ∷ (24 + length (body_of d) ≤? header_limit (front_of d)) ∷ (header_limit (front_of d) ≤? 24 + length (body_of d) + 7) ∷ is (utf8 d.label) ∷ [])) true
          ≡ pick b (utf8 d.label) true
      go true =
          iff _ _ (λ e. (means tests e).1.1.1.0)
          (λ e. sym (yes tests (methods_small d f, ((limit_padded d f).0, ((limit_padded d f).1, (e, tt))))))
      go false = refl

  header_judged : header_right (front_of d) (length (front_of d)) ≡ header_told d
  unfolding header_right header_told options_right
  header_judged =
      rw (sides_judged, elements_judged, tail_judged, flag_says d f (front_of d) (carried d f), space_says d f, system_says d f)
      (iff _ _
      (λ e.
      let a = means _ e in
      let o = means _ a.1.1.0 in
      sym (yes _ (a.1.0, (o.0, (a.1.1.1.0, (a.1.1.1.1.0, tt))))))
      (λ e.
      let a = means _ e in
      let o = yes ((d.flag ≤? 1) ∷ (0 ≤? 2) ∷ (0 ≤? 2) ∷ []) (a.1.0, (omega arith, (omega arith, tt))) in
      sym (yes _ (sym frame_right_lem, (a.0, (sym o, (a.1.1.0, (a.1.1.1.0, tt))))))))

  front_judged : front_right (front_of d) ≡ header_told d
  unfolding front_right
  front_judged =
      let l : List Test = is (header_right (front_of d) (length (front_of d))) ∷ (header_end (front_of d) ≡? length (front_of d)) ∷ [] in
      iff _ _ (λ e. sym header_judged ∙ (means l e).0) (λ e. sym (yes l (header_judged ∙ e, (front_ends d f, tt))))

  -- stage 4

  bytes_judged : tile_bytes (front_of d) ≡ tile_told d.tile_rows_lem d.tile_columns_lem d.elements d.element
  unfolding tile_bytes element_bytes tile_told
  bytes_judged =
      rw read
      (sum_same (min d.elements 16) _ _ (λ i h. rw (tile_rows_say d f (front_of d) (carried d f), tile_columns_say d f (front_of d) (carried d f), kind d f (front_of d) (carried d f) i (omega arith))))

  ceilings_judged : within_ceilings (front_of d) (length (front_of d)) ≡ ceilings_told d
  unfolding within_ceilings sides_within ceilings_told sides_allowed counts_allowed tile_count
  ceilings_judged =
      rw (bytes_judged, count_says d f (front_of d) (carried d f), rows_say d f (front_of d) (carried d f), columns_say d f (front_of d) (carried d f), tile_rows_say d f (front_of d) (carried d f), tile_columns_say d f (front_of d) (carried d f))
      (iff _ _
      (λ e. let a = means _ e in sym (yes _ (a.0, (a.1.0, (sym (yes _ (a.1.1.0, (a.1.1.1.0, (a.1.1.1.1.0, tt)))), tt)))))
      (λ e. let a = means _ e in let c = means _ a.1.1.0 in sym (yes _ (a.0, (a.1.0, (c.0, (c.1.0, (c.1.1.0, tt))))))))

  -- stages 1 and 2

  first16 : Placed (front_of d) 0 block_bytes
  unfolding front_of
  first16 = placed_first block_bytes _ (placed_self (block_bytes ++ record_of d.flag header_record_type (body_of d)))

  marked : identified (front_of d) (length (front_of d)) ≡ true
  unfolding identified block_bytes mark part
  marked =
      let e : part (front_of d) 0 12 ≡ mark = placed_part first16 0 12 (omega arith) in
      sym (yes _ (omega (arith, front_length d), (is_same _ _ e, tt)))

  version : version_right (front_of d) ≡ true
  unfolding version_right block_bytes mark byte_at
  version = sym (yes _ (placed_byte first16 12 (omega arith), (placed_byte first16 13 (omega arith), tt)))

  pub judged : check_front (front_of d) ≡ told_verdict d
  unfolding check_front stages first_two next_two told_verdict gate
  judged = rw (marked, version, front_judged, ceilings_judged)

pub front_is_judged : FrontJudged
front_is_judged d f = judged d f

pub says_as_told : SaysAsTold
says_as_told d f = says d f (front_of d) (carried d f)
