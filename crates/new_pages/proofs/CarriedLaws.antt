-- Bytes that keep a front but for what a lay-down sets carry what the front was told. Assumes nothing.
use Prim.Native.Nat.{ℕ, ◌+◌, ◌-◌, ◌≤◌, ◌<◌}
use mathlib.Core.Path.{◌≡◌, sym, ◌∙◌}
use mathlib.Core.List.{List}
use mathlib.Core.Logic.{inl, inr}
use native.Mathlib.Omega.{arith}
use lib.ListN.{length}
use Rattle.wire.specs.Bytes.{byte_at, part, bytes_of, Same}
use Rattle.wire.proofs.ByteLaws.{part_same, part_whole, bytes_length}
use Rattle.wire.proofs.PlaceLaws.{Placed, placed_part, part_placed}
use Rattle.record.specs.Chain.{header_end}
use Rattle.header.specs.Fields.{header_limit}
use Rattle.header.proofs.SameLaws.{limit_is}
use Rattle.check_header.proofs.Judged.{end_same}
use Rattle.written_records.proofs.PieceLaws.{record_holds}
use Rattle.lay_down.specs.Page.{NotSet}
use Rattle.fronts.specs.Front.{Description, Fits, string_of, entries_of, methods_of, body_of, front_of}
use Rattle.fronts.proofs.EntryLaws.{string_length}
use Rattle.fronts.proofs.FieldLaws.{Carries, body_length, front_length, front_ends, limit_padded, carried}

placed_kept : {f s x : List ℕ} {at : ℕ} → Placed f at x → Same f s at (at + length x) → Placed s at x
placed_kept {f} {s} {x} {at} p e =
    let z : at + 0 ≡ at = omega arith in
    let w : part f at (length x) ≡ part x 0 (length x) = rw z at (placed_part p 0 (length x) (omega arith)) in
    let q : part s at (length x) ≡ x = sym (part_same e at (length x) (omega arith) (omega arith)) ∙ w ∙ part_whole x in
    rw q at (part_placed s at (length x) e.in_second)

module _
    (d : Description) (fits : Fits d) (s : List ℕ) (longer : length (front_of d) ≤ length s)
    (kept : (i : ℕ) → i < length (front_of d) - 4 → NotSet i → byte_at s i ≡ byte_at (front_of d) i)
  where
    same : (a b : ℕ) → b ≤ length (front_of d) - 4 → ((i : ℕ) → a ≤ i → i < b → NotSet i) → Same (front_of d) s a b
    same a b h o = record { in_first = omega arith; in_second = omega arith; each = λ i l m. sym (kept i (omega arith) (o i l m)) }

    behind : (a b : ℕ) → 88 ≤ a → b ≤ length (front_of d) - 4 → Same (front_of d) s a b
    behind a b h k = same a b k (λ i l m. inr (inr (omega arith)))

    -- the body ends before the checksum
    ends : 24 + length (body_of d) ≤ length (front_of d) - 4
    ends = omega (arith, front_length d, record_holds (length (body_of d)))

    limit_kept : header_limit s ≡ header_limit (front_of d)
    limit_kept =
        let b : length (body_of d) ≡ 264 + length (entries_of d d.elements) + length (methods_of d d.methods) + (2 + length d.label) + 8 =
        body_length d fits.uuid in
        let n : 24 + length (body_of d) ≤ length (front_of d) - 4 = ends in
        let e : header_end (front_of d) ≡ header_end s = end_same (same 16 21 (omega arith) (λ i l m. inl (omega arith))) in
        let f : header_end (front_of d) ≡ length (front_of d) = front_ends d fits in
        omega (arith, limit_is s (omega arith), limit_is (front_of d) (omega arith))

    pub carried_kept : Carries s d
    carried_kept =
        let c = carried d fits in
        let b : length (body_of d) ≡ 264 + length (entries_of d d.elements) + length (methods_of d d.methods) + (2 + length d.label) + 8 =
        body_length d fits.uuid in
        let n : 24 + length (body_of d) ≤ length (front_of d) - 4 = ends in
        let l : length (string_of d.label) ≡ 2 + length d.label = string_length d.label in
        let w1 : length (bytes_of 4 d.rows) ≡ 4 = bytes_length 4 d.rows in
        let w2 : length (bytes_of 4 d.columns) ≡ 4 = bytes_length 4 d.columns in
        let w3 : length (bytes_of 4 d.tile_rows_lem) ≡ 4 = bytes_length 4 d.tile_rows_lem in
        let w4 : length (bytes_of 4 d.tile_columns_lem) ≡ 4 = bytes_length 4 d.tile_columns_lem in
        let w5 : length (bytes_of 4 d.elements) ≡ 4 = bytes_length 4 d.elements in
        let w6 : length (bytes_of 4 d.methods) ≡ 4 = bytes_length 4 d.methods in
        let u : length d.uuid ≡ 16 = fits.uuid in
        record {
          uuid = placed_kept c.uuid (same 24 (24 + length d.uuid) (omega arith) (λ i h k. inl (omega arith)));
          rows = placed_kept c.rows (behind 104 _ (omega arith) (omega arith));
          columns = placed_kept c.columns (behind 108 _ (omega arith) (omega arith));
          tile_rows_lem = placed_kept c.tile_rows_lem (behind 112 _ (omega arith) (omega arith));
          tile_columns_lem = placed_kept c.tile_columns_lem (behind 116 _ (omega arith) (omega arith));
          flag = placed_kept c.flag (behind 128 _ (omega arith) (omega arith));
          count = placed_kept c.count (behind 280 _ (omega arith) (omega arith));
          entries = placed_kept c.entries (behind 284 _ (omega arith) (omega arith));
          method_count_lem = placed_kept c.method_count_lem (behind _ _ (omega arith) (omega arith));
          methods = placed_kept c.methods (behind _ _ (omega arith) (omega arith));
          label = placed_kept c.label (behind _ _ (omega arith) (omega arith));
          limit = omega (arith, limit_kept, (limit_padded d fits).0);
        }
