-- Free records keep stages 7 and 8 behind any front; so do joined and cleared ones. Assumes nothing.
use Prim.Native.Nat.{ℕ, ◌+◌, ◌-◌, ◌≤◌}
use mathlib.Core.Path.{◌≡◌, refl, sym, ap, ◌∙◌}
use mathlib.Core.List.{List, ◌++◌}
use mathlib.Core.Bool.{true}
use native.Mathlib.Omega.{arith}
use lib.ListN.{length, length-append}
use lib.Dec.{eqb}
use borrow.Author.Tests.{ne_eqb}
use Rattle.wire.specs.Pick.{pick}
use Rattle.wire.specs.Bytes.{Bytes, part, bytes_of, zeros, largest_integer}
use Rattle.wire.proofs.TestLaws.{yes}
use Rattle.wire.proofs.ByteLaws.{part_whole, bytes_append, bytes_of_lem, zeros_length, zeros_bytes}
use Rattle.wire.proofs.PlaceLaws.{Placed, placed_last, placed_inner, placed_next, placed_part, placed_value, placed_byte}
use Rattle.record.specs.Record.{length_at, type_at}
use Rattle.crc32c.specs.Crc.{crc_of, crc_part}
use Rattle.header.specs.Fields.{checksum_enabled}
use Rattle.check_records.specs.declared.Rule.TheVariants.{Checksum, Body}
use Rattle.check_records.specs.Checksum.{summed_bytes, checksum_of, checksum_at, checksum_right}
use Rattle.check_records.specs.Faults.{body_right, right_of}
use Rattle.written_records.specs.Pieces.{record_head, checksum_for}
use Rattle.written_records.proofs.PieceLaws.{head_length_lem, head_stated, head_kind}
use Rattle.written_records.proofs.SealLaws.{head_bytes_lem, checksum_small}
use Rattle.pieces.specs.Pieces.{free_record}
use Rattle.pieces.proofs.FreeLaws.{free_length, free_head, free_type_lem}
use Rattle.alone.specs.Alone.{Front, alone}
use Rattle.alone.proofs.HeaderLaws.{front_header}

-- no rule of stage 8 for other types
pub body_unasked : (f r : List ℕ) → 16 ≤ length r → (type_at r 0 ≡ 1 → ⊥) → (type_at r 0 ≡ 2 → ⊥) → alone f Body r ≡ true
unfolding alone right_of body_right
body_unasked f r l a b =
    let k : type_at (f ++ r) (length f) ≡ type_at r 0 = placed_byte (placed_last f r refl) 4 (omega arith) in
    rw (k, ne_eqb (type_at r 0) 2 b, ne_eqb (type_at r 0) 1 a)

pub free_bytes : (flag n : ℕ) → Bytes (free_record flag n)
unfolding free_record
free_bytes flag n =
    bytes_append (bytes_append (head_bytes_lem n 0 (omega arith)) (zeros_bytes (n - 12))) (bytes_of_lem 4 (checksum_for flag (record_head n 0)))

module _ (f : List ℕ) (w : Front f) (flag : ℕ) (u : flag ≡ checksum_enabled f) (n : ℕ) (h : 16 ≤ n) (k : n ≤ largest_integer) where
  pub free_body : alone f Body (free_record flag n) ≡ true
  free_body =
      let l = free_length flag n h in
      let t = free_type_lem flag n h in
      body_unasked f (free_record flag n) (omega arith) (λ e. omega arith) (λ e. omega arith)

  in_whole : Placed (f ++ free_record flag n) (length f) (free_record flag n)
  in_whole = placed_last f (free_record flag n) refl

  head_there : Placed (f ++ free_record flag n) (length f) (record_head n 0)
  head_there =
      let z : length f + 0 ≡ length f = omega arith in
      rw z at (placed_inner in_whole (free_head flag n h))

  stated : length_at (f ++ free_record flag n) (length f) ≡ n
  stated = head_stated n 0 head_there (omega arith)

  type_is : type_at (f ++ free_record flag n) (length f) ≡ 0
  type_is = head_kind n 0 head_there

  summed_is : summed_bytes (type_at (f ++ free_record flag n) (length f)) (length_at (f ++ free_record flag n) (length f)) ≡ 8
  unfolding summed_bytes
  summed_is = rw type_is

  head_is : part (f ++ free_record flag n) (length f) 8 ≡ record_head n 0
  head_is =
      let z : length f + 0 ≡ length f = omega arith in
      let l = head_length_lem n 0 in
      (rw z at (placed_part head_there 0 8 (omega arith))) ∙ ap (part (record_head n 0) 0) (sym l) ∙ part_whole (record_head n 0)

  last_is : checksum_at (f ++ free_record flag n) (length f) ≡ checksum_for flag (record_head n 0)
  unfolding checksum_at free_record
  last_is =
      let c = checksum_for flag (record_head n 0) in
      let b = record_head n 0 ++ zeros (n - 12) in
      let l : length b ≡ n - 4 = length-append (record_head n 0) (zeros (n - 12)) ∙ omega (arith, head_length_lem n 0, zeros_length (n - 12)) in
      rw stated (placed_value 4 c (placed_next b (bytes_of 4 c) l in_whole) (checksum_small flag (head_bytes_lem n 0 (omega arith))))

  pub free_checksum : alone f Checksum (free_record flag n) ≡ true
  unfolding alone right_of checksum_right checksum_of crc_part checksum_for
  free_checksum =
      let e : checksum_enabled f ≡ checksum_enabled (f ++ free_record flag n) = (front_header w (free_record flag n)).flag in
      sym (yes _ (last_is ∙ ap (λ (b : ℕ). pick (eqb b 1) (crc_of (record_head n 0)) 0) (u ∙ e) ∙ rw (summed_is, head_is), tt))
