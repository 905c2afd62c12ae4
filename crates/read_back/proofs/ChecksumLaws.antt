-- The checksum of the header of a file that is laid down is right: stage 7. Assumes nothing.
use Prim.Native.Nat.{ℕ, ◌-◌, ◌≤◌}
use mathlib.Core.Path.{◌≡◌, sym, ◌∙◌}
use mathlib.Core.List.{List, ◌++◌}
use mathlib.Core.Bool.{true}
use native.Mathlib.Omega.{arith}
use lib.ListN.{length}
use Rattle.wire.specs.Bytes.{part, bytes_of}
use Rattle.wire.proofs.TestLaws.{means}
use Rattle.wire.proofs.ByteLaws.{number_same, byte_same, part_length, bytes_part}
use Rattle.wire.proofs.PlaceLaws.{Placed, placed_before}
use Rattle.header.specs.Fields.{checksum_enabled}
use Rattle.record.specs.Chain.{header_end}
use Rattle.record.specs.Record.{length_at, type_at, content_at}
use Rattle.check_header.specs.HeaderRecord.{frame_right, header_right}
use Rattle.check_records.specs.Checksum.{checksum_right}
use Rattle.check_records.proofs.RecordLaws.{checksum_placed}
use Rattle.written_records.specs.Pieces.{checksum_for}
use Rattle.lay_down.specs.Page.{directory_start, fields_set, laid_file}
use Rattle.lay_down.proofs.PageLaws.{fields_length}
use Rattle.lay_down.proofs.ChainLaws.{laid_joined}
use Rattle.lay_down.proofs.FieldLaws.{fields_bytes, front_sealed}
use Rattle.read_back.proofs.Setting.{Laying}
use Rattle.read_back.proofs.FrontLaws.{front_judged, front_kept}

module _ {f : List ℕ} {t : ℕ} {ix c : List ℕ} (l : Laying f t ix c) where
  header_typed : type_at f 16 ≡ 6
  unfolding header_right frame_right
  header_typed = (means _ (means _ l.headed.header).0).1.1.0

  header_stated : length_at f 16 ≡ length f - 16
  unfolding header_end
  header_stated = let e = l.no_more_lem in omega arith

  pub header_checksum : checksum_right (laid_file f t ix c) 16 ≡ true
  unfolding checksum_for
  header_checksum =
      let s = laid_file f t ix c in
      let j = front_judged l in
      let k : 288 ≤ length f = omega (arith, l.front.header_least, l.front.header_inside) in
      let d = content_at (directory_start f ix) in
      let g = fields_set f t d in
      let u = part g 16 (length f - 16 - 4) in
      let p : type_at s 16 ≡ 6 = sym (byte_same j.frame 20 (omega arith) (omega arith)) ∙ header_typed in
      let q : length_at s 16 ≡ length f - 16 = sym (number_same j.frame 4 16 (omega arith) (omega arith)) ∙ header_stated in
      let n : length u ≡ length f - 16 - 4 = part_length g 16 (length f - 16 - 4) (omega (arith, fields_length f t d)) in
      let a : Placed s 16 (u ++ bytes_of 4 (checksum_for (checksum_enabled f) u)) =
      rw (laid_joined f t ix c) (placed_before (front_sealed f t d (omega arith)) _) in
      checksum_placed u _ a (rw (front_kept l).flag) (bytes_part 16 _ (fields_bytes f t d l.front_bytes)) (omega arith) (λ x. omega (arith, p, x))
