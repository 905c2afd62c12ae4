-- Stage 7 of a record that stands at two places. Assumes nothing.
use Prim.Native.Nat.{ℕ, ◌-◌, ◌≤◌}
use mathlib.Core.Path.{◌≡◌, ap, ap₂, ◌∙◌}
use mathlib.Core.List.{List}
use mathlib.Core.Bool.{Bool, true, false}
use native.Mathlib.Omega.{arith}
use lib.Dec.{eqb}
use Rattle.wire.specs.Pick.{pick}
use Rattle.wire.specs.Bytes.{part}
use Rattle.record.specs.Record.{length_at, type_at}
use Rattle.crc32c.specs.Crc.{crc_of, crc_part}
use Rattle.header.specs.Fields.{checksum_enabled}
use Rattle.check_records.specs.Checksum.{summed_bytes, checksum_of, checksum_at, checksum_right}
use Rattle.pieces.proofs.MoveLaws.{Offset}
use Rattle.alone.specs.Alone.{SameRecord}
use Rattle.alone.proofs.MovedLaws.{here, length_same, type_same, offset_part, offset_number}

module _ {s : List ℕ} {x : ℕ} {t : List ℕ} {y : ℕ} (r : SameRecord s x t y) where
  summed_same : summed_bytes (type_at s x) (length_at s x) ≡ summed_bytes (type_at t y) (length_at t y)
  summed_same = ap₂ summed_bytes (type_same r) (length_same r)

  summed_inside : summed_bytes (type_at s x) (length_at s x) ≤ length_at s x
  unfolding summed_bytes
  summed_inside = go (eqb (type_at s x) 0)
    where
      go : (b : Bool) → pick b 8 (length_at s x - 4) ≤ length_at s x
      go true = omega (arith, r.long)
      go false = omega arith

  crc_same : crc_part s x (summed_bytes (type_at s x) (length_at s x)) ≡ crc_part t y (summed_bytes (type_at t y) (length_at t y))
  unfolding crc_part
  crc_same =
      let o : Offset x y x y = record { far = 0; first = omega arith; second = omega arith } in
      ap crc_of (offset_part r.moved o (summed_bytes (type_at s x) (length_at s x)) (omega (arith, summed_inside)) ∙ ap (part t y) summed_same)

  sum_same : checksum_enabled s ≡ checksum_enabled t → checksum_of s x ≡ checksum_of t y
  unfolding checksum_of
  sum_same f = rw (f, crc_same)

  stored_same : checksum_at s x ≡ checksum_at t y
  unfolding checksum_at
  stored_same =
      offset_number r.moved (here r (length_at s x - 4)) 4 (omega (arith, r.long)) ∙ rw (length_same r)

  pub checksum_same : checksum_enabled s ≡ checksum_enabled t → checksum_right s x ≡ checksum_right t y
  unfolding checksum_right
  checksum_same f = rw (stored_same, sum_same f)
