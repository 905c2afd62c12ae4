-- A record put together from its body keeps the rules of its frame and its checksum. Assumes nothing.
use Prim.Native.Nat.{ℕ, ◌≤◌, ◌<◌}
use mathlib.Core.Path.{◌≡◌, refl, sym, ◌∙◌}
use mathlib.Core.List.{List}
use mathlib.Core.Bool.{true}
use native.Mathlib.Omega.{arith}
use lib.ListN.{length}
use Rattle.wire.specs.Bytes.{Bytes, largest_integer}
use Rattle.wire.proofs.ByteLaws.{bytes_append, bytes_of_lem}
use Rattle.wire.proofs.PlaceLaws.{Placed, placed_last}
use Rattle.record.specs.Record.{length_at}
use Rattle.header.specs.Fields.{checksum_enabled}
use Rattle.check_records.specs.declared.Rule.TheVariants.{Checksum}
use Rattle.check_records.specs.Checksum.{checksum_right}
use Rattle.check_records.specs.Faults.{right_of}
use Rattle.check_records.proofs.RecordLaws.{checksum_placed}
use Rattle.written_records.specs.Pieces.{checksum_for, record_length, unclosed, record_of}
use Rattle.written_records.proofs.PieceLaws.{record_holds, unclosed_length, record_length_lem, placed_kind, placed_stated, record_well}
use Rattle.written_records.proofs.SealLaws.{unclosed_bytes}
use Rattle.alone.specs.Alone.{Front, alone}
use Rattle.alone.specs.Edited.{Piece}
use Rattle.alone.proofs.HeaderLaws.{front_header}

-- a record put together from its body

pub record_checksum :
    {s : List ℕ} {x : ℕ} (flag kind : ℕ) (body : List ℕ) → Placed s x (record_of flag kind body) → checksum_enabled s ≡ flag → Bytes body →
    (kind ≡ 0 → ⊥) → kind < 256 → length (record_of flag kind body) ≤ largest_integer → checksum_right s x ≡ true
unfolding record_of checksum_for
record_checksum {s} {x} flag kind body p f w z k h =
    let n : length_at s x ≡ record_length (length body) = placed_stated flag kind body p h ∙ record_length_lem flag kind body in
    checksum_placed (unclosed kind body) _ p (rw f) (unclosed_bytes kind k w)
    (omega (arith, unclosed_length kind body, record_holds (length body))) (λ e. z (sym (placed_kind flag kind body p) ∙ e))

module _ (flag kind : ℕ) (body : List ℕ) (b : Bytes body) (k : kind ≤ 5) (h : length (record_of flag kind body) ≤ largest_integer) where
  record_bytes : Bytes (record_of flag kind body)
  unfolding record_of
  record_bytes = bytes_append (unclosed_bytes kind (omega arith) b) (bytes_of_lem 4 _)

  pub new_piece : Piece (record_of flag kind body)
  new_piece = let w = record_well flag kind body k h in record { ok = w.0; stated = w.1; bytes = record_bytes }

  pub new_checksum : (f : List ℕ) → Front f → flag ≡ checksum_enabled f → (kind ≡ 0 → ⊥) → alone f Checksum (record_of flag kind body) ≡ true
  unfolding alone right_of
  new_checksum f w u z =
      record_checksum flag kind body (placed_last f (record_of flag kind body) refl) (sym (u ∙ (front_header w (record_of flag kind body)).flag)) b z (omega arith) h
