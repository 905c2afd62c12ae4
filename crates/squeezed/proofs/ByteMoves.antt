-- What is squeezed is bytes where the page is. Assumes nothing.
use Prim.Native.Nat.{ℕ, ◌+◌, ◌-◌}
use mathlib.Core.List.{List, [], ◌∷◌, ◌++◌}
use mathlib.Core.Bool.{Bool, true, false}
use lib.Dec.{eqb}
use Rattle.wire.specs.Pick.{pick}
use Rattle.wire.specs.Bytes.{Bytes}
use Rattle.wire.proofs.ByteLaws.{bytes_none, bytes_append, bytes_part, bytes_take, bytes_of_lem}
use Rattle.wire.proofs.PutLaws.{bytes_put}
use Rattle.record.specs.Record.{length_at, type_at}
use Rattle.record.specs.Chain.{header_end, joined}
use Rattle.header.specs.Fields.{checksum_enabled}
use Rattle.written_records.specs.Pieces.{sealed}
use Rattle.pieces.specs.Pieces.{piece_at, free_record}
use Rattle.pieces.specs.Edits.{left_over, resealed, reference_bytes}
use Rattle.alone.proofs.FreeLaws.{free_bytes}
use Rattle.correct.specs.Front.{sealed_front}
use Rattle.correct.specs.Renamed.{reference_in, reference_then, tiles_renamed, entry_in, position_then, metadata_renamed, renamed_in}
use Rattle.correct.specs.Squeezing.{squeezed_from, squeezed_pieces, squeezed_fields, squeezed_page}
use Rattle.squeezed.proofs.PutLaws.{each_bytes}

sealed_bytes : (flag : ℕ) (r : List ℕ) → Bytes r → Bytes (resealed flag r)
unfolding resealed sealed
sealed_bytes flag r b = bytes_put _ b (bytes_of_lem 4 _)

module _ (s : List ℕ) (b : Bytes s) (named : ℕ → ℕ) where
  reference_bytes_lem : (i : ℕ) → Bytes (reference_then s named i)
  unfolding reference_bytes
  reference_bytes_lem i = bytes_of_lem _ _

  piece_bytes : (x : ℕ) → Bytes (piece_at s x)
  unfolding piece_at
  piece_bytes x = bytes_part x (length_at s x) b

  renamed_bytes : (x : ℕ) → Bytes (renamed_in s named (piece_at s x))
  unfolding renamed_in tiles_renamed metadata_renamed
  renamed_bytes x = go (eqb (type_at (piece_at s x) 0) 5) (eqb (type_at (piece_at s x) 0) 4)
    where
      go : (c d : Bool) → Bytes (pick c (tiles_renamed s named (piece_at s x)) (pick d (metadata_renamed s named (piece_at s x)) (piece_at s x)))
      go true d = sealed_bytes (checksum_enabled s) _ (each_bytes (reference_in s) (reference_then s named) (piece_at s x) (piece_bytes x) reference_bytes_lem _)
      go false true = sealed_bytes (checksum_enabled s) _ (each_bytes (entry_in s) (position_then s named) (piece_at s x) (piece_bytes x) (λ i. bytes_of_lem 8 _) _)
      go false false = piece_bytes x

  from_bytes : (flag e : ℕ) (xs ps : List ℕ) → Bytes (joined (squeezed_from flag named s e xs ps))
  unfolding squeezed_from left_over
  from_bytes flag e [] ps = bytes_none
  from_bytes flag e (x ∷ xs) [] = bytes_none
  from_bytes flag e (x ∷ xs) (p ∷ ps) = go (eqb (p - e) 0) (from_bytes flag (p + length_at s x) xs ps)
    where
      go :
          (c : Bool) → Bytes (joined (squeezed_from flag named s (p + length_at s x) xs ps)) →
          Bytes (joined (pick c [] (free_record flag (p - e) ∷ []) ++ (renamed_in s named (piece_at s x) ∷ squeezed_from flag named s (p + length_at s x) xs ps)))
      go true h = bytes_append (renamed_bytes x) h
      go false h = bytes_append (free_bytes flag (p - e)) (bytes_append (renamed_bytes x) h)

pub squeezed_bytes : (s : List ℕ) → Bytes s → (ps : List ℕ) → Bytes (squeezed_page s ps)
unfolding squeezed_page squeezed_pieces squeezed_fields sealed_front sealed
squeezed_bytes s b ps =
    bytes_append (bytes_put _ (bytes_put 80 (bytes_put 64 (bytes_take (header_end s) b) (bytes_of_lem 8 _)) (bytes_of_lem 8 _)) (bytes_of_lem 4 _)) (from_bytes s b _ (checksum_enabled s) (header_end s) _ ps)
