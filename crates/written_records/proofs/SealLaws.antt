-- What is put together is bytes, and what is sealed ends in the checksum of what stands before it. Assumes nothing.
use Prim.Native.Nat.{ℕ, zero, suc, ◌+◌, ◌-◌, ◌≤◌, ◌<◌}
use mathlib.Core.Path.{◌≡◌, sym, ap, ◌∙◌}
use mathlib.Core.List.{List, ◌++◌, append_assoc}
use mathlib.Core.Logic.{inl}
use mathlib.Core.Bool.{Bool, true, false}
use native.Mathlib.Omega.{arith}
use lib.ListN.{length, take, drop}
use lib.Seq.{take-add, length-take-le}
use lib.Dec.{eqb}
use Rattle.wire.specs.Pick.{pick}
use Rattle.wire.specs.Bytes.{Bytes, part, bytes_of, Same}
use Rattle.wire.proofs.ByteLaws.{part_in, bytes_length, bytes_none, bytes_cons, bytes_append, bytes_part, bytes_of_lem, zeros_bytes}
use Rattle.wire.proofs.PutLaws.{put_fits, put_same}
use Rattle.wire.proofs.PlaceLaws.{Placed}
use Rattle.crc32c.specs.Crc.{crc_of}
use Rattle.crc32c.proofs.Range.{crc_small}
use Rattle.written_records.specs.Pieces.{checksum_for, record_head, unclosed, section, sealed}
use Rattle.written_records.specs.Tile.{sections, sections_of}

-- what is put together is bytes

pub head_bytes_lem : (n kind : ℕ) → kind < 256 → Bytes (record_head n kind)
unfolding record_head
head_bytes_lem n kind k = bytes_append (bytes_append (bytes_of_lem 4 n) (bytes_cons kind k bytes_none)) (zeros_bytes 3)

pub unclosed_bytes : (kind : ℕ) {body : List ℕ} → kind < 256 → Bytes body → Bytes (unclosed kind body)
unfolding unclosed
unclosed_bytes kind k w = bytes_append (bytes_append (head_bytes_lem _ kind k) w) (zeros_bytes _)

section_bytes : {s : List ℕ} → Bytes s → Bytes (section s)
unfolding section
section_bytes w = bytes_append (bytes_append (bytes_of_lem 4 _) w) (zeros_bytes _)

pub sections_bytes : (f : List ℕ) (n : ℕ) {c : List ℕ} → Bytes c → Bytes (sections f n c)
unfolding sections sections_of
sections_bytes f zero w = bytes_none
sections_bytes f (suc n) w = bytes_append (sections_bytes f n w) (section_bytes (bytes_part _ _ w))

-- and a checksum has four
pub checksum_small : (flag : ℕ) {s : List ℕ} → Bytes s → checksum_for flag s < 4294967296
unfolding checksum_for
checksum_small flag {s} w = go (eqb flag 1)
  where
    go : (b : Bool) → pick b (crc_of s) 0 < 4294967296
    go true = crc_small s w
    go false = omega arith

-- what is sealed in a buffer: the bytes that stand there before the last four, which stay, and then the checksum of them
module _ (flag : ℕ) (d : List ℕ) (at n : ℕ) (h : 4 ≤ n) (k : at + n ≤ length d) where
  pub sealed_same : (a b : ℕ) → b ≤ at + (n - 4) → Same d (sealed flag d at n) a b
  unfolding sealed
  sealed_same a b l = put_same d (at + (n - 4)) _ a b (omega arith) (inl l)

  pub sealed_placed : Placed (sealed flag d at n) at (part d at (n - 4) ++ bytes_of 4 (checksum_for flag (part d at (n - 4))))
  unfolding sealed
  sealed_placed =
      let u = part d at (n - 4) in
      let v = bytes_of 4 (checksum_for flag u) in
      let l = bytes_length 4 (checksum_for flag u) in
      let e : take (at + (n - 4)) d ≡ take at d ++ u =
      take-add at (n - 4) d ∙ ap (λ (x : List ℕ). take at d ++ x) (sym (part_in d at (n - 4) (omega arith))) in
      record {
        before = take at d;
        behind = drop (at + (n - 4) + length v) d;
        whole = put_fits d (at + (n - 4)) v (omega arith) ∙ rw e (simp append_assoc);
        start = length-take-le at d (omega arith);
      }
