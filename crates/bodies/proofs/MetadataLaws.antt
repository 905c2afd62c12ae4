-- The fields of a metadata record. Assumes nothing.
use Prim.Native.Nat.{ℕ, ◌+◌, ◌≤◌, ◌<◌}
use mathlib.Core.Path.{◌≡◌, sym, ◌∙◌}
use mathlib.Core.List.{List, []}
use native.Mathlib.Omega.{arith}
use lib.ListN.{length}
use borrow.Author.Tests.{le-leb, lt-leb}
use Rattle.header.specs.Element.{string_end, string_size}
use Rattle.wire.specs.Bytes.{number_at, part, part_at, byte_at, u16_at}
use Rattle.wire.proofs.ByteLaws.{number_out, byte_out, part_out}
use Rattle.bodies.specs.MetadataRecord.{record_id_at, record_id_start, record_id, data_type, metadata_name}

id_behind : (s : List ℕ) (at : ℕ) → at + 10 ≤ record_id_at s at
unfolding record_id_at string_end string_size
id_behind s at = omega arith

pub id_past : (s : List ℕ) (at : ℕ) → length s ≤ at → 0 ≡ record_id s at
unfolding record_id
id_past s at h = number_out 4 s (record_id_at s at) (omega (arith, id_behind s at))

pub type_past : (s : List ℕ) (at : ℕ) → length s ≤ at → 0 ≡ data_type s at
unfolding data_type
type_past s at h = byte_out s (record_id_at s at + 4) (omega (arith, id_behind s at))

pub name_past : (s : List ℕ) (at : ℕ) → length s ≤ at → [] ≡ metadata_name s at
unfolding metadata_name
name_past s at h = sym (part_out s (at + 10) (u16_at s (at + 8)) (omega arith))

pub record_id_is : (s : List ℕ) (at p r : ℕ) → p ≡ record_id_at s at → r ≡ number_at 4 s p → r ≡ record_id s at
unfolding record_id
record_id_is s at p r a e = e ∙ rw a

pub named_is : (s : List ℕ) (at n : ℕ) (l : List ℕ) → n ≡ number_at 2 s (at + 8) → l ≡ part s (at + 10) n → l ≡ metadata_name s at
unfolding metadata_name
named_is s at n l a e = e ∙ rw a

pub name_offset : (s : List ℕ) (at n o p : ℕ) → n ≡ number_at 2 s (at + 8) → o ≡ p + part_at s (at + 10) n → o ≡ p + part_at s (at + 10) (u16_at s (at + 8))
name_offset s at n o p a e = e ∙ rw a

pub id_is : (s : List ℕ) (at n : ℕ) → n ≡ string_size s (at + 8) → at + 8 + n ≡ record_id_at s at
unfolding record_id_at string_end
id_is s at n e = rw e

pub data_type_is : (s : List ℕ) (at p r : ℕ) → p ≡ record_id_at s at → r ≡ byte_at s (p + 4) → r ≡ data_type s at
unfolding data_type
data_type_is s at p r a e = e ∙ rw a

-- where the record lies in the file, and where not

pub id_none : (s : List ℕ) (at : ℕ) → length s ≤ at → 0 ≡ record_id_start s at
unfolding record_id_start
id_none s at h = rw (le-leb (length s) at h)

pub id_start : (s : List ℕ) (at r : ℕ) → at < length s → r ≡ record_id_at s at → r ≡ record_id_start s at
unfolding record_id_start
id_start s at r h q = rw (lt-leb (length s) at h) q

pub id_told : (s : List ℕ) (at r : ℕ) → at < length s → r ≡ record_id_start s at → r ≡ record_id_at s at
unfolding record_id_start
id_told s at r h p = rw (lt-leb (length s) at h) at p
