-- A record put together from its body is a record by itself, and no byte more; what it and a section say wherever they stand.
-- Assumes nothing.
use Prim.Native.Nat.{ℕ, ◌+◌, ◌*◌, ◌/◌, ◌%◌, ◌-◌, ◌≤◌, ◌<◌}
use mathlib.Core.Path.{◌≡◌, sym, ◌∙◌}
use mathlib.Core.List.{List, [], ◌∷◌, ◌++◌}
use mathlib.Core.Bool.{true}
use native.Mathlib.Omega.{arith}
use lib.ListN.{length, length-append}
use Rattle.wire.specs.Bytes.{bytes_of, byte_at, u32_at, largest_integer, zeros}
use Rattle.wire.proofs.ByteLaws.{bytes_length, zeros_length}
use Rattle.wire.proofs.PlaceLaws.{Placed, placed_self, placed_last, placed_before, placed_first, placed_next, placed_byte, placed_value}
use Rattle.record.specs.Record.{length_at, type_at, record_ok}
use Rattle.record.proofs.ChainLaws.{means_ok}
use Rattle.geometry.specs.Sizes.{stored_size, least_length}
use Rattle.written_records.specs.Pieces.{checksum_for, record_head, record_length, unclosed, record_of, section}

-- lengths

pub head_length_lem : (n kind : ℕ) → length (record_head n kind) ≡ 8
unfolding record_head
head_length_lem n kind =
    let a = length-append (bytes_of 4 n ++ (kind ∷ [])) (zeros 3) in
    let b = length-append (bytes_of 4 n) (kind ∷ []) in
    omega (arith, a, b, bytes_length 4 n, zeros_length 3)

-- the least length holds the bytes and the checksum, is no longer than it has to be, and is a multiple of 8
pub least_holds : (n : ℕ) → (n + 4 ≤ least_length n) × ((least_length n ≤ n + 11) × (least_length n % 8 ≡ 0))
unfolding least_length
least_holds n = (omega arith, (omega arith, omega arith))

-- so the length of a record holds its head, its body and its checksum
pub record_holds : (n : ℕ) → 8 + n + 4 ≤ record_length n
unfolding record_length
record_holds n = (least_holds (8 + n)).0

pub unclosed_length : (kind : ℕ) (body : List ℕ) → length (unclosed kind body) ≡ record_length (length body) - 4
unfolding unclosed
unclosed_length kind body =
    let n = record_length (length body) in
    let a = length-append (record_head n kind ++ body) (zeros (n - 4 - (8 + length body))) in
    let b = length-append (record_head n kind) body in
    omega (arith, a, b, head_length_lem n kind, zeros_length (n - 4 - (8 + length body)), record_holds (length body))

pub record_length_lem : (flag kind : ℕ) (body : List ℕ) → length (record_of flag kind body) ≡ record_length (length body)
unfolding record_of
record_length_lem flag kind body =
    let a = length-append (unclosed kind body) (bytes_of 4 (checksum_for flag (unclosed kind body))) in
    omega (arith, a, unclosed_length kind body, bytes_length 4 (checksum_for flag (unclosed kind body)), record_holds (length body))

-- its body stands behind its first eight bytes
pub record_body : (flag kind : ℕ) (body : List ℕ) → Placed (record_of flag kind body) 8 body
unfolding record_of unclosed
record_body flag kind body =
    let n = record_length (length body) in
    placed_before
    (placed_before (placed_last (record_head n kind) body (head_length_lem n kind)) (zeros (n - 4 - (8 + length body))))
    (bytes_of 4 (checksum_for flag (unclosed kind body)))

-- a head says its type and its length wherever it stands
module _ {s : List ℕ} {at : ℕ} (n kind : ℕ) (p : Placed s at (record_head n kind)) where
  length_type : Placed s at (bytes_of 4 n ++ (kind ∷ []))
  unfolding record_head
  length_type = placed_first (bytes_of 4 n ++ (kind ∷ [])) (zeros 3) p

  pub head_kind : type_at s at ≡ kind
  unfolding byte_at
  head_kind =
      let e : at + 4 + 0 ≡ at + 4 = omega arith in
      rw e at (placed_byte (placed_next (bytes_of 4 n) (kind ∷ []) (bytes_length 4 n) length_type) 0 (omega arith))

  pub head_stated : n < 4294967296 → length_at s at ≡ n
  head_stated h = placed_value 4 n (placed_first (bytes_of 4 n) (kind ∷ []) length_type) h

-- so does a record
module _ {s : List ℕ} {at : ℕ} (flag kind : ℕ) (body : List ℕ) (p : Placed s at (record_of flag kind body)) where
  head_there : Placed s at (record_head (record_length (length body)) kind)
  unfolding record_of unclosed
  head_there =
      let n = record_length (length body) in
      let u = placed_first (unclosed kind body) (bytes_of 4 (checksum_for flag (unclosed kind body))) p in
      placed_first (record_head n kind) body (placed_first (record_head n kind ++ body) (zeros (n - 4 - (8 + length body))) u)

  pub placed_kind : type_at s at ≡ kind
  placed_kind = head_kind (record_length (length body)) kind head_there

  pub placed_stated : length (record_of flag kind body) ≤ largest_integer → length_at s at ≡ length (record_of flag kind body)
  placed_stated h =
      let n = record_length_lem flag kind body in
      head_stated (record_length (length body)) kind head_there (omega arith) ∙ sym n

-- it is a record by itself, and no byte more
pub record_well :
    (flag kind : ℕ) (body : List ℕ) → kind ≤ 5 → length (record_of flag kind body) ≤ largest_integer →
    (record_ok (record_of flag kind body) 0 ≡ true) × (length_at (record_of flag kind body) 0 ≡ length (record_of flag kind body))
unfolding record_length
record_well flag kind body k h =
    let p = placed_self (record_of flag kind body) in
    let b = record_length_lem flag kind body in
    let a = placed_stated flag kind body p h in
    let c = placed_kind flag kind body p in
    let d = least_holds (8 + length body) in (
      means_ok _ _
          (record {
            long = omega (arith, a, d.0);
            plain = omega (arith, a);
            eights = rw (a, b) d.1.1;
            inside = omega (arith, a);
            known = omega (arith, c);
          }),
      a,
    )

-- a section: its length
pub section_length_lem : (bytes : List ℕ) → length (section bytes) ≡ stored_size (length bytes)
unfolding section stored_size
section_length_lem bytes =
    let n = length bytes in
    let a = length-append (bytes_of 4 n ++ bytes) (zeros ((n + 3) / 4 * 4 - n)) in
    let b = length-append (bytes_of 4 n) bytes in
    omega (arith, a, b, bytes_length 4 n, zeros_length ((n + 3) / 4 * 4 - n))

-- it says the length of its bytes, which stand behind that
module _ (bytes : List ℕ) {s : List ℕ} {x : ℕ} (p : Placed s x (section bytes)) where
  section_parts : Placed s x (bytes_of 4 (length bytes) ++ bytes)
  unfolding section
  section_parts = placed_first (bytes_of 4 (length bytes) ++ bytes) _ p

  pub section_states : length bytes < 4294967296 → u32_at s x ≡ length bytes
  section_states h = placed_value 4 _ (placed_first (bytes_of 4 (length bytes)) bytes section_parts) h

  pub bytes_there : Placed s (x + 4) bytes
  bytes_there = placed_next (bytes_of 4 (length bytes)) bytes (bytes_length 4 (length bytes)) section_parts
